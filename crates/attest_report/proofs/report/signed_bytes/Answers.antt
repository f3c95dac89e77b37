use Rattle.std.proofs.Common.{rules}
use Rattle.attest_report.proofs.Versions.{signed_put}
use Rattle.attest_report.proofs.report.signed_bytes.Goals as goal

pub returns : goal.returns
returns c =
    signed_put c.args.report.now c.field_bytes.result _ _ c.field_bytes.ensures (search rules) (search rules)
    c.put.ensures.front c.put-2.ensures.front
