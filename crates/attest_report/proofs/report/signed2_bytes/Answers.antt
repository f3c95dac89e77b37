use Rattle.std.proofs.Common.{rules}
use Rattle.attest_report.proofs.Versions.{signed2_put}
use Rattle.attest_report.proofs.report.signed2_bytes.Goals as goal

pub returns : goal.returns
returns c =
    signed2_put c.args.report.now c.args.layout c.layout_number.result c.field_bytes.result _ _
    c.layout_number.ensures c.field_bytes.ensures (search rules) (search rules)
    c.put.ensures.front c.put-2.ensures.front
