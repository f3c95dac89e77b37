use Rattle.std.proofs.Common.{rules}
use Rattle.attest_report.proofs.Versions.{report2_put}
use Rattle.attest_report.proofs.report.report2_bytes.Goals as goal

pub returns : goal.returns
returns c =
    report2_put c.args.report.now c.args.layout c.args.key.now c.signed2_bytes-signed.result c.hmac.result _ _
    c.signed2_bytes-signed.ensures c.hmac.ensures (search rules) (search rules) (search rules)
    c.put.ensures.front c.put-2.ensures.front
