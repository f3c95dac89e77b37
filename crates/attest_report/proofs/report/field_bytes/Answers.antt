use Rattle.std.proofs.Common.{rules}
use Rattle.attest_report.proofs.Fields.{fields_put}
use Rattle.attest_report.proofs.report.field_bytes.Goals as goal

pub returns : goal.returns
returns c =
    fields_put c.args.report.now c.to_le_bytes.result c.to_le_bytes-2.result
    _ _ _ _ _ _ _ (search rules) (search rules) (search rules) (search rules) (search rules)
    c.to_le_bytes.ensures c.to_le_bytes-2.ensures
    c.put.ensures.front c.put-2.ensures.front c.put-3.ensures.front c.put-4.ensures.front
    c.put-5.ensures.front c.put-6.ensures.front c.put-7.ensures.front
