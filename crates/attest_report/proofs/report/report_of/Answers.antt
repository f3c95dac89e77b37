use Rattle.std.proofs.Common.{arith, refl, rules}
use Rattle.attest_report.proofs.Fields.{number_back_4, number_back_8, written_back}
use Rattle.attest_report.proofs.report.report_of.Goals as goal

pub returns-clause-written_back : goal.returns-clause-written_back
returns-clause-written_back c =
    written_back c.args.fields.now c.field-4.result c.field-5.result _ (search rules)
    c.field.ensures c.field-2.ensures c.field-3.ensures
    c.field-4.ensures (number_back_8 c.args.fields.now c.field-4.result 96 _ (λ i. let f = c.fits-fields i in omega arith) (search rules) c.field-4.ensures c.from_le_bytes.ensures)
    refl
    c.field-5.ensures (number_back_4 c.args.fields.now c.field-5.result 105 _ (λ i. let f = c.fits-fields i in omega arith) (search rules) c.field-5.ensures c.from_le_bytes-2.ensures)
    c.field-6.ensures
