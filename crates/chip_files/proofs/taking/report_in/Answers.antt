use Rattle.std.proofs.Common.{None, Some, refl, ap, ◌∙◌}
use Rattle.attest_report.specs.declared.refusal.ReportError.TheVariants.{Tag}
use Rattle.chip_files.specs.Verdict.{form_fault}
use Rattle.chip_files.specs.declared.refusal.Refusal.TheVariants.{Report as report_refused}
use Rattle.chip_files.proofs.Verdicts.{form_refused, made_by, report_key_is, verdict_is}
use Rattle.chip_files.proofs.taking.report_in.Goals as goal

pub returns-in-Ok-clause-verdict : goal.returns-in-Ok-clause-verdict
returns-in-Ok-clause-verdict c =
    let made = c.in-Ok.ensures.made in
    made_by c.args.device_key.now c.args.text.now _ c.in-Ok.signed (report_key_is c.args.device_key.now c.derive.result c.derive.ensures) made.0 made.1

pub returns-in-Ok-clause-formed : goal.returns-in-Ok-clause-formed
returns-in-Ok-clause-formed c =
    ap form_fault (verdict_is c.args.device_key.now c.args.text.now _ None
    (report_key_is c.args.device_key.now c.derive.result c.derive.ensures) c.in-Ok.ensures.refused)

pub returns-in-Tag-clause-verdict : goal.returns-in-Tag-clause-verdict
returns-in-Tag-clause-verdict c =
    verdict_is c.args.device_key.now c.args.text.now _ (Some Tag)
    (report_key_is c.args.device_key.now c.derive.result c.derive.ensures) (rw c.in-Tag.is at c.in-Err.ensures.refused)

pub returns-in-Tag-clause-formed : goal.returns-in-Tag-clause-formed
returns-in-Tag-clause-formed c =
    ap form_fault (verdict_is c.args.device_key.now c.args.text.now _ (Some Tag)
    (report_key_is c.args.device_key.now c.derive.result c.derive.ensures) (rw c.in-Tag.is at c.in-Err.ensures.refused))

pub returns-in_default-clause-refused : goal.returns-in_default-clause-refused
returns-in_default-clause-refused c =
    let verdict = verdict_is c.args.device_key.now c.args.text.now _ (Some c.in-Err.fault)
    (report_key_is c.args.device_key.now c.derive.result c.derive.ensures) c.in-Err.ensures.refused in
    (report_refused c.in-Err.fault, refl, ap form_fault verdict ∙ form_refused c.in-Err.fault c.in_default.not-Tag)
