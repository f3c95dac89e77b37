use Rattle.std.proofs.Common.{sym, ◌∙◌, ap}
use Rattle.std.specs.Prelude.{Some}
use Rattle.std.proofs.lemmas.Result.{err_from_is_err_and}
use Rattle.attest_report.proofs.Verdicts.{bytes_refusal-none, bytes_refusal-tag, bytes_refusal-version, version_known, version_unknown}
use Rattle.attest_report.proofs.Versions.{version_made}
use Rattle.attest_report.proofs.verification.signed_in.Goals as goal

pub returns-in_err-layout-clause-refused : goal.returns-in_err-layout-clause-refused
returns-in_err-layout-clause-refused c =
    let told = err_from_is_err_and c.from_residual.result c.from_residual.ensures.1 in
    let unknown = version_unknown _ _ c.in_err-layout.ensures.refused in
    rw (told.1, told.2) (ap Some unknown.1 ∙ bytes_refusal-version c.args.bytes.now c.args.key.now unknown.0)

pub returns-then-not-is_signed-clause-refused : goal.returns-then-not-is_signed-clause-refused
returns-then-not-is_signed-clause-refused c =
    bytes_refusal-tag c.args.bytes.now c.args.key.now (version_known _ c.in_ok-layout.ensures.refused)
    (sym c.is_signed.ensures ∙ c.if-not-is_signed.true)

pub returns-clause-made : goal.returns-clause-made
returns-clause-made c = (
  c.report_of-report.ensures.is_report,
  version_made c.args.bytes.now c.args.key.now c.field.result c.report_of-report.result c.in_ok-layout.layout c.requires
      c.in_ok-layout.ensures.named c.field.ensures c.report_of-report.ensures.written_back
      (sym c.is_signed.ensures ∙ c.if-not-is_signed.false),
)

pub returns-clause-refused : goal.returns-clause-refused
returns-clause-refused c =
    bytes_refusal-none c.args.bytes.now c.args.key.now (version_known _ c.in_ok-layout.ensures.refused)
    (sym c.is_signed.ensures ∙ c.if-not-is_signed.false)
