use Rattle.std.proofs.Common.{length, ap, refl, rules, inl, inr, arith}
use Rattle.std.proofs.lemmas.Result.{err_from_is_err_and}
use Rattle.attest_report.specs.declared.refusal.ReportError.TheVariants.{Length}
use Rattle.attest_report.proofs.Verdicts.{first-bytes, first-digits, first-length, made_text, refused_taken, taken_from}
use Rattle.attest_report.proofs.verification.verify.Goals as goal

pub returns-in_err-read_digits-in-316-clause-taken : goal.returns-in_err-read_digits-in-316-clause-taken
returns-in_err-read_digits-in-316-clause-taken c =
    refused_taken c.args.text.now c.args.key.now _ c.in_err-read_digits-in-316.field-0.0
    (first-digits c.args.text.now c.args.key.now _ _ refl (rw c.without_line_feed-digits.ensures at c.in_err-read_digits-in-316.ensures.refused))

pub returns-in_err-read_digits-in-316-clause-refused : goal.returns-in_err-read_digits-in-316-clause-refused
returns-in_err-read_digits-in-316-clause-refused c =
    let told = err_from_is_err_and c.from_residual.result c.from_residual.ensures.1 in
    rw (told.1, told.2)
    (first-digits c.args.text.now c.args.key.now _ _ refl (rw c.without_line_feed-digits.ensures at c.in_err-read_digits-in-316.ensures.refused))

pub returns-in_ok-read_digits-in-316-clause-taken : goal.returns-in_ok-read_digits-in-316-clause-taken
returns-in_ok-read_digits-in-316-clause-taken c =
    let decoded = rw c.without_line_feed-digits.ensures at c.in_ok-read_digits-in-316.ensures.read in
    taken_from c.args.text.now c.args.key.now c.signed_in.result
    (made_text c.args.text.now c.in_ok-read_digits-in-316.field-0 c.args.key.now c.signed_in.result decoded c.signed_in.ensures.made)
    (first-bytes c.args.text.now c.args.key.now c.in_ok-read_digits-in-316.field-0 _ (inl (search rules)) decoded c.signed_in.ensures.refused)

pub returns-in_ok-read_digits-in-316-clause-refused : goal.returns-in_ok-read_digits-in-316-clause-refused
returns-in_ok-read_digits-in-316-clause-refused c =
    let decoded = rw c.without_line_feed-digits.ensures at c.in_ok-read_digits-in-316.ensures.read in
    first-bytes c.args.text.now c.args.key.now c.in_ok-read_digits-in-316.field-0 _ (inl (search rules)) decoded c.signed_in.ensures.refused

pub returns-in_err-read_digits-in-318-clause-taken : goal.returns-in_err-read_digits-in-318-clause-taken
returns-in_err-read_digits-in-318-clause-taken c =
    refused_taken c.args.text.now c.args.key.now _ c.in_err-read_digits-in-318.field-0.0
    (first-digits c.args.text.now c.args.key.now _ _ refl (rw c.without_line_feed-digits.ensures at c.in_err-read_digits-in-318.ensures.refused))

pub returns-in_err-read_digits-in-318-clause-refused : goal.returns-in_err-read_digits-in-318-clause-refused
returns-in_err-read_digits-in-318-clause-refused c =
    let told = err_from_is_err_and c.from_residual-in_err-read_digits-in-318.result c.from_residual-in_err-read_digits-in-318.ensures.1 in
    rw (told.1, told.2)
    (first-digits c.args.text.now c.args.key.now _ _ refl (rw c.without_line_feed-digits.ensures at c.in_err-read_digits-in-318.ensures.refused))

pub returns-in_ok-read_digits-in-318-clause-taken : goal.returns-in_ok-read_digits-in-318-clause-taken
returns-in_ok-read_digits-in-318-clause-taken c =
    let decoded = rw c.without_line_feed-digits.ensures at c.in_ok-read_digits-in-318.ensures.read in
    taken_from c.args.text.now c.args.key.now c.signed_in-in-318.result
    (made_text c.args.text.now c.in_ok-read_digits-in-318.field-0 c.args.key.now c.signed_in-in-318.result decoded c.signed_in-in-318.ensures.made)
    (first-bytes c.args.text.now c.args.key.now c.in_ok-read_digits-in-318.field-0 _ (inr (search rules)) decoded c.signed_in-in-318.ensures.refused)

pub returns-in_ok-read_digits-in-318-clause-refused : goal.returns-in_ok-read_digits-in-318-clause-refused
returns-in_ok-read_digits-in-318-clause-refused c =
    let decoded = rw c.without_line_feed-digits.ensures at c.in_ok-read_digits-in-318.ensures.read in
    first-bytes c.args.text.now c.args.key.now c.in_ok-read_digits-in-318.field-0 _ (inr (search rules)) decoded c.signed_in-in-318.ensures.refused

pub returns-in_default-clause-taken : goal.returns-in_default-clause-taken
returns-in_default-clause-taken c =
    let same = ap length c.without_line_feed-digits.ensures in
    refused_taken c.args.text.now c.args.key.now _ Length
    (first-length c.args.text.now c.args.key.now (λ first. omega (arith, same)) (λ second. omega (arith, same)))

pub returns-in_default-clause-refused : goal.returns-in_default-clause-refused
returns-in_default-clause-refused c =
    let same = ap length c.without_line_feed-digits.ensures in
    first-length c.args.text.now c.args.key.now (λ first. omega (arith, same)) (λ second. omega (arith, same))
