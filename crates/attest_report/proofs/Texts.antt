-- The digits of a report.
use Rattle.std.proofs.Common.{◌≡◌, ℕ, ◌+◌, ◌-◌, ◌*◌, ◌<◌, Bool, true, false, nat_eq, List, [], ◌∷◌, length, drop, get_or, Result, Ok, Err, Some, None, refl, sym, ap, ◌∙◌, ◌⊎◌, inl, inr, arith}
use Rattle.std.specs.Prelude.{is_ok}
use Rattle.std.specs.Result.{result_err}
use Rattle.std.specs.List.{AllPass, list_all, ends_with}
use Rattle.std.specs.Cmp.Lexicographic.{pointwise}
use Rattle.std.proofs.lemmas.List.{drop_more}
use Rattle.std.proofs.lemmas.Bool.{cases_Bool, and_parts, eqb-true}
use Rattle.std.proofs.lemmas.List.Sums.{AllPass-from_list_all, list_all-from_AllPass}
use Rattle.hex.specs.Hex.{IsBytes, decode_of, decode_sized, encode_lower, is_hex_digit}
use Rattle.hex.proofs.HexLemmas.{IsOk-decode_sized, decode_of-encode_lower, decode_of-ok}
use Rattle.attest_report.specs.declared.refusal.ReportError.{ReportError}
use Rattle.attest_report.specs.declared.refusal.ReportError.TheVariants.{Digit}
use Rattle.attest_report.specs.Refusal.{digits_refusal}
use Rattle.attest_report.specs.Text.{IsTextOf, without_line_feed}

-- a digit is no line feed
no_line_feed : (digit : ℕ) (rest : List ℕ) (b : Bool) → is_hex_digit digit ≡ true → b ≡ pointwise nat_eq (10 ∷ []) (digit ∷ rest) → b ≡ false
no_line_feed digit rest true is e =
    let same : 10 ≡ digit = eqb-true 10 digit (and_parts (nat_eq 10 digit) (pointwise nat_eq [] rest) (sym e)).0 in
    let no : false ≡ true = ap is_hex_digit same ∙ is in
    cc no
no_line_feed digit rest false is e = refl

-- digits have no line feed at their end
ends_with-digits : (digits : List ℕ) → 0 < length digits → AllPass is_hex_digit digits → ends_with nat_eq digits (10 ∷ []) ≡ false
ends_with-digits digits some are =
    let digit : is_hex_digit (get_or digits (length digits - 1) 0) ≡ true = are (length digits - 1) 0 (omega arith) in
    no_line_feed (get_or digits (length digits - 1) 0) (drop (length digits - 1 + 1) digits) _ digit
    (ap (λ (rest : List ℕ). pointwise nat_eq (10 ∷ []) rest) (drop_more digits (length digits - 1) 0 (omega arith)))

pub without-digits : (digits : List ℕ) → 0 < length digits → AllPass is_hex_digit digits → without_line_feed digits ≡ digits
unfolding without_line_feed
without-digits digits some are = rw (ends_with-digits digits some are) refl

-- the digits of bytes are read back as these bytes
pub read_back : (bytes digits : List ℕ) → 0 < length bytes → IsBytes bytes → digits ≡ encode_lower bytes → IsTextOf bytes digits
read_back bytes digits some fit is =
    let decoded : decode_of digits ≡ Ok bytes = ap decode_of is ∙ decode_of-encode_lower bytes fit in
    let ok = decode_of-ok digits bytes decoded in
    let same : without_line_feed digits ≡ digits = without-digits digits (omega (arith, ok.2)) ok.1 in
    ap decode_of same ∙ decoded

-- bytes that are as many as a report of either version has
abbrev pub IsReportLen : ℕ → Type 0
IsReportLen n = (n ≡ 158) ⊎ (n ≡ 159)

digits_refusal-none : (digits : List ℕ) (n : ℕ) → IsReportLen n → length digits ≡ 2 * n → list_all is_hex_digit digits ≡ true → digits_refusal digits ≡ None
unfolding digits_refusal
digits_refusal-none digits n (inl first) twice all = let long : length digits ≡ 316 = omega arith in rw (long, all) refl
digits_refusal-none digits n (inr second) twice all = let long : length digits ≡ 318 = omega arith in rw (long, all) refl

digits_refusal-digit : (digits : List ℕ) (n : ℕ) → IsReportLen n → length digits ≡ 2 * n → list_all is_hex_digit digits ≡ false → digits_refusal digits ≡ Some Digit
unfolding digits_refusal
digits_refusal-digit digits n (inl first) twice not_all = let long : length digits ≡ 316 = omega arith in rw (long, not_all) refl
digits_refusal-digit digits n (inr second) twice not_all = let long : length digits ≡ 318 = omega arith in rw (long, not_all) refl

-- bytes decode to what is no refusal
pub digits_refusal-read : (digits bytes : List ℕ) → IsReportLen (length bytes) → decode_of digits ≡ Ok bytes → digits_refusal digits ≡ None
digits_refusal-read digits bytes long decoded =
    let ok = decode_of-ok digits bytes decoded in
    digits_refusal-none digits (length bytes) long ok.2 (list_all-from_AllPass is_hex_digit digits ok.1)

result_err-ok : (read : Result (List ℕ) ReportError) → is_ok read ≡ true → result_err read ≡ None
result_err-ok (Ok bytes) ok = refl
result_err-ok (Err error) ok = cc ok

result_err-digit : (read : Result (List ℕ) ReportError) → is_ok read ≡ false → ((error : ReportError) → read ≡ Err error → error ≡ Digit)
    → result_err read ≡ Some Digit
result_err-digit (Ok bytes) refused is = cc refused
result_err-digit (Err error) refused is = ap Some (is error refl)

-- as many digits as a report has are refused exactly where they don't decode
pub read_refused : (digits : List ℕ) (n : ℕ) (read : Result (List ℕ) ReportError) → IsReportLen n →
    length digits ≡ 2 * n → is_ok read ≡ is_ok (decode_sized digits n) → ((error : ReportError) → read ≡ Err error → error ≡ Digit)
    → result_err read ≡ digits_refusal digits
read_refused digits n read version long same is =
    elim (cases_Bool (list_all is_hex_digit digits)) [
      | inl all ↦
          let ok : is_ok (decode_sized digits n) ≡ true = (IsOk-decode_sized digits n).1 (long, AllPass-from_list_all is_hex_digit digits all) in
          result_err-ok read (same ∙ ok) ∙ sym (digits_refusal-none digits n version long all)
      | inr not_all ↦
          elim (cases_Bool (is_ok read)) [
            | inl ok ↦
                let are = ((IsOk-decode_sized digits n).0 (sym same ∙ ok)).1 in
                cc (sym not_all ∙ list_all-from_AllPass is_hex_digit digits are)
            | inr refused ↦ result_err-digit read refused is ∙ sym (digits_refusal-digit digits n version long not_all)
          ]
    ]
