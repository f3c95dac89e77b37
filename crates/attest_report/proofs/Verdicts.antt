-- What a text comes to under a key.
use Rattle.std.proofs.Common.{◌≡◌, ◌≢◌, ℕ, nat_eq, Bool, true, false, List, [], length, Result, Ok, Err, Option, Some, None, refl, sym, ap, ◌∙◌}
use Rattle.std.specs.Prelude.{IfOk, if◌then◌else◌}
use Rattle.std.specs.Option.{option_or}
use Rattle.std.proofs.lemmas.Bool.Decides.{Decides-eqb}
use Rattle.sec_base.proofs.SamePlaces.{false_from}
use Rattle.std.specs.Result.{result_err, result_unwrap_or}
use Rattle.hex.specs.Hex.{decode_of}
use Rattle.hex.proofs.HexLemmas.{decode_of-same}
use Rattle.sec_base.specs.declared.geometry.Layout.{Layout}
use Rattle.attest_report.specs.declared.refusal.ReportError.{ReportError}
use Rattle.attest_report.specs.declared.refusal.ReportError.TheVariants.{Length, Version, Tag}
use Rattle.attest_report.specs.declared.report.Report.{Report}
use Rattle.attest_report.specs.declared.report.Signed.{Signed}
use Rattle.attest_report.specs.Refusal.{bytes_of_digits, bytes_refusal, digits_refusal, first_refusal, has_version, is_signed}
use Rattle.attest_report.specs.Report.{IsReport, bytes_by_version}
use Rattle.attest_report.specs.Text.{IsTextOf, without_line_feed}
use Rattle.attest_report.proofs.Texts.{IsReportLen, digits_refusal-read}
use Rattle.attest_report.proofs.Versions.{version_begins, version_long, version_signed, versions_apart}

-- neither 316 nor 318 digits
pub first-length : (text key : List ℕ) → length (without_line_feed text) ≢ 316 → length (without_line_feed text) ≢ 318 →
    Some Length ≡ first_refusal text key
unfolding first_refusal digits_refusal
first-length text key first second =
    let not_first : nat_eq (length (without_line_feed text)) 316 ≡ false = false_from _ (Decides-eqb (length (without_line_feed text)) 316) first in
    let not_second : nat_eq (length (without_line_feed text)) 318 ≡ false = false_from _ (Decides-eqb (length (without_line_feed text)) 318) second in
    rw (not_first, not_second) refl

-- a refusal of the digits is the first
pub first-digits : (text key : List ℕ) (refusal : Option ReportError) (error : ReportError) →
    refusal ≡ Some error → refusal ≡ digits_refusal (without_line_feed text) → Some error ≡ first_refusal text key
unfolding first_refusal
first-digits text key refusal error is refused =
    ap (λ (r : Option ReportError). option_or r (bytes_refusal (bytes_of_digits (without_line_feed text)) key)) (sym is ∙ refused)

-- and where there is none, that of the bytes
pub first-bytes : (text key bytes : List ℕ) (refusal : Option ReportError) → IsReportLen (length bytes) →
    decode_of (without_line_feed text) ≡ Ok bytes → refusal ≡ bytes_refusal bytes key → refusal ≡ first_refusal text key
unfolding first_refusal
first-bytes text key bytes refusal long decoded is =
    let bytes_are : bytes_of_digits (without_line_feed text) ≡ bytes = ap (λ (r : Result (List ℕ) _). result_unwrap_or r []) decoded in
    let none = digits_refusal-read (without_line_feed text) bytes long decoded in
    is ∙ ap (λ (xs : List ℕ). bytes_refusal xs key) (sym bytes_are)
    ∙ ap (λ (r : Option ReportError). option_or r (bytes_refusal (bytes_of_digits (without_line_feed text)) key)) (sym none)

-- the refusal of bytes by what they begin and end with
pub bytes_refusal-version : (bytes key : List ℕ) → has_version bytes ≡ false → Some Version ≡ bytes_refusal bytes key
unfolding bytes_refusal
bytes_refusal-version bytes key other = rw other refl

pub bytes_refusal-tag : (bytes key : List ℕ) → has_version bytes ≡ true → is_signed bytes key ≡ false → Some Tag ≡ bytes_refusal bytes key
unfolding bytes_refusal
bytes_refusal-tag bytes key version differs = rw (version, differs) refl

pub bytes_refusal-none : (bytes key : List ℕ) → has_version bytes ≡ true → is_signed bytes key ≡ true → None ≡ bytes_refusal bytes key
unfolding bytes_refusal
bytes_refusal-none bytes key version signed = rw (version, signed) refl

-- a version that was found, and one that wasn't
pub version_known : (begins : Bool) → None ≡ (if begins then None else Some Version) → begins ≡ true
version_known true found = refl
version_known false found = cc found

pub version_unknown : (begins : Bool) (error : ReportError) → Some error ≡ (if begins then None else Some Version) → (begins ≡ false) × (error ≡ Version)
version_unknown true error refused = cc refused
version_unknown false error refused = (refl, cc)

-- a report's text is not refused
pub no_refusal : (text key : List ℕ) (report : Report) (layout : Option Layout) → IsReport report →
    IsTextOf (bytes_by_version report layout key) text → None ≡ first_refusal text key
no_refusal text key report layout is told =
    first-bytes text key (bytes_by_version report layout key) None (version_long report layout key is) told
    (bytes_refusal-none (bytes_by_version report layout key) key (version_begins report layout key is) (version_signed report layout key is))

-- what bytes say is what their digits say
pub made_text : (text bytes key : List ℕ) (result : Result Signed ReportError) → decode_of (without_line_feed text) ≡ Ok bytes →
    IfOk result (λ signed. IsReport signed.report × (bytes ≡ bytes_by_version signed.report signed.layout key)) →
    IfOk result (λ signed. IsReport signed.report × IsTextOf (bytes_by_version signed.report signed.layout key) text)
made_text text bytes key (Ok signed) decoded made = (made.0, decoded ∙ ap Ok made.1)
made_text text bytes key (Err error) decoded made = made

same_signed : (first second : Signed) → first.report ≡ second.report → first.layout ≡ second.layout → first ≡ second
same_signed first second reports layouts =
    ap (λ (x : Report). record first { report = x }) reports ∙ ap (λ (x : Option Layout). record second { layout = x }) layouts

-- a text that is refused is no report's
pub refused_taken : (text key : List ℕ) (result : Result Signed ReportError) (error : ReportError) → Some error ≡ first_refusal text key →
    (signed : Signed) → IsReport signed.report → IsTextOf (bytes_by_version signed.report signed.layout key) text → result ≡ Ok signed
refused_taken text key result error refused signed is text_of =
    let no : Some error ≡ None = refused ∙ sym (no_refusal text key signed.report signed.layout is text_of) in
    cc no

-- a text is at most one report's, and then the answer is that report
pub taken_from : (text key : List ℕ) (result : Result Signed ReportError) →
    IfOk result (λ signed. IsReport signed.report × IsTextOf (bytes_by_version signed.report signed.layout key) text) →
    result_err result ≡ first_refusal text key →
    (signed : Signed) → IsReport signed.report → IsTextOf (bytes_by_version signed.report signed.layout key) text → result ≡ Ok signed
taken_from text key (Ok told) made refused signed is text_of =
    let same = decode_of-same (without_line_feed text) (bytes_by_version told.report told.layout key)
    (bytes_by_version signed.report signed.layout key) made.1 text_of in
    let parts = versions_apart told.report signed.report told.layout signed.layout key made.0 is same in
    ap Ok (same_signed told signed parts.0 parts.1)
taken_from text key (Err error) made refused signed is text_of = refused_taken text key (Err error) error refused signed is text_of
