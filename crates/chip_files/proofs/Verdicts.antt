-- What a text is, as a check of it under the report key of a device says.
use Rattle.std.proofs.Common.{◌≡◌, ◌≢◌, ◌≤◌, ℕ, List, [], ◌∷◌, length, Option, Some, None, IfSome, Result, Ok, Err, refl, sym, ap, ◌∙◌, subst}
use Rattle.std.specs.Prelude.{IfOk, OnOk}
use Rattle.std.specs.Result.{IfErr}
use Rattle.sec_base.specs.Files.{FilesState, HasBytes}
use Rattle.hmac_tag.specs.DeviceKeys.{keys_of}
use Rattle.hmac_tag.specs.declared.derivation.Keys.{Keys}
use Rattle.attest_report.specs.Refusal.{first_refusal}
use Rattle.attest_report.specs.Report.{IsReport, bytes_by_version}
use Rattle.attest_report.specs.Text.{IsTextOf}
use Rattle.attest_report.specs.declared.refusal.ReportError.{ReportError}
use Rattle.attest_report.specs.declared.refusal.ReportError.TheVariants.{Length, Digit, Version, Tag}
use Rattle.attest_report.specs.declared.report.Signed.{Signed}
use Rattle.attest_report.proofs.Verdicts.{no_refusal}
use Rattle.chip_words.specs.Request.{ReportAsked}
use Rattle.chip_files.specs.declared.refusal.Refusal.{Refusal}
use Rattle.chip_files.specs.declared.refusal.Refusal.TheVariants.{Report as report_refused}
use Rattle.chip_files.specs.declared.stop.Stop.{Stop}
use Rattle.chip_files.specs.declared.stop.Stop.TheVariants.{Refused}
use Rattle.chip_files.specs.Causes.{Asks}
use Rattle.chip_files.specs.Verdict.{IsMadeBy, IsVerdict, device_report_key, form_fault, report_limit, verdict_of}
use Rattle.chip_files.specs.Needs.{report_need}
use Rattle.chip_files.specs.Stop.{IsStoppedBy}
use Rattle.chip_files.specs.Taken.{ReadsReport}
use Rattle.chip_files.proofs.Takings.{IsOfBytes, is_cause, stops_here}

-- the key is the device's
pub report_key_is : (device_key : List ℕ) (keys : Keys) → keys ≡ keys_of device_key → keys.report_key ≡ device_report_key device_key
unfolding device_report_key
report_key_is device_key keys derived = rw derived refl

-- the verdict under this key is that under the device's
pub verdict_is : (device_key text key : List ℕ) (verdict : Option ReportError) → key ≡ device_report_key device_key → verdict ≡ first_refusal text key →
    verdict_of device_key text ≡ verdict
verdict_is device_key text key verdict same is = sym (is ∙ ap (first_refusal text) same)

-- and so is the report
pub made_by : (device_key text key : List ℕ) (signed : Signed) → key ≡ device_report_key device_key → IsReport signed.report →
    IsTextOf (bytes_by_version signed.report signed.layout key) text → IsMadeBy device_key text signed
made_by device_key text key signed same is told =
    record { is_report = is; text_of = subst (λ (k : List ℕ). IsTextOf (bytes_by_version signed.report signed.layout k) text) same told }

-- a report that the device made is not refused
pub made_verdict : {device_key text : List ℕ} {signed : Signed} → IsMadeBy device_key text signed → verdict_of device_key text ≡ None
made_verdict {device_key} {text} {signed} made =
    sym (no_refusal text (device_report_key device_key) signed.report signed.layout made.is_report made.text_of)

-- any refusal but that of the tag is one of the form
pub form_refused : (error : ReportError) → error ≢ Tag → form_fault (Some error) ≡ Some (report_refused error)
form_refused Length other = refl
form_refused Digit other = refl
form_refused Version other = refl
form_refused Tag other = absurd (other refl)

-- ---- the file of a report

form_of_bytes : (verdict : Option ReportError) (refusal : Refusal) → form_fault verdict ≡ Some refusal → IsOfBytes refusal
form_of_bytes None refusal is = absurd cc
form_of_bytes (Some Tag) refusal is = absurd cc
form_of_bytes (Some Length) refusal is = subst (λ (o : Option Refusal). IfSome o IsOfBytes) is tt
form_of_bytes (Some Digit) refusal is = subst (λ (o : Option Refusal). IfSome o IsOfBytes) is tt
form_of_bytes (Some Version) refusal is = subst (λ (o : Option Refusal). IfSome o IsOfBytes) is tt

-- it was read, and has the form of a report
pub reads_report : (asked : ReportAsked) (text : List ℕ) (old new : FilesState) → HasBytes old.held asked.name text → length text ≤ report_limit →
    Asks (report_need asked ∷ []) old new → form_fault (verdict_of asked.device_key text) ≡ None → ReadsReport asked old new text
reads_report asked text old new told within asks formed =
    record { accepted = record { told = told; within = within; formed = formed }; asked = asks }

-- it was read, and hasn't
pub no_report : (stop : Stop) (asked : ReportAsked) (text : List ℕ) (old new : FilesState) → HasBytes old.held asked.name text → length text ≤ report_limit →
    Asks (report_need asked ∷ []) old new → (refusal : Refusal) × (stop ≡ Refused refusal) × (form_fault (verdict_of asked.device_key text) ≡ Some refusal) →
    IsStoppedBy stop (report_need asked ∷ []) old new
no_report stop asked text old new told within asks why =
    let of_bytes = form_of_bytes (verdict_of asked.device_key text) why.0 why.2 in
    let cause = is_cause why.0 (report_need asked) old new of_bytes (record { bytes = text; told = told; within = within; fault = why.2 }) in
    subst (λ (s : Stop). IsStoppedBy s (report_need asked ∷ []) old new) (sym why.1) (stops_here why.0 (report_need asked) old new asks cause)

pub taken_report : (asked : ReportAsked) (text : List ℕ) (old new : FilesState) (result : Result (Option Signed) Stop) → HasBytes old.held asked.name text → length text ≤ report_limit →
    Asks (report_need asked ∷ []) old new → IfOk result (IsVerdict asked.device_key text) → OnOk result (form_fault (verdict_of asked.device_key text) ≡ None) →
    IfOk result (λ signed. (read : List ℕ) × ReadsReport asked old new read × IsVerdict asked.device_key read signed)
taken_report asked text old new (Ok signed) told within asks verdict formed = (text, reads_report asked text old new told within asks formed, verdict)
taken_report asked text old new (Err stop) told within asks verdict formed = tt

pub refused_report : (asked : ReportAsked) (text : List ℕ) (old new : FilesState) (result : Result (Option Signed) Stop) → HasBytes old.held asked.name text → length text ≤ report_limit →
    Asks (report_need asked ∷ []) old new → IfErr result (λ stop. (refusal : Refusal) × (stop ≡ Refused refusal) × (form_fault (verdict_of asked.device_key text) ≡ Some refusal)) →
    IfErr result (λ stop. IsStoppedBy stop (report_need asked ∷ []) old new)
refused_report asked text old new (Ok signed) told within asks why = tt
refused_report asked text old new (Err stop) told within asks why = no_report stop asked text old new told within asks why
