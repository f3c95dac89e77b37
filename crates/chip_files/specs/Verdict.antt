-- Whether a file is a report that a device made.
use Rattle.std.specs.Prelude.{◌≡◌, ℕ, List, Option, Some, None}
use Rattle.attest_report.specs.Refusal.{first_refusal}
use Rattle.attest_report.specs.Report.{IsReport, bytes_by_version}
use Rattle.attest_report.specs.Text.{IsTextOf}
use Rattle.attest_report.specs.declared.refusal.ReportError.{ReportError}
use Rattle.attest_report.specs.declared.refusal.ReportError.TheVariants.{Length, Digit, Version, Tag}
use Rattle.attest_report.specs.declared.report.Signed.{Signed}
use Rattle.hmac_tag.specs.DeviceKeys.{keys_of}
use Rattle.chip_files.specs.declared.refusal.Refusal.{Refusal}
use Rattle.chip_files.specs.declared.refusal.Refusal.TheVariants.{Report as report_refused}

-- how many bytes of a report are read at most
abbrev pub report_limit : ℕ
report_limit = 1048576

-- the key that the reports of the device of this key are signed under
unfoldable pub device_report_key : List ℕ → List ℕ
device_report_key device_key = (keys_of device_key).report_key

-- the first refusal of a text that is checked under the report key of the device of this key
abbrev pub verdict_of : List ℕ → List ℕ → Option ReportError
verdict_of device_key text = first_refusal text (device_report_key device_key)

-- a text has the form of a report, unless it is refused for anything but its tag
abbrev pub form_fault : Option ReportError → Option Refusal
form_fault None = None
form_fault (Some Tag) = None
form_fault (Some Length) = Some (report_refused Length)
form_fault (Some Digit) = Some (report_refused Digit)
form_fault (Some Version) = Some (report_refused Version)

-- the text is this report, made by the device of this key
pub record IsMadeBy (device_key text : List ℕ) (signed : Signed) : Type 0 where
  pub is_report : IsReport signed.report
  pub text_of : IsTextOf (bytes_by_version signed.report signed.layout (device_report_key device_key)) text

-- the text has the form of a report, and not the tag that the device of this key gives
abbrev pub HasOtherTag : List ℕ → List ℕ → Type 0
HasOtherTag device_key text = verdict_of device_key text ≡ Some Tag

-- what a check of the text under the key of this device gives: the report that the device made, or none
abbrev pub IsVerdict : List ℕ → List ℕ → Option Signed → Type 0
IsVerdict device_key text None = HasOtherTag device_key text
IsVerdict device_key text (Some signed) = IsMadeBy device_key text signed
