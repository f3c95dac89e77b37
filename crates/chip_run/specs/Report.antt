-- The report of a run.
use Rattle.std.specs.Prelude.{ℕ, List, Option}
use Rattle.std.specs.Option.{option_map}
use Rattle.sha2.specs.Sha256.{sha256}
use Rattle.sec_base.specs.declared.ending.Ending.{Ending}
use Rattle.sec_base.specs.declared.geometry.Layout.{Layout}
use Rattle.attest_report.specs.Report.{report2_bytes}
use Rattle.attest_report.specs.ToldEnding.{ending_and_code}
use Rattle.attest_report.specs.declared.report.Report.{Report}

-- What a report is of, beside how the run went: the program's measurement, the whole input, the nonce, the layout of the
-- memory's tree, and the key that it is signed under.
pub record ReportTerms : Type 0 where
  pub measurement : List ℕ
  pub input : List ℕ
  pub nonce : List ℕ
  pub layout : Layout
  pub report_key : List ℕ

-- what it says of a run whose output has this digest, that retired so many instructions, with this ending and code
abbrev pub report_of : ReportTerms → List ℕ → ℕ → ℕ × ℕ → Report
report_of terms output_digest retired told = record {
  measurement = terms.measurement;
  input_digest = sha256 terms.input;
  output_digest = output_digest;
  retired = retired;
  ending = told.0;
  code = told.1;
  nonce = terms.nonce;
}

-- its bytes, of version 2, under the report key, where the ending makes a report
abbrev pub signed_report : ReportTerms → List ℕ → ℕ → Ending → Option (List ℕ)
signed_report terms output_digest retired ending =
    option_map (λ told. report2_bytes (report_of terms output_digest retired told) terms.layout terms.report_key)
    (ending_and_code ending)
