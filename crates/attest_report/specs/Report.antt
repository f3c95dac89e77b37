-- A report: the bytes that are signed, and their HMAC.
use Rattle.std.specs.Prelude.{◌≡◌, ℕ, ◌^◌, ◌<◌, List, [], ◌∷◌, ◌++◌, length, Option, Some, None}
use Rattle.std.specs.Int.{w32, w64, to_le_bytes}
use Rattle.hmac_tag.specs.Hmac.{hmac_of}
use Rattle.sec_base.specs.declared.geometry.Layout.{Layout}
use Rattle.attest_report.specs.declared.report.Report.{Report}
use Rattle.attest_report.specs.ToldLayout.{layout_number}

-- each digest has 32 bytes and the nonce 16, and each number fits its type
pub record IsReport (report : Report) : Type 0 where
  pub measurement : length report.measurement ≡ 32
  pub input_digest : length report.input_digest ≡ 32
  pub output_digest : length report.output_digest ≡ 32
  pub retired : report.retired < 2 ^ 64
  pub ending : report.ending < 2 ^ 8
  pub code : report.code < 2 ^ 32
  pub nonce : length report.nonce ≡ 16

-- the 125 bytes of the fields in order, the lowest byte of a number first
unfoldable pub field_bytes : Report → List ℕ
field_bytes report =
    report.measurement
    ++ report.input_digest
    ++ report.output_digest
    ++ to_le_bytes w64 report.retired
    ++ report.ending ∷ []
    ++ to_le_bytes w32 report.code
    ++ report.nonce

-- the 126 bytes that version 1 signs: 01, and the fields
unfoldable pub signed_bytes : Report → List ℕ
signed_bytes report = 0x01 ∷ field_bytes report

-- the 158 bytes of version 1: these and their HMAC-SHA-256 under a key
unfoldable pub report_bytes : Report → List ℕ → List ℕ
report_bytes report key = signed_bytes report ++ hmac_of key (signed_bytes report)

-- the 127 bytes that version 2 signs: 02, the number of the layout, and the fields
unfoldable pub signed2_bytes : Report → Layout → List ℕ
signed2_bytes report layout = 0x02 ∷ layout_number layout ∷ field_bytes report

-- the 159 bytes of version 2: these and their HMAC-SHA-256 under a key
unfoldable pub report2_bytes : Report → Layout → List ℕ → List ℕ
report2_bytes report layout key = signed2_bytes report layout ++ hmac_of key (signed2_bytes report layout)

-- the bytes of a report: of version 1 where no layout is named, else of version 2
abbrev pub bytes_by_version : Report → Option Layout → List ℕ → List ℕ
bytes_by_version report None key = report_bytes report key
bytes_by_version report (Some layout) key = report2_bytes report layout key

-- what they begin with, before the fields
abbrev pub head_bytes : Option Layout → List ℕ
head_bytes None = 0x01 ∷ []
head_bytes (Some layout) = 0x02 ∷ layout_number layout ∷ []
