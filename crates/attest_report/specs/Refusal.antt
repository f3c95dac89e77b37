-- The four refusals of a text, in the order in which they are tested.
use Rattle.std.specs.Prelude.{◌==◌, ℕ, ◌-◌, List, [], length, take, drop, slice_index, codes, Bool, not, ◌&&◌, ◌||◌, Option, Some, None, if◌then◌else◌}
use Rattle.std.specs.List.{list_all}
use Rattle.std.specs.Option.{option_or}
use Rattle.std.specs.Str.{bytes_eq}
use Rattle.std.specs.Result.{result_unwrap_or}
use Rattle.hex.specs.Hex.{decode_of, is_hex_digit}
use Rattle.hmac_tag.specs.Hmac.{hmac_of}
use Rattle.attest_report.specs.declared.refusal.ReportError.{ReportError}
use Rattle.attest_report.specs.declared.refusal.ReportError.TheVariants.{Length, Digit, Version, Tag}
use Rattle.attest_report.specs.Text.{without_line_feed}

-- the word that stands for a refusal in texts
abbrev pub report_error_name : ReportError → List ℕ
report_error_name Length = codes "Length"
report_error_name Digit = codes "Digit"
report_error_name Version = codes "Version"
report_error_name Tag = codes "Tag"

-- its number
abbrev pub report_error_code : ReportError → ℕ
report_error_code Length = 1
report_error_code Digit = 2
report_error_code Version = 3
report_error_code Tag = 4

-- the bytes of digits
abbrev pub bytes_of_digits : List ℕ → List ℕ
bytes_of_digits digits = result_unwrap_or (decode_of digits) []

-- the refusal of what isn't 316 or 318 digits, of either case
unfoldable pub digits_refusal : List ℕ → Option ReportError
digits_refusal digits =
    if not (length digits == 316 || length digits == 318) then Some Length
    else if not (list_all is_hex_digit digits) then Some Digit
    else None

-- whether bytes begin as their version does: 158 with 01, and 159 with 02 and the number of a layout
unfoldable pub has_version : List ℕ → Bool
has_version bytes =
    if length bytes == 158 then slice_index bytes 0 == 1
    else slice_index bytes 0 == 2 && (slice_index bytes 1 == 1 || slice_index bytes 1 == 2)

-- whether the last 32 bytes are the HMAC of those before them
unfoldable pub is_signed : List ℕ → List ℕ → Bool
is_signed bytes key =
    bytes_eq (drop (length bytes - 32) bytes) (hmac_of key (take (length bytes - 32) bytes))

-- the refusal of bytes of another version, or with another tag
unfoldable pub bytes_refusal : List ℕ → List ℕ → Option ReportError
bytes_refusal bytes key =
    if not (has_version bytes) then Some Version
    else if not (is_signed bytes key) then Some Tag
    else None

-- the first refusal of a text that holds
unfoldable pub first_refusal : List ℕ → List ℕ → Option ReportError
first_refusal text key = let digits = without_line_feed text in
    option_or (digits_refusal digits) (bytes_refusal (bytes_of_digits digits) key)
