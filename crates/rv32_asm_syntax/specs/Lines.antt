-- An assembly text cut into lines, and a line into its labels and its statement.
use Rattle.std.specs.Prelude.{ℕ, List, [], ◌∷◌, Bool, true, false, ◌&&◌, ◌||◌, ◌==◌, nat_lt, nat_eq, if◌then◌else◌}
use Rattle.std.specs.List.{onto_first, slice_split, starts_with, join_with_byte}
use Rattle.rv32_asm_syntax.specs.Characters.{line_feed, carriage_return, quotation_mark, hash, colon, backslash, is_name, skip_blanks, trim_blanks}

-- the lines of a text: each ends with a line feed, and a carriage return just before that is no part of it
unfoldable pub lines_of : List ℕ → List (List ℕ)
lines_of [] = [] ∷ []
lines_of (byte ∷ bytes) =
    if byte == line_feed then [] ∷ lines_of bytes
    else if (byte == carriage_return) && starts_with nat_eq bytes (line_feed ∷ []) then lines_of bytes
    else onto_first byte (lines_of bytes)

-- where a byte stands: outside the strings, in one, or behind a backslash in one
pub data Quoting : Type 0 where
  Outside : Quoting
  Inside : Quoting
  Escaped : Quoting

-- where the byte after one stands
abbrev pub quoting_after : Quoting → ℕ → Quoting
quoting_after Outside byte = if byte == quotation_mark then Inside else Outside
quoting_after Inside byte =
    if byte == quotation_mark then Outside else if byte == backslash then Escaped else Inside
quoting_after Escaped byte = Inside

-- Whether a byte stands outside of quotation marks.
abbrev pub is_outside : Quoting → Bool
is_outside Outside = true
is_outside Inside = false
is_outside Escaped = false

-- the line up to its comment, which a hash outside the strings begins
abbrev pub before_comment : Quoting → List ℕ → List ℕ
before_comment quoting [] = []
before_comment quoting (byte ∷ bytes) =
    if is_outside quoting && (byte == hash) then []
    else byte ∷ before_comment (quoting_after quoting byte) bytes

-- The line before its comment: the first `#` outside of a string ends it.
unfoldable pub without_comment : List ℕ → List ℕ
without_comment line = before_comment Outside line

-- a byte above 7f stands outside the strings
abbrev pub has_non_ascii : Quoting → List ℕ → Bool
has_non_ascii quoting [] = false
has_non_ascii quoting (byte ∷ bytes) =
    (is_outside quoting && nat_lt 0x7f byte) || has_non_ascii (quoting_after quoting byte) bytes

-- The parts of a line between its colons: each part that a colon ends is a label, as long as it is a name, where
-- blanks may stand before it.
abbrev pub labels_in : List (List ℕ) → List (List ℕ)
labels_in (part ∷ next ∷ parts) =
    if is_name (skip_blanks part) then skip_blanks part ∷ labels_in (next ∷ parts) else []
labels_in _ = []

-- what stands behind the labels
abbrev pub behind_labels : List (List ℕ) → List ℕ
behind_labels (part ∷ next ∷ parts) =
    if is_name (skip_blanks part) then behind_labels (next ∷ parts) else join_with_byte colon (part ∷ next ∷ parts)
behind_labels parts = join_with_byte colon parts

-- The parts of a line between its colons: labels first, then the statement.
abbrev pub parts_of : List ℕ → List (List ℕ)
parts_of line = slice_split (λ byte. byte == colon) (without_comment line)

-- the labels of a line
unfoldable pub labels_of : List ℕ → List (List ℕ)
labels_of line = labels_in (parts_of line)

-- the text of its statement, empty where it has none
unfoldable pub statement_text : List ℕ → List ℕ
statement_text line = trim_blanks (behind_labels (parts_of line))
