-- What parts of the reading find.
use Rattle.std.specs.Borrow.{Bor}
use Rattle.rv32_asm_syntax.specs.Characters.{line_feed, carriage_return, colon, comma, is_in_words, trim_blanks}
use Rattle.rv32_asm_syntax.specs.Keywords.{Keyword, DataKeyword, AsciiKeyword, AscizKeyword, keyword_of}
use Rattle.rv32_asm_syntax.specs.declared.strings.Character.{Character}
use Rattle.rv32_asm_syntax.specs.Reading.{string_after}
use Rattle.rv32_asm_syntax.specs.Lines.{lines_of, labels_in, behind_labels}
use Rattle.std.specs.List.{slice_split, before_first, list_any}
use Rattle.std.specs.Prelude.{ℕ, List, Bool, true, false, [], ◌∷◌, ◌++◌, ◌≡◌, ◌<◌, ◌==◌, ◌+◌, ◌*◌, ◌^◌, Option, Some, None, length, map, take_while, nat_lt, option_and_then, option_map, if◌then◌else◌}
use Rattle.std.specs.Char.{is_digit, digit_value}

-- the number, where 32 bits hold it
abbrev pub as_word : ℕ → Option ℕ
as_word number = if nat_lt number (2 ^ 32) then Some number else None

-- the number that one more digit makes, where 32 bits hold it
abbrev pub with_digit : ℕ → ℕ → ℕ → Option ℕ
with_digit base number digit = if is_digit digit base then as_word (number * base + digit_value digit) else None

-- the line without the carriage return that it may end with
abbrev pub without_return : List ℕ → List ℕ
without_return [] = []
without_return (byte ∷ []) = if byte == carriage_return then [] else byte ∷ []
without_return (byte ∷ next ∷ bytes) = byte ∷ without_return (next ∷ bytes)

-- Whether a byte ends a line.
abbrev pub is_line_feed : ℕ → Bool
is_line_feed byte = byte == line_feed

-- A text's first line: what stands before the first line feed, without the carriage return that it may end with, or
-- all of a text that has no line feed. What is left is what stands behind the first line feed.
abbrev pub IsLineCut : List ℕ → List ℕ → Option (Bor (List ℕ)) → Type 0
IsLineCut text line (Some rest) =
    (text ≡ before_first is_line_feed text ++ line_feed ∷ rest.now)
    × (line ≡ without_return (before_first is_line_feed text))
IsLineCut text line None = (list_any is_line_feed text ≡ false) × (line ≡ text)

-- the lines of what is left of a text, where more is left
abbrev pub lines_left : Option (Bor (List ℕ)) → List (List ℕ)
lines_left None = []
lines_left (Some text) = lines_of text.now

-- the parts of a line between its colons
abbrev pub parts : List ℕ → List (List ℕ)
parts text = slice_split (λ byte. byte == colon) text

-- a text's first label, and what is left of the text behind the label's colon, where its further labels are
abbrev pub IsFirstLabel : List ℕ → Option (Bor (List ℕ) × Bor (List ℕ)) → Type 0
IsFirstLabel text (Some label) =
    (labels_in (parts text) ≡ label.0.now ∷ labels_in (parts label.1.now))
    × (behind_labels (parts text) ≡ behind_labels (parts label.1.now))
    × (length label.1.now < length text)
IsFirstLabel text None = (labels_in (parts text) ≡ []) × (behind_labels (parts text) ≡ text)

-- what the word at the front of a text stands for
abbrev pub front_keyword : List ℕ → Option Keyword
front_keyword text = keyword_of (take_while is_in_words text)

-- values and strings are kept in memory
abbrev pub takes_memory : Option Keyword → Bool
takes_memory (Some (DataKeyword width)) = true
takes_memory (Some AsciiKeyword) = true
takes_memory (Some AscizKeyword) = true
takes_memory _ = false

-- the operands of a text that has some
abbrev pub comma_parts : List ℕ → List (List ℕ)
comma_parts text = map trim_blanks (slice_split (λ each. each == comma) text)

-- the operands of what is left of a text, where more is left
abbrev pub operands_left : Option (Bor (List ℕ)) → List (List ℕ)
operands_left None = []
operands_left (Some text) = comma_parts text.now

-- the operands, where there are two
abbrev pub two : List (List ℕ) → Option (List ℕ × List ℕ)
two (first ∷ second ∷ []) = Some (first, second)
two _ = None

-- the bytes of a string from its first character on
abbrev pub string_from : Option Character → Option (List ℕ)
string_from character = option_and_then (λ c. option_map (λ bytes. c.meaning ∷ bytes) (string_after c.rest.now)) character
