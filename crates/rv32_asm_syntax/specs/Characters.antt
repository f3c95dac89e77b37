-- The characters of an assembly text, and what names and blanks are.
use Rattle.std.specs.Prelude.{ℕ, List, [], ◌∷◌, Bool, true, false, ◌&&◌, ◌||◌, ◌==◌, if◌then◌else◌}
use Rattle.std.specs.Char.{is_ascii_alphabetic, is_ascii_digit}
use Rattle.std.specs.List.{list_all}

-- The code of a tab.
abbrev pub tab : ℕ
tab = 9

-- The code of a line feed.
abbrev pub line_feed : ℕ
line_feed = 10

-- The code of a carriage return.
abbrev pub carriage_return : ℕ
carriage_return = 13

-- The code of a space.
abbrev pub space : ℕ
space = 32

-- The code of `"`.
abbrev pub quotation_mark : ℕ
quotation_mark = 34

-- The code of `#`, which begins a comment.
abbrev pub hash : ℕ
hash = 35

-- The code of `(`.
abbrev pub left_parenthesis : ℕ
left_parenthesis = 40

-- The code of `)`.
abbrev pub right_parenthesis : ℕ
right_parenthesis = 41

-- The code of `+`.
abbrev pub plus : ℕ
plus = 43

-- The code of `,`, which separates operands.
abbrev pub comma : ℕ
comma = 44

-- The code of `-`.
abbrev pub minus : ℕ
minus = 45

-- The code of `.`.
abbrev pub full_stop : ℕ
full_stop = 46

-- The code of `0`.
abbrev pub digit_0 : ℕ
digit_0 = 48

-- The code of `:`, which ends a label.
abbrev pub colon : ℕ
colon = 58

-- The code of a backslash, which begins an escape.
abbrev pub backslash : ℕ
backslash = 92

-- The code of `_`.
abbrev pub underscore : ℕ
underscore = 95

-- The code of `n`.
abbrev pub letter_n : ℕ
letter_n = 110

-- The code of `t`.
abbrev pub letter_t : ℕ
letter_t = 116

-- A space or a tab.
abbrev pub is_blank : ℕ → Bool
is_blank byte = (byte == space) || (byte == tab)

-- a name begins with one of these
abbrev pub begins_names : ℕ → Bool
begins_names byte = is_ascii_alphabetic byte || (byte == underscore)

-- and goes on with those
abbrev pub is_in_names : ℕ → Bool
is_in_names byte = begins_names byte || is_ascii_digit byte

-- the words of instructions and directives have full stops too
abbrev pub is_in_words : ℕ → Bool
is_in_words byte = is_in_names byte || (byte == full_stop)

-- the text begins as a name does
abbrev pub begins_as_name : List ℕ → Bool
begins_as_name [] = false
begins_as_name (byte ∷ bytes) = begins_names byte

-- A name of a label: ASCII letters, digits and `_`, not beginning with a digit.
abbrev pub is_name : List ℕ → Bool
is_name text = begins_as_name text && list_all is_in_names text

-- the text without the blanks that it begins with
abbrev pub skip_blanks : List ℕ → List ℕ
skip_blanks [] = []
skip_blanks (byte ∷ bytes) = if is_blank byte then skip_blanks bytes else byte ∷ bytes

-- Whether a text has no byte.
abbrev pub is_empty : List ℕ → Bool
is_empty [] = true
is_empty (byte ∷ bytes) = false

-- the text without the blanks that it ends with
abbrev pub drop_end_blanks : List ℕ → List ℕ
drop_end_blanks [] = []
drop_end_blanks (byte ∷ bytes) =
    if is_blank byte && is_empty (drop_end_blanks bytes) then [] else byte ∷ drop_end_blanks bytes

-- the text without the blanks at its ends
unfoldable pub trim_blanks : List ℕ → List ℕ
trim_blanks text = drop_end_blanks (skip_blanks text)
