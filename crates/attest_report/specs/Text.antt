-- A report as a text: two hexadecimal digits for each byte.
use Rattle.std.specs.Prelude.{◌≡◌, ℕ, ◌-◌, List, [], ◌∷◌, length, take, nat_eq, if◌then◌else◌, Ok}
use Rattle.std.specs.List.{ends_with}
use Rattle.hex.specs.Hex.{decode_of}

-- a text without the line feed at its end, if there is one
unfoldable pub without_line_feed : List ℕ → List ℕ
without_line_feed text = if ends_with nat_eq text (10 ∷ []) then take (length text - 1) text else text

-- the text is the digits of these bytes, of either case, with a line feed at the end or without
abbrev pub IsTextOf : List ℕ → List ℕ → Type 0
IsTextOf bytes text = decode_of (without_line_feed text) ≡ Ok bytes
