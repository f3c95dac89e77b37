-- The words of a line are read in order from the left, up to the first fault.
use Rattle.std.specs.Prelude.{ℕ, ◌+◌, ◌*◌, ◌^◌, List, [], ◌∷◌, length, Bool, not, ◌&&◌, ◌==◌, nat_lt, nat_le, Option, Some, None, option_map, option_and_then, Result, Ok, Err, if◌then◌else◌}
use Rattle.std.specs.List.{list_all}
use Rattle.std.specs.Char.{is_digit, digit_value}
use Rattle.std.specs.Str.{bytes_eq}
use Rattle.arrayvec.specs.ArrayVec.{ArrayVec}
use Rattle.rv32_asm_syntax.specs.Characters.{colon}
use Rattle.rv32_asm_syntax.specs.Numbers.{natural_of}
use Rattle.adversary_script.specs.declared.fault.ScriptFault.{ScriptFault}
use Rattle.adversary_script.specs.declared.fault.ScriptFault.TheVariants.{Word, Number, Span, Register}

-- what is read at the front of words, and the words behind it, or the fault
abbrev pub Reading : Type 0 → Type 0
Reading X = List (List ℕ) → Result (X × List (List ℕ)) ScriptFault

-- what is read next, where there is no fault yet
abbrev pub then_read : {X Y : Type 0} → Result (X × List (List ℕ)) ScriptFault → (X → Reading Y) → Result (Y × List (List ℕ)) ScriptFault
then_read (Ok read) next = next read.0 read.1
then_read (Err fault) next = Err fault

-- one reading after another
infixl 10 ◌>>=◌
-- `next` gets what `first` read, and reads on from there, unless `first` met a fault
abbrev pub ◌>>=◌ : {X Y : Type 0} → Reading X → (X → Reading Y) → Reading Y
first >>= next = λ words. then_read (first words) next

-- nothing more is read
abbrev pub done : {X : Type 0} → X → Reading X
done x words = Ok (x, words)

-- the word that was read last has a fault
abbrev pub fails : {X : Type 0} → ScriptFault → Reading X
fails fault words = Err fault

-- what was found, or else that fault
abbrev pub found : {X : Type 0} → Option X → ScriptFault → Reading X
found (Some x) fault = done x
found None fault = fails fault

-- ---- words

-- a word that isn't a colon, and has no byte above 7f
abbrev pub is_plain : List ℕ → Bool
is_plain word = list_all (λ byte. nat_lt byte 0x80 && not (byte == colon)) word

-- the next word
abbrev pub word : Reading (List ℕ)
word [] = Err Word
word (next ∷ words) = if is_plain next then Ok (next, words) else Err Word

-- the colon between a trigger and its action
abbrev pub colon_word : Reading (List ℕ)
colon_word [] = Err Word
colon_word (next ∷ words) = if bytes_eq next (colon ∷ []) then Ok (next, words) else Err Word

-- no word is left
abbrev pub end_of_line : {X : Type 0} → X → Reading X
end_of_line x [] = Ok (x, [])
end_of_line x (next ∷ words) = Err Word

-- ---- numbers, which are decimal

-- reads a word of decimal digits as a number
abbrev pub number : Reading ℕ
number = do
  digits ← word
  found (natural_of 10 digits) Number

-- reads a decimal number that is less than this limit
abbrev pub number_below : ℕ → Reading ℕ
number_below limit = do
  n ← number
  if nat_lt n limit then done n else fails Number

-- which time it is, counted from 1
abbrev pub ordinal : Reading ℕ
ordinal = do
  n ← number_below (2 ^ 64)
  if nat_lt 0 n then done n else fails Number

-- reads the decimal number of a register of the adversary, from 0 to 15
abbrev pub register : Reading ℕ
register = do
  n ← number
  if nat_lt n 16 then done n else fails Register

-- ---- bytes, which are hexadecimal digits, two each

-- the bytes that hexadecimal digits spell, two digits each; none where the form is another
abbrev pub hex_bytes : List ℕ → Option (List ℕ)
hex_bytes [] = Some []
hex_bytes (high ∷ []) = None
hex_bytes (high ∷ low ∷ digits) =
    if is_digit high 16 && is_digit low 16
    then option_map (λ bytes. (16 * digit_value high + digit_value low) ∷ bytes) (hex_bytes digits)
    else None

-- the array of these bytes
abbrev pub as_array : List ℕ → ArrayVec ℕ
as_array bytes = record { items = bytes }

-- one byte at least, and no more than there is room for
abbrev pub fitting : ℕ → List ℕ → Option (List ℕ)
fitting room bytes = if nat_lt 0 (length bytes) && nat_le (length bytes) room then Some bytes else None

-- reads a word of hexadecimal digits: one byte at least, and at most as many as there is room for
abbrev pub bytes_within : ℕ → Reading (ArrayVec ℕ)
bytes_within room = do
  digits ← word
  found (option_map as_array (option_and_then (fitting room) (hex_bytes digits))) Span

-- so many bytes
abbrev pub bytes_of_len : ℕ → Reading (ArrayVec ℕ)
bytes_of_len len = do
  bytes ← bytes_within len
  if length bytes.items == len then done bytes else fails Span
