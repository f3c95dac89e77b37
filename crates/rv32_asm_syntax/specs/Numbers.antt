-- Numbers: decimal, with a minus sign if wanted, or `0x` and hexadecimal digits, from -2^31 to 2^32 - 1.
use Rattle.std.specs.Prelude.{ℕ, ◌^◌, ◌-◌, ℤ, pos, neg_ℤ, List, [], ◌∷◌, Bool, ◌&&◌, Option, Some, None, option_map, option_and_then, drop, nat_eq, int_le, codes, if◌then◌else◌}
use Rattle.std.specs.List.{list_all, starts_with}
use Rattle.std.specs.Char.{is_digit}
use Rattle.std.specs.Str.Parse.{digits_value}
use Rattle.rv32_asm_syntax.specs.Characters.{minus}

-- the number that digits of a base write, of which there is one at least
abbrev pub natural_of : ℕ → List ℕ → Option ℕ
natural_of base [] = None
natural_of base (digit ∷ digits) =
    if list_all (λ byte. is_digit byte base) (digit ∷ digits) then Some (digits_value base (digit ∷ digits)) else None

-- Whether a value lies between two bounds, both included.
abbrev pub is_between : ℤ → ℤ → ℤ → Bool
is_between low high value = int_le low value && int_le value high

-- the number, where it is in the range of numbers
abbrev pub in_range : ℤ → Option ℤ
in_range number = if is_between (neg_ℤ (pos (2 ^ 31))) (pos (2 ^ 32 - 1)) number then Some number else None

-- the number that is spelled, whatever its size
abbrev pub spelled_number : List ℕ → Option ℤ
spelled_number text =
    if starts_with nat_eq text (codes "0x") then option_map pos (natural_of 16 (drop 2 text))
    else if starts_with nat_eq text (minus ∷ []) then option_map (λ n. neg_ℤ (pos n)) (natural_of 10 (drop 1 text))
    else option_map pos (natural_of 10 text)

-- The number that a text spells, if it is in the range of numbers.
unfoldable pub number_of : List ℕ → Option ℤ
number_of text = option_and_then in_range (spelled_number text)
