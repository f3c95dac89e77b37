-- Numbers and their digits in a base, the lowest first.
use Rattle.std.specs.Prelude.{ℕ, zero, suc, ◌+◌, ◌*◌, ◌/◌, ◌%◌, List, [], ◌∷◌}

-- the number that has these digits
unfoldable pub number_of : ℕ → List ℕ → ℕ
number_of base [] = 0
number_of base (digit ∷ digits) = digit + base * number_of base digits

-- so many digits of a number
unfoldable pub digits_of : ℕ → ℕ → ℕ → List ℕ
digits_of base zero number = []
digits_of base (suc count) number = number % base ∷ digits_of base count (number / base)
