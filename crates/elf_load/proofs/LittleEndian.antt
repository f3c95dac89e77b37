-- Numbers that byteorder reads, by the words of std.
use Rattle.std.proofs.Common.{◌≡◌, ℕ, List, [], ◌∷◌, take, arith, refl}
use Rattle.std.specs.Int.{w16, w32, from_le_bytes}
use Rattle.byteorder.specs.Endian.{little_number}

pub little_two : (bytes : List ℕ) → little_number 2 bytes ≡ from_le_bytes w16 (take 2 bytes)
little_two [] = refl
little_two (a ∷ []) = omega arith
little_two (a ∷ b ∷ bytes) = omega arith

pub little_four : (bytes : List ℕ) → little_number 4 bytes ≡ from_le_bytes w32 (take 4 bytes)
little_four [] = refl
little_four (a ∷ []) = omega arith
little_four (a ∷ b ∷ []) = omega arith
little_four (a ∷ b ∷ c ∷ []) = omega arith
little_four (a ∷ b ∷ c ∷ d ∷ bytes) = omega arith
