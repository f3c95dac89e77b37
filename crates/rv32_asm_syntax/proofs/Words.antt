-- What stands at the front of a text.
use Rattle.std.proofs.Common.{◌≡◌, ℕ, Bool, List, [], ◌∷◌, take, refl}
use Rattle.std.specs.Prelude.{take_while}
use Rattle.std.specs.List.{prefix_len}
use Rattle.std.proofs.lemmas.Grind.{common_steps}
use Rattle.std.proofs.Common.{arith}

pub front_taken : (p : ℕ → Bool) (xs : List ℕ) → take (prefix_len p xs) xs ≡ take_while p xs
front_taken p [] = refl
front_taken p (x ∷ xs) = grind (arith, common_steps, front_taken p xs)
