-- Whose turn it is, for callers of `TurnOrder::next`: what follows from its clause *side*.
use Rattle.std.proofs.Common.{◌≡◌, ℕ, Bool, true, false, List, [], ◌∷◌, refl, rules}
use Rattle.std.specs.Prelude.{◌↔◌, Option, Some, None, IfSome, IsTrue}
use Rattle.std.specs.Option.{option_map}
use Rattle.turn_order.specs.declared.side.Side.{Side}
use Rattle.turn_order.specs.declared.side.Side.TheVariants.{First, Second}
use Rattle.turn_order.specs.Side.{side_of, side_number, goes_on}
use Rattle.turn_order.specs.TurnOrder.{next_side}

-- where neither side has ended, one of them has the turn
of_both : (round : List Side)
    → (option_map side_number (next_side false false round) ≡ None → ⊥)
    × IfSome (option_map side_number (next_side false false round)) (λ number. IsTrue (goes_on false false (side_of number)))
unfolding next_side
of_both [] = (λ none. cc, search rules)
of_both (First ∷ round) = (λ none. cc, search rules)
of_both (Second ∷ round) = (λ none. cc, search rules)

-- where the second side has ended, the first has the turn
pub first_alone : (round : List Side) → option_map side_number (next_side false true round) ≡ Some 0
unfolding next_side
first_alone [] = refl
first_alone (First ∷ round) = refl
first_alone (Second ∷ round) = first_alone round

-- where the first side has ended, the second has the turn
pub second_alone : (round : List Side) → option_map side_number (next_side true false round) ≡ Some 1
unfolding next_side
second_alone [] = refl
second_alone (First ∷ round) = second_alone round
second_alone (Second ∷ round) = refl

-- where both sides have ended, neither has the turn
neither : (round : List Side) → option_map side_number (next_side true true round) ≡ None
unfolding next_side
neither [] = refl
neither (First ∷ round) = neither round
neither (Second ∷ round) = neither round

-- the side that has the turn has not ended
pub turn_goes_on : (ended0 ended1 : Bool) (round : List Side) (answer : Option ℕ)
    → answer ≡ option_map side_number (next_side ended0 ended1 round)
    → IfSome answer (λ number. IsTrue (goes_on ended0 ended1 (side_of number)))
turn_goes_on false false round answer is = rw is (of_both round).1
turn_goes_on false true round answer is = rw (is, first_alone round) (search rules)
turn_goes_on true false round answer is = rw (is, second_alone round) (search rules)
turn_goes_on true true round answer is = rw (is, neither round) (search rules)

-- neither side has the turn exactly where both have ended
pub no_turn : (ended0 ended1 : Bool) (round : List Side) (answer : Option ℕ)
    → answer ≡ option_map side_number (next_side ended0 ended1 round)
    → (answer ≡ None) ↔ (IsTrue ended0 × IsTrue ended1)
no_turn false false round answer is =
    rw is (λ none. absurd ((of_both round).0 none), λ ended. absurd (search (rules, ended.0)))
no_turn false true round answer is = rw (is, first_alone round) (search rules)
no_turn true false round answer is = rw (is, second_alone round) (search rules)
no_turn true true round answer is = rw (is, neither round) (search rules)
