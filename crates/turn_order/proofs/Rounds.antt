-- Rounds of an order as it goes on.
use Rattle.std.proofs.Common.{◌≡◌, ◌<◌, ◌≤◌, ◌+◌, ℕ, Bool, true, false, List, [], ◌∷◌, length, map, get_or, take, drop, refl, sym, ◌∙◌, ap, arith, append_assoc}
use Rattle.std.specs.Prelude.{Some, None, find, slice_get}
use Rattle.std.specs.List.{position_or_len}
use Rattle.std.specs.Option.{option_map}
use Rattle.std.proofs.lemmas.Grind.{common_steps}
use Rattle.std.proofs.lemmas.List.{append-nil, drop_more, take_more, drop_all, take_all}
use Rattle.std.proofs.lemmas.Option.{slice_get-get_or, slice_get-map, slice_get_past}
use Rattle.std.proofs.lemmas.List.Folds.{find_at}
use Rattle.std.proofs.lemmas.List.Sums.{passes_at_first, fails_before_first}
use Rattle.turn_order.specs.declared.side.Side.{Side}
use Rattle.turn_order.specs.declared.side.Side.TheVariants.{First, Second}
use Rattle.turn_order.specs.Side.{side_of, goes_on}
use Rattle.turn_order.specs.TurnOrder.{first_round, round_from, side_left, next_side, round_after}

pub from_start : (round : List Side) → round_from 0 round ≡ round
unfolding round_from
from_start round = append-nil round

pub from_end : (round : List Side) (place : ℕ) → length round ≤ place → round_from place round ≡ round
unfolding round_from
from_end round place past = rw (drop_all place round past, take_all place round past) refl

-- the next entry of a round from one of its places on is the one at that place
pub first_entry : (round : List Side) (place : ℕ) → place < length round → slice_get (round_from place round) 0 ≡ slice_get round place
unfolding round_from
first_entry round place inside =
    rw (drop_more round place First inside, slice_get-get_or round place First inside) refl

-- the entry that is passed comes again after all others
pub one_on : (round : List Side) (place : ℕ) → place < length round → round_from 1 (round_from place round) ≡ round_from (place + 1) round
unfolding round_from
one_on round place inside =
    rw (drop_more round place First inside, take_more round place First inside)
    (append_assoc (drop (place + 1) round) (take place round) (get_or round place First ∷ []))

-- the side that a byte of an order names, as the entry at its place
pub entry_at : (order : List ℕ) (place : ℕ) → place < length order
    → slice_get (map side_of order) place ≡ Some (side_of (get_or order place 0))
entry_at order place inside =
    slice_get-map side_of order place ∙ ap (option_map side_of) (slice_get-get_or order place 0 inside)

pub same_length : (order : List ℕ) (place : ℕ) → place < length order → length order ≡ length (round_from place (map side_of order))
unfolding round_from
same_length order place inside = grind (arith, common_steps)

pub is_first_round : (order : List ℕ) → 0 < length order → first_round order ≡ map side_of order
is_first_round [] some = absurd (omega arith)
is_first_round (byte ∷ bytes) some = refl

pub is_taking_turns : (order : List ℕ) → length order ≡ 0 → first_round order ≡ First ∷ Second ∷ []
is_taking_turns [] none = refl
is_taking_turns (byte ∷ bytes) none = absurd (omega arith)

-- the round behind an entry that was passed
pub passed_on : (round now after : List Side) (place : ℕ) → now ≡ round_from place round → place < length round
    → after ≡ round_from 1 now → after ≡ round_from (place + 1) round
passed_on round now after place is inside on = on ∙ (ap (round_from 1) is ∙ one_on round place inside)

-- the next entry, where so many were passed
pub entry_there : (round now : List Side) (place : ℕ) (side : Side) → now ≡ round_from place round → place < length round
    → slice_get now 0 ≡ Some side → slice_get round place ≡ Some side
entry_there round now place side is inside first = sym (first_entry round place inside) ∙ (ap (λ entries. slice_get entries 0) (sym is) ∙ first)

entry_is : (round : List Side) (place : ℕ) (side : Side) → slice_get round place ≡ Some side → place < length round → get_or round place side ≡ side
entry_is round place side is inside = let there = slice_get-get_or round place side inside in cc

found_there : (test : Side → Bool) (round : List Side) (place : ℕ) (side : Side) → slice_get round place ≡ Some side → place < length round
    → place ≤ position_or_len test round → test side ≡ true → position_or_len test round ≡ place
found_there test round place side is inside passed passes =
    grind (arith, entry_is round place side is inside, passes, inside, passed, fails_before_first test round place side)

-- an entry whose side has ended is passed
pub passes_over : (test : Side → Bool) (round : List Side) (place : ℕ) (side : Side) → slice_get round place ≡ Some side → place < length round
    → place ≤ position_or_len test round → test side ≡ false → place + 1 ≤ position_or_len test round
passes_over test round place side is inside passed fails =
    grind (arith, entry_is round place side is inside, fails, inside, passed, passes_at_first test round side)

-- a side that has not ended has its turn
pub has_turn : (ended0 ended1 : Bool) (round : List Side) (place : ℕ) (side : Side) → slice_get round place ≡ Some side → place < length round
    → place ≤ position_or_len (goes_on ended0 ended1) round → goes_on ended0 ended1 side ≡ true
    → (Some side ≡ next_side ended0 ended1 round)
    × (round_from (place + 1) round ≡ round_after ended0 ended1 round)
unfolding next_side round_after
has_turn ended0 ended1 round place side is inside passed passes =
    let at = found_there (goes_on ended0 ended1) round place side is inside passed passes in
    let found : find (goes_on ended0 ended1) round ≡ Some side = find_at (goes_on ended0 ended1) round ∙ (ap (slice_get round) at ∙ is) in
    (rw found refl, rw at refl)

-- where no entry is of a side that has not ended, that side has its turn and the round stays
pub has_turn_left : (ended0 ended1 : Bool) (round : List Side) (place : ℕ) → length round ≤ place
    → place ≤ position_or_len (goes_on ended0 ended1) round
    → (side_left ended0 ended1 ≡ next_side ended0 ended1 round)
    × (round_from place round ≡ round_after ended0 ended1 round)
unfolding next_side round_after
has_turn_left ended0 ended1 round place whole passed =
    let none : find (goes_on ended0 ended1) round ≡ None =
    find_at (goes_on ended0 ended1) round ∙ slice_get_past round _ (omega (arith, whole, passed)) in
    (rw none refl, from_end round place whole ∙ sym (from_end round _ (omega (arith, whole, passed))))
