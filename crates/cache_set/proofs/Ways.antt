-- The ways of one set, by place.
use Rattle.std.proofs.Common.{◌≡◌, ◌≢◌, ◌-◌, ◌==◌, ◌⊎◌, inl, inr, ℕ, zero, suc, ◌<◌, ◌%◌, List, [], ◌∷◌, ◌++◌, length, Option, Some, None, Bool, true, false, not, cond, if◌then◌else◌, slice_get, slice_index_or, slice_set, IsSome, refl, sym, ◌∙◌, ap, subst, arith}
use Rattle.std.specs.List.{AllByRecursion}
use Rattle.std.proofs.lemmas.Bool.Decides.{nat_tests}
use Rattle.std.proofs.lemmas.Option.{same_Some}
use Rattle.cache_set.specs.declared.way.Way.{Way}
use Rattle.cache_set.specs.CacheSet.{IsSet, copy_of, exchanged, in_order, latest_place, touched, way_of, with_found, with_latest, without}
use Rattle.cache_set.specs.Cache.{AreWays}

-- a way that is found has the place
pub place_found : (place : ℕ) (ways : List Way) (way : Way) → way_of place ways ≡ Some way → way.place ≡ place
place_found place [] way h = grind arith
place_found place (first ∷ ways) way h = grind (arith, nat_tests, place_found place ways way)

-- no way of a place is left without it
pub none_without : (place : ℕ) (ways : List Way) → way_of place (without place ways) ≡ None
none_without place [] = refl
none_without place (way ∷ ways) = grind (arith, nat_tests, none_without place ways)

-- the others are
pub found_without : (place other : ℕ) (ways : List Way) → other ≢ place → way_of other (without place ways) ≡ way_of other ways
found_without place other [] h = refl
found_without place other (way ∷ ways) h = grind (arith, nat_tests, found_without place other ways h)

-- a place without a way loses none
pub without_absent : (place : ℕ) (ways : List Way) → way_of place ways ≡ None → without place ways ≡ ways
without_absent place [] h = refl
without_absent place (way ∷ ways) h = grind (arith, nat_tests, without_absent place ways)

found_behind : (place : ℕ) (ways : List Way) (way : Way) → way_of place ways ≡ None → way.place ≡ place → way_of place (ways ++ way ∷ []) ≡ Some way
found_behind place [] way h e = grind (arith, nat_tests)
found_behind place (first ∷ ways) way h e = grind (arith, nat_tests, found_behind place ways way)

found_before : (place : ℕ) (ways : List Way) (way : Way) → place ≢ way.place → way_of place (ways ++ way ∷ []) ≡ way_of place ways
found_before place [] way h = grind (arith, nat_tests)
found_before place (first ∷ ways) way h = grind (arith, nat_tests, found_before place ways way h)

-- the way that came is found
pub found_latest : (way : Way) (ways : List Way) → way_of way.place (with_latest way ways) ≡ Some way
found_latest way ways = found_behind way.place (without way.place ways) way (none_without way.place ways) refl

-- and the others as before
pub found_others : (way : Way) (ways : List Way) (other : ℕ) → other ≢ way.place → way_of other (with_latest way ways) ≡ way_of other ways
found_others way ways other h = found_before other (without way.place ways) way h ∙ found_without way.place other ways h

-- it is the last one
pub latest_behind : (ways : List Way) (way : Way) → latest_place (ways ++ way ∷ []) ≡ Some way.place
latest_behind [] way = refl
latest_behind (first ∷ []) way = refl
latest_behind (first ∷ next ∷ ways) way = latest_behind (next ∷ ways) way

found_again : (found : Option Way) (place : ℕ) (ways : List Way) (other : ℕ) → way_of place ways ≡ found → way_of other (with_found found ways) ≡ way_of other ways
found_again None place ways other h = refl
found_again (Some way) place ways other h = grind (arith, nat_tests, found_latest way ways, found_others way ways other, place_found place ways way h)

-- a touch leaves the way of each place
pub found_touched : (place : ℕ) (ways : List Way) (other : ℕ) → way_of other (touched place ways) ≡ way_of other ways
found_touched place ways other = found_again (way_of place ways) place ways other refl

latest_again : (found : Option Way) (place : ℕ) (ways : List Way) → way_of place ways ≡ found → IsSome found → latest_place (with_found found ways) ≡ Some place
latest_again None place ways h s = grind arith
latest_again (Some way) place ways h s = latest_behind (without way.place ways) way ∙ ap Some (place_found place ways way h)

-- and makes a way that there is the last one
pub latest_touched : (place : ℕ) (ways : List Way) → IsSome (way_of place ways) → latest_place (touched place ways) ≡ Some place
latest_touched place ways s = latest_again (way_of place ways) place ways refl s

set_left : (a b : Way) (s t : Bool) → a.place ≢ b.place → IsSet (cond (not s) (a ∷ cond (not t) (b ∷ []) []) (cond (not t) (b ∷ []) []))
set_left a b true true h = tt
set_left a b true false h = tt
set_left a b false true h = tt
set_left a b false false h = h

-- what is left without a place is a set
pub set_without : (place : ℕ) (ways : List Way) → IsSet ways → IsSet (without place ways)
set_without place [] h = tt
set_without place (a ∷ []) h = elim (a.place == place) as (λ s. IsSet (cond (not s) (a ∷ []) [])) [ true ↦ tt | false ↦ tt ]
set_without place (a ∷ b ∷ []) h = set_left a b (a.place == place) (b.place == place) h
set_without place (a ∷ b ∷ c ∷ ways) h = absurd h

right_without : (count index place : ℕ) (ways : List Way) → AllByRecursion (λ way. way.place % count ≡ index) ways → AllByRecursion (λ way. way.place % count ≡ index) (without place ways)
right_without count index place [] h = tt
right_without count index place (way ∷ ways) h =
    elim (way.place == place) as (λ s. AllByRecursion (λ w. w.place % count ≡ index) (cond (not s) (way ∷ without place ways) (without place ways)))
    [ true ↦ right_without count index place ways h.1 | false ↦ (h.0, right_without count index place ways h.1) ]

right_behind : (count index : ℕ) (ways : List Way) (way : Way) → AllByRecursion (λ w. w.place % count ≡ index) ways → way.place % count ≡ index → AllByRecursion (λ w. w.place % count ≡ index) (ways ++ way ∷ [])
right_behind count index [] way h e = (e, tt)
right_behind count index (first ∷ ways) way h e = (h.0, right_behind count index ways way h.1 e)

-- there is room for a way, or it takes the place of another
abbrev pub Fits : ℕ → List Way → Type 0
Fits place ways = (length ways < 2) ⊎ IsSome (way_of place ways)

differ : (a b : ℕ) → false ≡ (a == b) → a ≢ b
differ a b e h = grind (arith, nat_tests)

set_two : (a b way : Way) (s t : Bool) → s ≡ (a.place == way.place) → t ≡ (b.place == way.place) → IsSome (cond s (Some a) (cond t (Some b) None)) → IsSet (cond (not s) (a ∷ cond (not t) (b ∷ []) []) (cond (not t) (b ∷ []) []) ++ way ∷ [])
set_two a b way true true e f h = tt
set_two a b way true false e f h = differ b.place way.place f
set_two a b way false true e f h = differ a.place way.place e
set_two a b way false false e f h = grind arith

set_one : (a way : Way) (s : Bool) → s ≡ (a.place == way.place) → IsSet (cond (not s) (a ∷ []) [] ++ way ∷ [])
set_one a way true e = tt
set_one a way false e = differ a.place way.place e

without_twice : (place : ℕ) (ways : List Way) → without place (without place ways) ≡ without place ways
without_twice place [] = refl
without_twice place (way ∷ ways) = grind (arith, nat_tests, without_twice place ways)

-- a way that comes last is not beside itself
pub without_behind : (place : ℕ) (ways : List Way) (way : Way) → way.place ≡ place → without place (ways ++ way ∷ []) ≡ without place ways
without_behind place [] way e = grind (arith, nat_tests)
without_behind place (first ∷ ways) way e = grind (arith, nat_tests, without_behind place ways way e)

-- and a touch changes nothing of the ways beside it
pub without_again : (found : Option Way) (place : ℕ) (ways : List Way) → way_of place ways ≡ found → without place (with_found found ways) ≡ without place ways
without_again None place ways h = refl
without_again (Some way) place ways h =
    let here = place_found place ways way h in
    without_behind place (without way.place ways) way here ∙ (ap (λ q. without place (without q ways)) here ∙ without_twice place ways)

-- a touch before it changes nothing of a way that comes
pub latest_after_touch : (way : Way) (ways : List Way) → with_latest way (touched way.place ways) ≡ with_latest way ways
latest_after_touch way ways = ap (λ left. left ++ way ∷ []) (without_again (way_of way.place ways) way.place ways refl)

-- a way that fits makes a set
pub set_latest : (way : Way) (ways : List Way) → IsSet ways → Fits way.place ways → IsSet (with_latest way ways)
set_latest way [] h f = tt
set_latest way (a ∷ []) h f = set_one a way (a.place == way.place) refl
set_latest way (a ∷ b ∷ []) h (inl few) = absurd (omega (arith, few))
set_latest way (a ∷ b ∷ []) h (inr here) = set_two a b way (a.place == way.place) (b.place == way.place) refl refl here
set_latest way (a ∷ b ∷ c ∷ ways) h f = absurd h

pub ways_latest : (count index : ℕ) (way : Way) (ways : List Way) → AreWays count index ways → way.place % count ≡ index → Fits way.place ways → AreWays count index (with_latest way ways)
ways_latest count index way ways h e f = record {
  set = set_latest way ways h.set f;
  right = right_behind count index (without way.place ways) way (right_without count index way.place ways h.right) e;
}

pub ways_without : (count index place : ℕ) (ways : List Way) → AreWays count index ways → AreWays count index (without place ways)
ways_without count index place ways h = record { set = set_without place ways h.set; right = right_without count index place ways h.right }

ways_again : (found : Option Way) (count index place : ℕ) (ways : List Way) → way_of place ways ≡ found → AreWays count index ways → place % count ≡ index → AreWays count index (with_found found ways)
ways_again None count index place ways h are e = are
ways_again (Some way) count index place ways h are e =
    let p = place_found place ways way h in
    ways_latest count index way ways are (ap (λ q. q % count) p ∙ e) (inr (subst (λ q. IsSome (way_of q ways)) (sym p) (subst IsSome (sym h) refl)))

pub ways_touched : (count index place : ℕ) (ways : List Way) → AreWays count index ways → place % count ≡ index → AreWays count index (touched place ways)
ways_touched count index place ways are e = ways_again (way_of place ways) count index place ways refl are e

-- the last way is there
pub latest_found : (place : ℕ) (ways : List Way) → latest_place ways ≡ Some place → IsSome (way_of place ways)
latest_found place [] h = grind arith
latest_found place (a ∷ []) h = grind (arith, nat_tests)
latest_found place (a ∷ b ∷ ways) h = grind (arith, nat_tests, latest_found place (b ∷ ways) h)

room_left : (a b : Way) (s t : Bool) → IsSome (cond s (Some a) (cond t (Some b) None)) → length (cond (not s) (a ∷ cond (not t) (b ∷ []) []) (cond (not t) (b ∷ []) [])) < 2
room_left a b true true h = omega arith
room_left a b true false h = omega arith
room_left a b false true h = omega arith
room_left a b false false h = grind arith

-- where one of two ways goes, there is room
pub room_without : (place : ℕ) (ways : List Way) → IsSet ways → IsSome (way_of place ways) → length (without place ways) < 2
room_without place [] h s = omega arith
room_without place (a ∷ []) h s = elim (a.place == place) as (λ t. length (cond (not t) (a ∷ []) []) < 2) [ true ↦ omega arith | false ↦ omega arith ]
room_without place (a ∷ b ∷ []) h s = room_left a b (a.place == place) (b.place == place) s
room_without place (a ∷ b ∷ c ∷ ways) h s = absurd h

-- ---- ways that may be swapped

-- one way is in order anyhow
pub few_in_order : (swapped : Bool) (ways : List Way) → length (in_order swapped ways) < 2 → in_order swapped ways ≡ ways
few_in_order false ways few = refl
few_in_order true [] few = refl
few_in_order true (a ∷ []) few = refl
few_in_order true (a ∷ b ∷ ways) few = absurd (omega (arith, few))

left_in_order : (a b : Way) (s t : Bool) → exchanged (cond (not s) (a ∷ cond (not t) (b ∷ []) []) (cond (not t) (b ∷ []) [])) ≡ cond (not t) (b ∷ cond (not s) (a ∷ []) []) (cond (not s) (a ∷ []) [])
left_in_order a b true true = refl
left_in_order a b true false = refl
left_in_order a b false true = refl
left_in_order a b false false = refl

-- what is left of two ways keeps its order
pub without_in_order : (swapped : Bool) (place : ℕ) (ways : List Way) → IsSet (in_order swapped ways) → in_order swapped (without place ways) ≡ without place (in_order swapped ways)
without_in_order false place ways few = refl
without_in_order true place [] few = refl
without_in_order true place (a ∷ []) few = elim (a.place == place) as (λ s. exchanged (cond (not s) (a ∷ []) []) ≡ cond (not s) (a ∷ []) []) [ true ↦ refl | false ↦ refl ]
without_in_order true place (a ∷ b ∷ []) few = left_in_order a b (a.place == place) (b.place == place)
without_in_order true place (a ∷ b ∷ c ∷ ways) few = absurd few

-- a way, written in place
abbrev pub Written : (List ℕ → List ℕ) → ℕ → List Way → List Way → Type 0
Written write place old new = (x : List ℕ) × (copy_of place old ≡ Some x) × (new ≡ with_latest (record { place = place; changed = true; copy = write x }) old)

written_one : (write : List ℕ → List ℕ) (a : Way) → Written write a.place (a ∷ []) (record { place = a.place; changed = true; copy = write a.copy } ∷ [])
written_one write a = (a.copy, grind (arith, nat_tests), grind (arith, nat_tests))

written_two : (write : List ℕ → List ℕ) (a b : Way) → a.place ≢ b.place → Written write b.place (a ∷ b ∷ []) (a ∷ record { place = b.place; changed = true; copy = write b.copy } ∷ [])
written_two write a b h = (b.copy, grind (arith, nat_tests), grind (arith, nat_tests))

at_place : (write : List ℕ → List ℕ) (a : Way) (place : ℕ) (old new : List Way) → Some a.place ≡ Some place → Written write a.place old new → Written write place old new
at_place write a place old new h w = subst (λ p. Written write p old new) (same_Some a.place place h) w

written_first : (write : List ℕ → List ℕ) (a b : Way) → a.place ≢ b.place → Written write a.place (a ∷ b ∷ []) (b ∷ record { place = a.place; changed = true; copy = write a.copy } ∷ [])
written_first write a b h = (a.copy, grind (arith, nat_tests), grind (arith, nat_tests))

-- the way of a place, written where it stands
pub written_at : (write : List ℕ → List ℕ) (ways : List Way) (index place : ℕ) (spare : Way) → IsSet ways → slice_get ways index ≡ way_of place ways → index < length ways →
    Written write place ways
    (in_order (index == 0) (slice_set ways index (record {
      place = (slice_index_or ways index spare).place;
      changed = true;
      copy = write (slice_index_or ways index spare).copy;
    })))
written_at write [] index place spare set here inside = absurd (omega (arith, inside))
written_at write (a ∷ []) zero place spare set here inside =
    at_place write a place (a ∷ []) _ (ap Some (place_found place (a ∷ []) a (sym here))) (written_one write a)
written_at write (a ∷ []) (suc index) place spare set here inside = absurd (omega (arith, inside))
written_at write (a ∷ b ∷ []) zero place spare set here inside =
    at_place write a place (a ∷ b ∷ []) _ (ap Some (place_found place (a ∷ b ∷ []) a (sym here))) (written_first write a b set)
written_at write (a ∷ b ∷ []) (suc zero) place spare set here inside =
    at_place write b place (a ∷ b ∷ []) _ (ap Some (place_found place (a ∷ b ∷ []) b (sym here))) (written_two write a b set)
written_at write (a ∷ b ∷ []) (suc (suc index)) place spare set here inside = absurd (omega (arith, inside))
written_at write (a ∷ b ∷ c ∷ ways) index place spare set here inside = absurd set
