-- What calls leave of a cache.
use Rattle.std.proofs.Common.{◌≡◌, ◌≢◌, ◌⊎◌, inl, inr, ◌↔◌, ℕ, ◌<◌, ◌%◌, List, [], ◌∷◌, length, get_or, Option, Some, None, IfSome, IsSome, IsTrue, Bool, true, false, refl, sym, ◌∙◌, ap, subst, arith}
use Rattle.std.specs.List.{Contains}
use Rattle.std.proofs.Math.ListN.{set}
use Rattle.std.proofs.lemmas.Bool.{true≢false}
use Rattle.std.proofs.lemmas.Bool.Decides.{nat_tests}
use Rattle.std.proofs.lemmas.List.{get_or_default, length-set, set-get_or, set-set}
use Rattle.cache_set.specs.declared.way.Way.{Way}
use Rattle.cache_set.specs.CacheSet.{latest_place, touched, victim, way_of, with_found, with_latest, without}
use Rattle.cache_set.specs.Cache.{AreWays, IsCache, IsLatest, places, set_at, way_at, with_set}
use Rattle.cache_set.proofs.Ways.{Fits, Written, found_latest, found_others, found_touched, found_without, latest_after_touch, latest_behind, latest_found, latest_touched, none_without, room_without, ways_latest, ways_touched, ways_without}
use Rattle.cache_set.proofs.Sets.{cache_with, same_or_not, set_here, way_beside, ways_at}
use Rattle.cache_set.proofs.Listed.{found_at, listed_at, listed_found, right_place}
use Rattle.std.proofs.lemmas.Option.{same_Some}

none_of : (found : Option Way) → (IsSome found → ⊥) → found ≡ None
none_of None h = refl
none_of (Some way) h = absurd (h refl)

found_or_not : (found : Bool) → IsTrue found ⊎ (found ≡ false)
found_or_not true = inl refl
found_or_not false = inr refl

-- the victim of a set is the way of its place
victim_found : (ways : List Way) (way : Way) → victim ways ≡ Some way → way_of way.place ways ≡ Some way
victim_found [] way h = grind arith
victim_found (a ∷ []) way h = grind arith
victim_found (a ∷ b ∷ ways) way h = let same : a ≡ way = same_Some a way h in subst (λ w. way_of w.place (a ∷ b ∷ ways) ≡ Some w) same (grind (arith, nat_tests))

module _ (count : ℕ) (sets : List (List Way)) (place : ℕ) (is : IsCache count sets) (old : List Way) (was : old ≡ get_or sets (place % count) old) where
  -- the set that was read
  pub read_set : old ≡ get_or sets (place % count) []
  read_set =
      let below : place % count < length sets = subst (λ n. place % count < n) (sym is.counted) (omega (arith, is.some)) in
      was ∙ get_or_default sets (place % count) old [] below

  pub read_at : set_at sets place ≡ old
  read_at = ap (λ n. get_or sets (place % n) []) is.counted ∙ sym read_set

  pub read_ways : AreWays count (place % count) old
  read_ways = subst (AreWays count (place % count)) (sym read_set) (ways_at count sets place is)

  pub listed : (found : Bool) → IsTrue found ↔ IsSome (way_of place old) → IsTrue found ↔ Contains (places sets) place
  listed found h = (
    λ t. listed_at sets place (subst (λ ways. IsSome (way_of place ways)) (sym read_at) (h.0 t)),
    λ c. h.1 (subst (λ ways. IsSome (way_of place ways)) read_at (found_at count sets place is c)),
  )

  pub absent : (found : Bool) → IsTrue found ↔ IsSome (way_of place old) → found ≡ false → way_at sets place ≡ None
  absent found h out = none_of (way_at sets place) (λ s. true≢false (sym (h.1 (subst (λ ways. IsSome (way_of place ways)) read_at s)) ∙ out))

  pub latest_there : IsLatest sets place → IsSome (way_of place old)
  latest_there h = latest_found place old (ap latest_place (sym read_at) ∙ h)

  pub fits_latest : IsLatest sets place → Fits place old
  fits_latest h = inr (latest_there h)

  pub fits_room : length (set_at sets place) < 2 → Fits place old
  fits_room h = inl (subst (λ ways. length ways < 2) read_at h)

  module _ (new : List Way) where
    -- other ways in the set of a place leave the ways of other places
    pub same_where : (other : ℕ) → way_of other new ≡ way_of other old → way_at (set sets (place % count) new) other ≡ way_at sets other
    same_where other e = way_beside count sets place other new is (e ∙ ap (way_of other) read_set)

    pub way_there : way_at (set sets (place % count) new) place ≡ way_of place new
    way_there = ap (way_of place) (set_here count sets place place new is refl)

    pub cache_touched : new ≡ touched place old → IsCache count (set sets (place % count) new)
    cache_touched e = cache_with count sets place new is (subst (AreWays count (place % count)) (sym e) (ways_touched count (place % count) place old read_ways refl))

    pub same_touched : new ≡ touched place old → (other : ℕ) → way_at (set sets (place % count) new) other ≡ way_at sets other
    same_touched e other = same_where other (ap (way_of other) e ∙ found_touched place old other)

    pub touched_latest : new ≡ touched place old → IsSome (way_of place old) → IsLatest (set sets (place % count) new) place
    touched_latest e s = ap latest_place (set_here count sets place place new is refl ∙ e) ∙ latest_touched place old s

    pub not_touched : new ≡ touched place old → way_at sets place ≡ None → set sets (place % count) new ≡ sets
    not_touched e none =
        let found : way_of place old ≡ None = ap (way_of place) (sym read_at) ∙ none in
        ap (set sets (place % count)) (e ∙ (ap (λ (f : Option Way). with_found f old) found ∙ read_set)) ∙ set-get_or sets (place % count) []

    module _ (way : Way) (here : way.place ≡ place) (e : new ≡ with_latest way old) where
      pub cache_latest : Fits place old → IsCache count (set sets (place % count) new)
      cache_latest fits = cache_with count sets place new is (subst (AreWays count (place % count)) (sym e)
          (ways_latest count (place % count) way old read_ways (ap (λ p. p % count) here) (subst (λ p. Fits p old) (sym here) fits)))

      pub way_latest : way_at (set sets (place % count) new) place ≡ Some way
      way_latest = way_there ∙ (ap (way_of place) e ∙ (ap (λ p. way_of p (with_latest way old)) (sym here) ∙ found_latest way old))

      pub same_latest : (other : ℕ) → other ≢ place → way_at (set sets (place % count) new) other ≡ way_at sets other
      same_latest other d = same_where other (ap (way_of other) e ∙ found_others way old other (λ same. d (same ∙ here)))

      pub latest_latest : IsLatest (set sets (place % count) new) place
      latest_latest = ap latest_place (set_here count sets place place new is refl ∙ e) ∙ (latest_behind (without way.place old) way ∙ ap Some here)

    -- where the place has a way, a number was put in its copy
    module _ (found : Bool) (copied : List ℕ → List ℕ) (there : IsTrue found → IsSome (way_of place old)) (put : IsTrue found → Written copied place old new) (stays : found ≡ false → new ≡ old) where
      pub cache_written : IsCache count (set sets (place % count) new)
      cache_written = elim (found_or_not found) [
        | inl is_there ↦ cache_latest (record { place = place; changed = true; copy = copied (put is_there).0 }) refl (put is_there).2 (inr (there is_there))
        | inr out ↦ cache_with count sets place new is (subst (AreWays count (place % count)) (sym (stays out)) read_ways)
      ]

      pub same_written : (other : ℕ) → other ≢ place → way_at (set sets (place % count) new) other ≡ way_at sets other
      same_written other d = elim (found_or_not found) [
        | inl is_there ↦ same_latest (record { place = place; changed = true; copy = copied (put is_there).0 }) refl (put is_there).2 other d
        | inr out ↦ same_where other (ap (way_of other) (stays out))
      ]

    module _ (e : new ≡ without place old) where
      pub cache_without : IsCache count (set sets (place % count) new)
      cache_without = cache_with count sets place new is (subst (AreWays count (place % count)) (sym e) (ways_without count (place % count) place old read_ways))

      pub none_left : way_at (set sets (place % count) new) place ≡ None
      none_left = way_there ∙ (ap (way_of place) e ∙ none_without place old)

      pub none_stays : (other : ℕ) → way_at sets other ≡ None → way_at (set sets (place % count) new) other ≡ None
      none_stays other none = elim (same_or_not other place) [
        | inl same ↦ ap (way_at (set sets (place % count) new)) same ∙ none_left
        | inr d ↦ same_where other (ap (way_of other) e ∙ found_without place other old d) ∙ none
      ]

      pub same_left : (other : ℕ) → other ≢ place → way_at (set sets (place % count) new) other ≡ way_at sets other
      same_left other d = same_where other (ap (way_of other) e ∙ found_without place other old d)

      pub room_left : IsSome (way_at sets place) → (other : ℕ) → other % count ≡ place % count → length (set_at (set sets (place % count) new) other) < 2
      room_left s other beside = subst (λ ways. length ways < 2) (sym (set_here count sets place other new is beside ∙ e))
          (room_without place old read_ways.set (subst (λ ways. IsSome (way_of place ways)) read_at s))

  -- the way that goes out is of this set
  pub victim_right : (way : Way) → victim old ≡ Some way → way.place % count ≡ place % count
  victim_right way e = right_place count (place % count) old way.place read_ways.right
      (listed_found old way.place (subst IsSome (sym (victim_found old way e)) refl))

  pub victim_beside : (found : Option Way) → found ≡ victim old → IfSome found (λ way. way.place % count ≡ place % count)
  victim_beside None e = tt
  victim_beside (Some way) e = victim_right way (sym e)

  pub victim_at : (found : Option Way) → found ≡ victim old → IfSome found (λ way. way_at sets way.place ≡ Some way)
  victim_at None e = tt
  victim_at (Some way) e =
      ap (λ n. way_of way.place (get_or sets (way.place % n) [])) is.counted
      ∙ (ap (λ i. way_of way.place (get_or sets i [])) (victim_right way (sym e))
      ∙ (ap (way_of way.place) (sym read_set) ∙ victim_found old way (sym e)))

-- a touch before a way comes changes nothing of the cache
pub put_after_touch : (count : ℕ) (sets : List (List Way)) (way : Way) → IsCache count sets →
    with_set (with_set sets way.place (touched way.place (set_at sets way.place))) way.place
    (with_latest way (set_at (with_set sets way.place (touched way.place (set_at sets way.place))) way.place))
    ≡ with_set sets way.place (with_latest way (set_at sets way.place))
put_after_touch count sets way is =
    let here = way.place % length sets in
    let ways = set_at sets way.place in
    let sets' = set sets here (touched way.place ways) in
    let there : set_at sets' way.place ≡ touched way.place ways =
    set_here (length sets) sets way.place way.place (touched way.place ways) (subst (λ n. IsCache n sets) (sym is.counted) is) refl in
    ap (λ n. set sets' (way.place % n) (with_latest way (set_at sets' way.place))) (length-set sets here (touched way.place ways))
    ∙ (ap (λ (w : List Way). set sets' here (with_latest way w)) there
    ∙ (ap (set sets' here) (latest_after_touch way ways)
    ∙ set-set sets here (touched way.place ways) (with_latest way ways)))
