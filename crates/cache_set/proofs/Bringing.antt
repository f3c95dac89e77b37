-- What a cache is once a place is brought in, and once another goes out for it.
use Rattle.std.proofs.Common.{◌≡◌, ◌≢◌, ◌⊎◌, inl, inr, ℕ, ◌<◌, ◌%◌, List, [], ◌∷◌, ◌++◌, length, get_or, Option, Some, None, IsSome, is_some, true, false, refl, sym, ◌∙◌, ap, subst, arith}
use Rattle.std.specs.List.{Contains}
use Rattle.std.specs.Option.{option_map}
use Rattle.std.proofs.Math.ListN.{set}
use Rattle.std.proofs.lemmas.Bool.{true≢false}
use Rattle.std.proofs.lemmas.Bool.Decides.{nat_tests}
use Rattle.std.proofs.lemmas.List.{get_or_default}
use Rattle.std.proofs.lemmas.Option.{none-some, same_Some}
use Rattle.cache_set.specs.declared.way.Way.{Way}
use Rattle.cache_set.specs.Bringing.{brought, brought_if, if_changed, leaving, room_if, with_changed, with_new, with_room}
use Rattle.cache_set.specs.CacheSet.{HasRoom, IsSet, latest_place, touched, victim, way_of, with_latest, without}
use Rattle.cache_set.specs.Cache.{IsCache, IsLatest, copy_at, place_of, places, set_at, victim_for, victim_if, way_at, with_set}
use Rattle.cache_set.proofs.Ways.{Fits, without_absent}
use Rattle.cache_set.proofs.Sets.{set_apart, set_here, ways_at}
use Rattle.cache_set.proofs.Listed.{found_at, listed_at}
use Rattle.cache_set.proofs.Calls.{cache_latest, cache_touched, cache_without, latest_latest, none_left, none_stays, put_after_touch, room_left, same_latest, same_left, same_touched, touched_latest, victim_at, victim_right, way_latest}

-- ---- a place that has a way, or has none

pub some_or_none : (found : Option Way) → IsSome found ⊎ (found ≡ None)
some_or_none None = inr refl
some_or_none (Some way) = inl refl

some_not : (found : Option Way) → IsSome found → found ≡ None → ⊥
some_not None s none = true≢false (sym s)
some_not (Some way) s none = true≢false (ap (λ (f : Option Way). is_some f) none)

-- a place without a way is not listed
pub not_listed : (count : ℕ) (sets : List (List Way)) (place : ℕ) → IsCache count sets → way_at sets place ≡ None → ¬ (Contains (places sets) place)
not_listed count sets place is none listed = some_not (way_at sets place) (found_at count sets place is listed) none

-- and one that is not listed has none
pub unheld_none : (sets : List (List Way)) (place : ℕ) → ¬ (Contains (places sets) place) → way_at sets place ≡ None
unheld_none sets place out = elim (some_or_none (way_at sets place)) [
  | inl there ↦ absurd (out (listed_at sets place there))
  | inr none ↦ none
]

-- no way goes out where a place has one
none_leaves_if : (found : Option Way) (ways : List Way) → IsSome found → victim_if found ways ≡ None
none_leaves_if None ways there = absurd (true≢false (sym there))
none_leaves_if (Some way) ways there = refl

pub none_goes : (sets : List (List Way)) (place : ℕ) → IsSome (way_at sets place) → victim_for sets place ≡ None
none_goes sets place there = none_leaves_if (way_at sets place) (set_at sets place) there

pub none_leaves : (sets : List (List Way)) (place : ℕ) → IsSome (way_at sets place) → leaving sets place ≡ None
none_leaves sets place there = ap if_changed (none_goes sets place there)

-- a touch is all that is done for a place that has a way
brought_held_if : (found : Option Way) (sets : List (List Way)) (place : ℕ) (copy : List ℕ) → IsSome found → with_set sets place (touched place (set_at sets place)) ≡ brought_if found sets place copy
brought_held_if None sets place copy there = absurd (true≢false (sym there))
brought_held_if (Some way) sets place copy there = refl

pub brought_held : (sets : List (List Way)) (place : ℕ) (copy : List ℕ) → IsSome (way_at sets place) → with_set sets place (touched place (set_at sets place)) ≡ brought sets place copy
brought_held sets place copy there = brought_held_if (way_at sets place) sets place copy there

-- a place that has none gets one, where there is room then
pub brought_missed : (sets : List (List Way)) (place : ℕ) (copy : List ℕ) → way_at sets place ≡ None → with_new (with_room sets place) place copy ≡ brought sets place copy
brought_missed sets place copy none = ap (λ (found : Option Way). brought_if found sets place copy) (sym none)

-- a way that is used and then changed
changed_held_if : (found : Option Way) (count : ℕ) (sets : List (List Way)) (place : ℕ) (copy copy' : List ℕ) → IsCache count sets → IsSome found →
    with_changed (brought_if found sets place copy) place copy' ≡ with_changed sets place copy'
changed_held_if None count sets place copy copy' is there = absurd (true≢false (sym there))
changed_held_if (Some way) count sets place copy copy' is there = put_after_touch count sets (record { place = place; changed = true; copy = copy' }) is

pub changed_held : (count : ℕ) (sets : List (List Way)) (place : ℕ) (copy copy' : List ℕ) → IsCache count sets → IsSome (way_at sets place) →
    with_changed (brought sets place copy) place copy' ≡ with_changed sets place copy'
changed_held count sets place copy copy' is there = changed_held_if (way_at sets place) count sets place copy copy' is there

-- ---- the way that goes out

-- it goes only for a place that has none
goes_is : (found : Option Way) (ways : List Way) (way : Way) → victim_if found ways ≡ Some way → (found ≡ None) × (victim ways ≡ Some way)
goes_is None ways way goes = (refl, goes)
goes_is (Some there) ways way goes = absurd (none-some way goes)

stays_is : (found : Option Way) (ways : List Way) → victim_if found ways ≡ None → found ≡ None → victim ways ≡ None
stays_is None ways stays none = stays
stays_is (Some there) ways stays none = absurd (none-some there (sym none))

-- it is the first of two
first_of_two : (ways : List Way) (way : Way) → IsSet ways → victim ways ≡ Some way → (next : Way) × (ways ≡ way ∷ next ∷ [])
first_of_two [] way set goes = absurd (none-some way goes)
first_of_two (a ∷ []) way set goes = absurd (none-some way goes)
first_of_two (a ∷ b ∷ []) way set goes = (b, ap (λ (w : Way). w ∷ b ∷ []) (same_Some a way goes))
first_of_two (a ∷ b ∷ c ∷ ways) way set goes = absurd set

few_stay : (ways : List Way) → victim ways ≡ None → length ways < 2
few_stay [] stays = omega arith
few_stay (a ∷ []) stays = omega arith
few_stay (a ∷ b ∷ ways) stays = absurd (none-some a (sym stays))

second_left : (way next : Way) → way.place ≢ next.place → without way.place (way ∷ next ∷ []) ≡ next ∷ []
second_left way next apart = grind (arith, nat_tests)

some_way : (found : Option Way) → IsSome found → (way : Way) × (found ≡ Some way)
some_way None there = absurd (true≢false (sym there))
some_way (Some way) there = (way, refl)

module _ (count : ℕ) (sets : List (List Way)) (is : IsCache count sets) where
  with_is : (place : ℕ) (ways : List Way) → with_set sets place ways ≡ set sets (place % count) ways
  with_is place ways = ap (λ (n : ℕ). set sets (place % n) ways) is.counted

  set_is : (place : ℕ) → set_at sets place ≡ get_or sets (place % count) []
  set_is place = ap (λ (n : ℕ). get_or sets (place % n) []) is.counted

  was : (place : ℕ) → set_at sets place ≡ get_or sets (place % count) (set_at sets place)
  was place =
      let below : place % count < length sets = subst (λ (n : ℕ). place % count < n) (sym is.counted) (omega (arith, is.some)) in
      set_is place ∙ sym (get_or_default sets (place % count) (set_at sets place) [] below)

  -- the ways that were put in a set are those of each place of it
  pub set_with : (place other : ℕ) (ways : List Way) → other % count ≡ place % count → set_at (with_set sets place ways) other ≡ ways
  set_with place other ways same = ap (λ (s : List (List Way)). set_at s other) (with_is place ways) ∙ set_here count sets place other ways is same

  -- and any other set is as before
  pub set_beside : (place other : ℕ) (ways : List Way) → other % count ≢ place % count → set_at (with_set sets place ways) other ≡ set_at sets other
  set_beside place other ways apart = ap (λ (s : List (List Way)). set_at s other) (with_is place ways) ∙ set_apart count sets place other ways is apart

  -- ---- a way comes, or takes the place of its place's

  module _ (way : Way) where
    pub cache_put : Fits way.place (set_at sets way.place) → IsCache count (with_set sets way.place (with_latest way (set_at sets way.place)))
    cache_put fits = subst (λ (s : List (List Way)). IsCache count s) (sym (with_is way.place (with_latest way (set_at sets way.place))))
        (cache_latest count sets way.place is (set_at sets way.place) (was way.place) (with_latest way (set_at sets way.place)) way refl refl fits)

    pub way_put : way_at (with_set sets way.place (with_latest way (set_at sets way.place))) way.place ≡ Some way
    way_put = ap (λ (s : List (List Way)). way_at s way.place) (with_is way.place (with_latest way (set_at sets way.place)))
        ∙ way_latest count sets way.place is (set_at sets way.place) (was way.place) (with_latest way (set_at sets way.place)) way refl refl

    pub same_put : (other : ℕ) → other ≢ way.place → way_at (with_set sets way.place (with_latest way (set_at sets way.place))) other ≡ way_at sets other
    same_put other apart = ap (λ (s : List (List Way)). way_at s other) (with_is way.place (with_latest way (set_at sets way.place)))
        ∙ same_latest count sets way.place is (set_at sets way.place) (was way.place) (with_latest way (set_at sets way.place)) way refl refl other apart

    pub latest_put : IsLatest (with_set sets way.place (with_latest way (set_at sets way.place))) way.place
    latest_put = ap (λ (s : List (List Way)). latest_place (set_at s way.place)) (with_is way.place (with_latest way (set_at sets way.place)))
        ∙ latest_latest count sets way.place is (set_at sets way.place) (was way.place) (with_latest way (set_at sets way.place)) way refl refl

  -- ---- what `with_changed` makes of a place that has a way

  module _ (place : ℕ) (copy : List ℕ) where
    -- it has these bytes, and is marked
    pub changed_marked : way_at (with_changed sets place copy) place ≡ Some (record { place = place; changed = true; copy = copy })
    changed_marked = way_put (record { place = place; changed = true; copy = copy })

    pub changed_same : (other : ℕ) → other ≢ place → way_at (with_changed sets place copy) other ≡ way_at sets other
    changed_same = same_put (record { place = place; changed = true; copy = copy })

    pub changed_latest : IsLatest (with_changed sets place copy) place
    changed_latest = latest_put (record { place = place; changed = true; copy = copy })

    pub changed_cache : IsSome (way_at sets place) → IsCache count (with_changed sets place copy)
    changed_cache there = cache_put (record { place = place; changed = true; copy = copy }) (inr there)

    pub changed_beside : (other : ℕ) → other % count ≢ place % count → set_at (with_changed sets place copy) other ≡ set_at sets other
    changed_beside other = set_beside place other (with_latest (record { place = place; changed = true; copy = copy }) (set_at sets place))

  -- ---- a way that goes

  module _ (place : ℕ) where
    cache_gone : IsCache count (with_set sets place (without place (set_at sets place)))
    cache_gone = subst (λ (s : List (List Way)). IsCache count s) (sym (with_is place (without place (set_at sets place))))
        (cache_without count sets place is (set_at sets place) (was place) (without place (set_at sets place)) refl)

    gone : way_at (with_set sets place (without place (set_at sets place))) place ≡ None
    gone = ap (λ (s : List (List Way)). way_at s place) (with_is place (without place (set_at sets place)))
        ∙ none_left count sets place is (set_at sets place) (was place) (without place (set_at sets place)) refl

    none_still : (other : ℕ) → way_at sets other ≡ None → way_at (with_set sets place (without place (set_at sets place))) other ≡ None
    none_still other none = ap (λ (s : List (List Way)). way_at s other) (with_is place (without place (set_at sets place)))
        ∙ none_stays count sets place is (set_at sets place) (was place) (without place (set_at sets place)) refl other none

    same_gone : (other : ℕ) → other ≢ place → way_at (with_set sets place (without place (set_at sets place))) other ≡ way_at sets other
    same_gone other apart = ap (λ (s : List (List Way)). way_at s other) (with_is place (without place (set_at sets place)))
        ∙ same_left count sets place is (set_at sets place) (was place) (without place (set_at sets place)) refl other apart

    room_gone : IsSome (way_at sets place) → (other : ℕ) → other % count ≡ place % count → HasRoom (set_at (with_set sets place (without place (set_at sets place))) other)
    room_gone there other beside = subst (λ (s : List (List Way)). HasRoom (set_at s other)) (sym (with_is place (without place (set_at sets place))))
        (room_left count sets place is (set_at sets place) (was place) (without place (set_at sets place)) refl there other beside)

    -- ---- a way that is used

    cache_used : IsCache count (with_set sets place (touched place (set_at sets place)))
    cache_used = subst (λ (s : List (List Way)). IsCache count s) (sym (with_is place (touched place (set_at sets place))))
        (cache_touched count sets place is (set_at sets place) (was place) (touched place (set_at sets place)) refl)

    same_used : (other : ℕ) → way_at (with_set sets place (touched place (set_at sets place))) other ≡ way_at sets other
    same_used other = ap (λ (s : List (List Way)). way_at s other) (with_is place (touched place (set_at sets place)))
        ∙ same_touched count sets place is (set_at sets place) (was place) (touched place (set_at sets place)) refl other

    latest_used : IsSome (way_at sets place) → IsLatest (with_set sets place (touched place (set_at sets place))) place
    latest_used there = ap (λ (s : List (List Way)). latest_place (set_at s place)) (with_is place (touched place (set_at sets place)))
        ∙ touched_latest count sets place is (set_at sets place) (was place) (touched place (set_at sets place)) refl there

  -- ---- the way that goes out for a place

  module _ (place : ℕ) where
    -- the place has no way, the way is in the place's set, and is the least recently used one of two
    pub goes_for_none : (way : Way) → victim_for sets place ≡ Some way → way_at sets place ≡ None
    goes_for_none way goes = (goes_is (way_at sets place) (set_at sets place) way goes).0

    goes_as : (way : Way) → victim_for sets place ≡ Some way → victim (set_at sets place) ≡ Some way
    goes_as way goes = (goes_is (way_at sets place) (set_at sets place) way goes).1

    pub goes_beside : (way : Way) → victim_for sets place ≡ Some way → way.place % count ≡ place % count
    goes_beside way goes = victim_right count sets place is (set_at sets place) (was place) way (goes_as way goes)

    pub goes_there : (way : Way) → victim_for sets place ≡ Some way → way_at sets way.place ≡ Some way
    goes_there way goes = victim_at count sets place is (set_at sets place) (was place) (Some way) (sym (goes_as way goes))

    pub goes_of_two : (way : Way) → victim_for sets place ≡ Some way → (next : Way) × (set_at sets place ≡ way ∷ next ∷ [])
    goes_of_two way goes =
        first_of_two (set_at sets place) way (subst IsSet (sym (set_is place)) (ways_at count sets place is).set) (goes_as way goes)

    goes_apart : (way : Way) → victim_for sets place ≡ Some way → place ≢ way.place
    goes_apart way goes same = none-some way (sym (goes_for_none way goes) ∙ (ap (way_at sets) same ∙ goes_there way goes))

    -- ---- what `with_room` leaves

    pub room_cache : IsCache count (with_room sets place)
    room_cache = elim (victim_for sets place) as (λ found. IsCache count (room_if found sets)) [ None ↦ is | Some way ↦ cache_gone way.place ]

    -- a place that has no way gets none
    pub room_none : (other : ℕ) → way_at sets other ≡ None → way_at (with_room sets place) other ≡ None
    room_none other none = elim (victim_for sets place) as (λ found. way_at (room_if found sets) other ≡ None) [ None ↦ none | Some way ↦ none_still way.place other none ]

    -- the one that goes out is gone
    pub room_goes : (way : Way) → victim_for sets place ≡ Some way → way_at (with_room sets place) way.place ≡ None
    room_goes way goes = ap (λ (found : Option Way). way_at (room_if found sets) way.place) goes ∙ gone way.place

    room_same_if : (found : Option Way) (other : ℕ) → option_map place_of found ≢ Some other → way_at (room_if found sets) other ≡ way_at sets other
    room_same_if None other stays = refl
    room_same_if (Some way) other stays = same_gone way.place other (λ same. stays (ap Some (sym same)))

    -- and each other stays
    pub room_same : (other : ℕ) → option_map place_of (victim_for sets place) ≢ Some other → way_at (with_room sets place) other ≡ way_at sets other
    room_same other stays = room_same_if (victim_for sets place) other stays

    room_has_if : (found : Option Way) → victim_for sets place ≡ found → way_at sets place ≡ None → HasRoom (set_at (room_if found sets) place)
    room_has_if None stays none = few_stay (set_at sets place) (stays_is (way_at sets place) (set_at sets place) stays none)
    room_has_if (Some way) goes none = room_gone way.place (subst IsSome (sym (goes_there way goes)) refl) place (sym (goes_beside way goes))

    -- a place without a way has room then
    pub room_has : way_at sets place ≡ None → HasRoom (set_at (with_room sets place) place)
    room_has none = room_has_if (victim_for sets place) refl none

    room_beside_if : (found : Option Way) → victim_for sets place ≡ found → (other : ℕ) → other % count ≢ place % count → set_at (room_if found sets) other ≡ set_at sets other
    room_beside_if None stays other apart = refl
    room_beside_if (Some way) goes other apart =
        set_beside way.place other (without way.place (set_at sets way.place)) (λ same. apart (same ∙ goes_beside way goes))

    -- other sets are as before
    pub room_beside : (other : ℕ) → other % count ≢ place % count → set_at (with_room sets place) other ≡ set_at sets other
    room_beside other apart = room_beside_if (victim_for sets place) refl other apart

-- ---- a place that is brought in

module _ (count : ℕ) (sets : List (List Way)) (is : IsCache count sets) (place : ℕ) (copy : List ℕ) where
  module _ (there : IsSome (way_at sets place)) where
    used_is : brought sets place copy ≡ with_set sets place (touched place (set_at sets place))
    used_is = sym (brought_held sets place copy there)

    -- where it has a way, each way stays
    pub brought_stays : (other : ℕ) → way_at (brought sets place copy) other ≡ way_at sets other
    brought_stays other = ap (λ (s : List (List Way)). way_at s other) used_is ∙ same_used count sets is place other

  module _ (none : way_at sets place ≡ None) where
    new_is : brought sets place copy ≡ with_new (with_room sets place) place copy
    new_is = sym (brought_missed sets place copy none)

    -- where it has none, one comes with these bytes, and is not changed
    pub brought_new : way_at (brought sets place copy) place ≡ Some (record { place = place; changed = false; copy = copy })
    brought_new = ap (λ (s : List (List Way)). way_at s place) new_is
        ∙ way_put count (with_room sets place) (room_cache count sets is place) (record { place = place; changed = false; copy = copy })

    new_others : (other : ℕ) → other ≢ place → way_at (brought sets place copy) other ≡ way_at (with_room sets place) other
    new_others other apart = ap (λ (s : List (List Way)). way_at s other) new_is
        ∙ same_put count (with_room sets place) (room_cache count sets is place) (record { place = place; changed = false; copy = copy }) other apart

  pub brought_cache : IsCache count (brought sets place copy)
  brought_cache = elim (some_or_none (way_at sets place)) [
    | inl there ↦ subst (λ (s : List (List Way)). IsCache count s) (sym (used_is there)) (cache_used count sets is place)
    | inr none ↦ subst (λ (s : List (List Way)). IsCache count s) (sym (new_is none))
        (cache_put count (with_room sets place) (room_cache count sets is place) (record { place = place; changed = false; copy = copy })
        (inl (room_has count sets is place none)))
  ]

  -- it is the most recently used one of its set
  pub brought_latest : IsLatest (brought sets place copy) place
  brought_latest = elim (some_or_none (way_at sets place)) [
    | inl there ↦ subst (λ (s : List (List Way)). IsLatest s place) (sym (used_is there)) (latest_used count sets is place there)
    | inr none ↦ subst (λ (s : List (List Way)). IsLatest s place) (sym (new_is none))
        (latest_put count (with_room sets place) (room_cache count sets is place) (record { place = place; changed = false; copy = copy }))
  ]

  -- the one that goes out for it is gone
  pub brought_goes : (way : Way) → victim_for sets place ≡ Some way → way_at (brought sets place copy) way.place ≡ None
  brought_goes way goes =
      let none = goes_for_none count sets is place way goes in
      new_others none way.place (λ same. goes_apart count sets is place way goes (sym same)) ∙ room_goes count sets is place way goes

  -- and each other stays
  pub brought_same : (other : ℕ) → other ≢ place → option_map place_of (victim_for sets place) ≢ Some other → way_at (brought sets place copy) other ≡ way_at sets other
  brought_same other apart stays = elim (some_or_none (way_at sets place)) [
    | inl there ↦ brought_stays there other
    | inr none ↦ new_others none other apart ∙ room_same count sets is place other stays
  ]

  -- Other sets are as before.
  pub brought_beside : (other : ℕ) → other % count ≢ place % count → set_at (brought sets place copy) other ≡ set_at sets other
  brought_beside other apart = elim (some_or_none (way_at sets place)) [
    | inl there ↦ ap (λ (s : List (List Way)). set_at s other) (used_is there) ∙ set_beside count sets is place other (touched place (set_at sets place)) apart
    | inr none ↦ ap (λ (s : List (List Way)). set_at s other) (new_is none)
        ∙ set_beside count (with_room sets place) (room_cache count sets is place) place other
        (with_latest (record { place = place; changed = false; copy = copy }) (set_at (with_room sets place) place)) apart
        ∙ room_beside count sets is place other apart
  ]

  -- No way is marked that was not.
  pub brought_unmarked : (way : Way) → way_at (brought sets place copy) place ≡ Some way → way.changed ≡ true → way_at sets place ≡ Some way
  brought_unmarked way found marked = elim (some_or_none (way_at sets place)) [
    | inl there ↦ sym (brought_stays there place) ∙ found
    | inr none ↦
        let same = same_Some (record { place = place; changed = false; copy = copy }) way (sym (brought_new none) ∙ found) in
        absurd (true≢false (sym (ap (λ (w : Way). w.changed) same ∙ marked)))
  ]

  -- its copy has these bytes, if one that it had before had them
  pub brought_copy : ((held : List ℕ) → copy_at sets place ≡ Some held → copy ≡ held) → copy_at (brought sets place copy) place ≡ Some copy
  brought_copy as_held = elim (some_or_none (way_at sets place)) [
    | inl there ↦
        let way = some_way (way_at sets place) there in
        let held : copy_at sets place ≡ Some way.0.copy = ap (option_map (λ (w : Way). w.copy)) way.1 in
        ap (option_map (λ (w : Way). w.copy)) (brought_stays there place) ∙ (held ∙ ap Some (sym (as_held way.0.copy held)))
    | inr none ↦ ap (option_map (λ (w : Way). w.copy)) (brought_new none)
  ]

  -- in a full set the other way stays before it
  pub brought_behind : (way : Way) → victim_for sets place ≡ Some way →
      (next : Way) × (set_at sets place ≡ way ∷ next ∷ []) × (set_at (brought sets place copy) place ≡ next ∷ record { place = place; changed = false; copy = copy } ∷ [])
  brought_behind way goes =
      let none = goes_for_none count sets is place way goes in
      let two = goes_of_two count sets is place way goes in
      let beside = goes_beside count sets is place way goes in
      let here : set_at sets way.place ≡ way ∷ two.0 ∷ [] =
      set_is count sets is way.place ∙ (ap (λ (i : ℕ). get_or sets i []) beside ∙ (sym (set_is count sets is place) ∙ two.1)) in
      let pair : IsSet (way ∷ two.0 ∷ []) = subst IsSet (sym (set_is count sets is place) ∙ two.1) (ways_at count sets place is).set in
      let room : set_at (with_room sets place) place ≡ two.0 ∷ [] =
      ap (λ (found : Option Way). set_at (room_if found sets) place) goes
      ∙ (set_with count sets is way.place place (without way.place (set_at sets way.place)) (sym beside)
      ∙ (ap (without way.place) here ∙ second_left way two.0 pair)) in
      let apart : without place (two.0 ∷ []) ≡ two.0 ∷ [] =
      without_absent place (two.0 ∷ []) (ap (way_of place) (sym room) ∙ room_none count sets is place place none) in (
        two.0,
        two.1,
        ap (λ (s : List (List Way)). set_at s place) (new_is none)
            ∙ (set_with count (with_room sets place) (room_cache count sets is place) place place
            (with_latest (record { place = place; changed = false; copy = copy }) (set_at (with_room sets place) place)) refl
            ∙ (ap (λ (ways : List Way). with_latest (record { place = place; changed = false; copy = copy }) ways) room
            ∙ ap (λ (ways : List Way). ways ++ record { place = place; changed = false; copy = copy } ∷ []) apart)),
      )
