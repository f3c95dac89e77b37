-- The sets of a cache, by place.
use Rattle.std.proofs.Common.{◌≡◌, ◌≢◌, ◌⊎◌, inl, inr, ℕ, ◌+◌, ◌*◌, ◌^◌, ◌<◌, ◌≤◌, ◌%◌, zero, suc, List, [], ◌∷◌, length, replicate, get_or, map, take, length-append, None, sym, ◌∙◌, ap, subst, arith}
use Rattle.std.specs.List.{All, AllByRecursion}
use Rattle.std.proofs.Math.ListN.{set}
use Rattle.std.proofs.lemmas.List.{append-nil, get_or-replicate, get_or-set_other, get_or-set_same, length-map, length-replicate, length-set, take_more}
use Rattle.std.proofs.lemmas.List.Elements.{All-from_recursion}
use Rattle.std.proofs.lemmas.List.Concat.{flat_map-append}
use Rattle.cache_set.specs.declared.way.Way.{Way}
use Rattle.cache_set.specs.CacheSet.{IsSet, way_of}
use Rattle.cache_set.specs.Cache.{AreSets, AreWays, IsCache, new_cache, place_of, places, set_at, way_at}

set_in : (count base : ℕ) (sets : List (List Way)) (index : ℕ) → AreSets count base sets → index < length sets → AreWays count (base + index) (get_or sets index [])
set_in count base [] index h l = absurd (omega (arith, l))
set_in count base (ways ∷ sets) zero h l = subst (λ i. AreWays count i ways) (omega arith) h.0
set_in count base (ways ∷ sets) (suc index) h l =
    subst (λ i. AreWays count i (get_or sets index [])) (omega arith) (set_in count (base + 1) sets index h.1 (omega arith))

sets_with : (count base : ℕ) (sets : List (List Way)) (index : ℕ) (ways : List Way) → AreSets count base sets → AreWays count (base + index) ways → AreSets count base (set sets index ways)
sets_with count base [] index ways h are = tt
sets_with count base (old ∷ sets) zero ways h are = (subst (λ i. AreWays count i ways) (omega arith) are, h.1)
sets_with count base (old ∷ sets) (suc index) ways h are =
    (h.0, sets_with count (base + 1) sets index ways h.1 (subst (λ i. AreWays count i ways) (omega arith) are))

-- the set of a place is right
pub ways_at : (count : ℕ) (sets : List (List Way)) (place : ℕ) → IsCache count sets → AreWays count (place % count) (get_or sets (place % count) [])
ways_at count sets place is =
    let below : place % count < count = omega (arith, is.some) in
    subst (λ i. AreWays count i (get_or sets (place % count) [])) (omega arith) (set_in count 0 sets (place % count) is.sets_are (subst (λ n. place % count < n) (sym is.counted) below))

-- other ways of the set of a place leave a cache
pub cache_with : (count : ℕ) (sets : List (List Way)) (place : ℕ) (ways : List Way) → IsCache count sets → AreWays count (place % count) ways → IsCache count (set sets (place % count) ways)
cache_with count sets place ways is are = record {
  counted = length-set sets (place % count) ways ∙ is.counted;
  some = is.some;
  few = is.few;
  sets_are = sets_with count 0 sets (place % count) ways is.sets_are (subst (λ i. AreWays count i ways) (omega arith) are);
}

-- the set of a place is the one that was put there
pub set_here : (count : ℕ) (sets : List (List Way)) (place other : ℕ) (ways : List Way) → IsCache count sets → other % count ≡ place % count → set_at (set sets (place % count) ways) other ≡ ways
set_here count sets place other ways is e =
    let n : length (set sets (place % count) ways) ≡ count = length-set sets (place % count) ways ∙ is.counted in
    let below : place % count < length sets = subst (λ m. place % count < m) (sym is.counted) (omega (arith, is.some)) in
    ap (λ m. get_or (set sets (place % count) ways) (other % m) []) n ∙ (ap (λ i. get_or (set sets (place % count) ways) i []) e ∙ get_or-set_same sets (place % count) ways [] below)

-- any other is as before
pub set_apart : (count : ℕ) (sets : List (List Way)) (place other : ℕ) (ways : List Way) → IsCache count sets → other % count ≢ place % count → set_at (set sets (place % count) ways) other ≡ set_at sets other
set_apart count sets place other ways is d =
    let n : length (set sets (place % count) ways) ≡ count = length-set sets (place % count) ways ∙ is.counted in
    ap (λ m. get_or (set sets (place % count) ways) (other % m) []) n ∙ (get_or-set_other sets (place % count) (other % count) ways [] d ∙ ap (λ m. get_or sets (other % m) []) (sym is.counted))

pub same_or_not : (a b : ℕ) → (a ≡ b) ⊎ (a ≢ b)
same_or_not a b = grind arith

-- where a set has the way of a place as before, the cache has
pub way_beside : (count : ℕ) (sets : List (List Way)) (place other : ℕ) (ways : List Way) → IsCache count sets → way_of other ways ≡ way_of other (get_or sets (place % count) []) → way_at (set sets (place % count) ways) other ≡ way_at sets other
way_beside count sets place other ways is same = elim (same_or_not (other % count) (place % count)) [
  | inl e ↦ ap (way_of other) (set_here count sets place other ways is e) ∙ (same ∙ ap (λ i. way_of other (get_or sets i [])) (sym e) ∙ ap (λ m. way_of other (get_or sets (other % m) [])) (sym is.counted))
  | inr d ↦ ap (way_of other) (set_apart count sets place other ways is d)
]

empty_in : (count base n : ℕ) → AreSets count base (replicate n [])
empty_in count base zero = tt
empty_in count base (suc n) = (record { set = tt; right = tt }, empty_in count (base + 1) n)

-- empty sets are a cache
pub cache_new : (count : ℕ) → 0 < count → 2 * count < 2 ^ 32 → IsCache count (new_cache count)
cache_new count some few = record { counted = length-replicate count []; some = some; few = few; sets_are = empty_in count 0 count }

-- in which no place has a way
pub none_new : (count place : ℕ) → 0 < count → way_at (new_cache count) place ≡ None
none_new count place some =
    let ways : List Way = [] in
    let below : place % length (new_cache count) < count = subst (λ n. place % n < count) (sym (length-replicate count ways)) (omega (arith, some)) in
    ap (way_of place) (get_or-replicate count (place % length (new_cache count)) ways ways below)

two_in : (ways : List Way) → IsSet ways → length ways ≤ 2
two_in [] h = omega arith
two_in (a ∷ []) h = omega arith
two_in (a ∷ b ∷ []) h = omega arith
two_in (a ∷ b ∷ c ∷ ways) h = absurd h

two_each : (count base : ℕ) (sets : List (List Way)) → AreSets count base sets → AllByRecursion (λ ways. length ways ≤ 2) sets
two_each count base [] h = tt
two_each count base (ways ∷ sets) h = (two_in ways h.0.set, two_each count (base + 1) sets h.1)

-- no set has more than two ways
pub two_ways : (count : ℕ) (sets : List (List Way)) → IsCache count sets → All (λ ways. length ways ≤ 2) sets
two_ways count sets is = All-from_recursion (λ ways. length ways ≤ 2) sets (two_each count 0 sets is.sets_are)

-- and a cache has two copies a set at most
pub few_in : (count base : ℕ) (sets : List (List Way)) → AreSets count base sets → length (places sets) ≤ 2 * length sets
few_in count base [] are = omega arith
few_in count base (ways ∷ sets) are =
    omega (
      arith,
      length-append (map place_of ways) (places sets),
      length-map ways place_of,
      two_in ways are.0.set,
      few_in count (base + 1) sets are.1,
    )

-- one set more has its own ways more
pub places_more : (sets : List (List Way)) (index : ℕ) (ways : List Way) → index < length sets → ways ≡ get_or sets index ways → length (places (take (index + 1) sets)) ≡ length (places (take index sets)) + length ways
places_more sets index ways l e =
    ap (λ xs. length (places xs)) (take_more sets index ways l)
    ∙ (ap length (flat_map-append (map place_of) (take index sets) (get_or sets index ways ∷ []))
    ∙ (length-append (places (take index sets)) (places (get_or sets index ways ∷ []))
    ∙ ap (λ n. length (places (take index sets)) + n) (ap length (append-nil (map place_of (get_or sets index ways))) ∙ (length-map (get_or sets index ways) place_of ∙ ap length (sym e)))))
