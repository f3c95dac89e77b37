-- A cache of sets: the place of an entry, modulo the number of sets, says which set it is in.
use Rattle.std.specs.Prelude.{◌≡◌, ℕ, ◌+◌, ◌<◌, ◌*◌, ◌%◌, ◌^◌, List, [], ◌∷◌, map, length, replicate, slice_index_or, slice_set, Option, Some, None}
use Rattle.std.specs.List.{AllByRecursion, Contains, flat_map}
use Rattle.cache_set.specs.declared.way.Way.{Way}
use Rattle.cache_set.specs.CacheSet.{IsSet, way_of, copy_of, victim, latest_place}

-- no way in any set
abbrev pub new_cache : ℕ → List (List Way)
new_cache count = replicate count []

-- the set of a place
abbrev pub set_at : List (List Way) → ℕ → List Way
set_at sets place = slice_index_or sets (place % length sets) []

-- the cache with these ways in the set of a place
abbrev pub with_set : List (List Way) → ℕ → List Way → List (List Way)
with_set sets place ways = slice_set sets (place % length sets) ways

-- the way of a place
abbrev pub way_at : List (List Way) → ℕ → Option Way
way_at sets place = way_of place (set_at sets place)

-- The 64 bytes that the cache holds of a place, if it holds a copy.
abbrev pub copy_at : List (List Way) → ℕ → Option (List ℕ)
copy_at sets place = copy_of place (set_at sets place)

-- the way that goes out where a place comes: none where the place has one
abbrev pub victim_if : Option Way → List Way → Option Way
victim_if None ways = victim ways
victim_if (Some way) ways = None

-- The way that is evicted when the place comes in, if its set has no room for it.
abbrev pub victim_for : List (List Way) → ℕ → Option Way
victim_for sets place = victim_if (way_at sets place) (set_at sets place)

-- the way of a place is the most recently used one of its set
abbrev pub IsLatest : List (List Way) → ℕ → Type 0
IsLatest sets place = latest_place (set_at sets place) ≡ Some place

-- The number of the place that a way holds a copy of.
abbrev pub place_of : Way → ℕ
place_of way = way.place

-- the places that have a way
abbrev pub places : List (List Way) → List ℕ
places sets = flat_map (map place_of) sets

-- no place twice
abbrev pub AreApart : List ℕ → Type 0
AreApart [] = Unit {0}
AreApart (place ∷ others) = ¬ (Contains others place) × AreApart others

-- the ways of a set are at most two, of places that differ and are of this set
pub record AreWays (count index : ℕ) (ways : List Way) : Type 0 where
  pub set : IsSet ways
  pub right : AllByRecursion (λ way. way.place % count ≡ index) ways

-- From set `index` on, each of these is a set of a cache of `count` sets.
abbrev pub AreSets : ℕ → ℕ → List (List Way) → Type 0
AreSets count index [] = Unit {0}
AreSets count index (ways ∷ sets) = AreWays count index ways × AreSets count (index + 1) sets

-- each set is right, from the first on
pub record IsCache (count : ℕ) (sets : List (List Way)) : Type 0 where
  pub counted : length sets ≡ count
  pub some : 0 < count
  pub few : 2 * count < 2 ^ 32
  pub sets_are : AreSets count 0 sets
