-- How the way of a place comes into a cache, and which one goes out for it.
use Rattle.std.specs.Prelude.{ℕ, List, true, false, Option, Some, None, if◌then◌else◌}
use Rattle.cache_set.specs.declared.way.Way.{Way}
use Rattle.cache_set.specs.CacheSet.{touched, with_latest, without}
use Rattle.cache_set.specs.Cache.{set_at, victim_for, way_at, with_set}

-- the way, where it was changed
abbrev pub if_changed : Option Way → Option Way
if_changed None = None
if_changed (Some way) = if way.changed then Some way else None

-- the changed way that goes out where a place comes
abbrev pub leaving : List (List Way) → ℕ → Option Way
leaving sets place = if_changed (victim_for sets place)

-- the sets without the way that goes out, if one does
abbrev pub room_if : Option Way → List (List Way) → List (List Way)
room_if None sets = sets
room_if (Some victim) sets = with_set sets victim.place (without victim.place (set_at sets victim.place))

-- the sets once a miss on this place has evicted its victim, if it has one
abbrev pub with_room : List (List Way) → ℕ → List (List Way)
with_room sets place = room_if (victim_for sets place) sets

-- A place gets a way with these bytes: unchanged, and the most recently used one of its set.
abbrev pub with_new : List (List Way) → ℕ → List ℕ → List (List Way)
with_new sets place copy = with_set sets place (with_latest (record { place = place; changed = false; copy = copy }) (set_at sets place))

-- a place is used: by its way, or by one that comes with these bytes
abbrev pub brought_if : Option Way → List (List Way) → ℕ → List ℕ → List (List Way)
brought_if None sets place copy = with_new (with_room sets place) place copy
brought_if (Some way) sets place copy = with_set sets place (touched place (set_at sets place))

-- the sets once this place has a way, the latest of its set; on a miss it comes with these bytes
abbrev pub brought : List (List Way) → ℕ → List ℕ → List (List Way)
brought sets place copy = brought_if (way_at sets place) sets place copy

-- A place's way gets these bytes: changed, and the most recently used one of its set.
abbrev pub with_changed : List (List Way) → ℕ → List ℕ → List (List Way)
with_changed sets place copy = with_set sets place (with_latest (record { place = place; changed = true; copy = copy }) (set_at sets place))
