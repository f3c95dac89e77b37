-- One set of a cache: its ways, the least recently used first.
use Rattle.std.specs.Prelude.{◌≢◌, ◌==◌, Bool, ℕ, ◌<◌, List, [], ◌∷◌, ◌++◌, length, Option, Some, None, not, if◌then◌else◌}
use Rattle.std.specs.List.{filter}
use Rattle.std.specs.Option.{option_map}
use Rattle.cache_set.specs.declared.way.Way.{Way}

-- the way of a place
abbrev pub way_of : ℕ → List Way → Option Way
way_of place [] = None
way_of place (way ∷ ways) = if way.place == place then Some way else way_of place ways

-- The 64 bytes that a set holds of a place, if one of its ways has it.
abbrev pub copy_of : ℕ → List Way → Option (List ℕ)
copy_of place ways = option_map (λ way. way.copy) (way_of place ways)

-- the first two in the other order
abbrev pub exchanged : List Way → List Way
exchanged [] = []
exchanged (way ∷ []) = way ∷ []
exchanged (way ∷ next ∷ ways) = next ∷ way ∷ ways

-- the ways, the least recently used first, of those that may be swapped
abbrev pub in_order : Bool → List Way → List Way
in_order swapped ways = if swapped then exchanged ways else ways

-- the ways of the other places
abbrev pub without : ℕ → List Way → List Way
without place ways = filter (λ way. not (way.place == place)) ways

-- a way is the most recently used one, in place of the one that its place had
abbrev pub with_latest : Way → List Way → List Way
with_latest way ways = without way.place ways ++ way ∷ []

-- the same of a way, where there is one
abbrev pub with_found : Option Way → List Way → List Way
with_found None ways = ways
with_found (Some way) ways = with_latest way ways

-- the way of a place is the most recently used one, if the place has one
abbrev pub touched : ℕ → List Way → List Way
touched place ways = with_found (way_of place ways) ways

-- the way that goes out where another comes: the least recently used one of two
abbrev pub victim : List Way → Option Way
victim [] = None
victim (way ∷ []) = None
victim (way ∷ next ∷ ways) = Some way

-- the place of the most recently used way
abbrev pub latest_place : List Way → Option ℕ
latest_place [] = None
latest_place (way ∷ []) = Some way.place
latest_place (way ∷ next ∷ ways) = latest_place (next ∷ ways)

-- A set of two ways takes another place without an eviction.
abbrev pub HasRoom : List Way → Type 0
HasRoom ways = length ways < 2

-- at most two ways, of places that differ
abbrev pub IsSet : List Way → Type 0
IsSet [] = Unit {0}
IsSet (way ∷ []) = Unit {0}
IsSet (way ∷ next ∷ []) = way.place ≢ next.place
IsSet (way ∷ next ∷ more ∷ ways) = ⊥
