-- The two sides of a pair of runs.
use Rattle.std.specs.Prelude.{◌==◌, ℕ, ◌<◌, Bool, not, if◌then◌else◌}
use Rattle.turn_order.specs.declared.side.Side.{Side}
use Rattle.turn_order.specs.declared.side.Side.TheVariants.{First, Second}

-- a byte names a side where it is 0 or 1
abbrev pub NamesSide : ℕ → Type 0
NamesSide byte = byte < 2

-- the side that such a byte names
abbrev pub side_of : ℕ → Side
side_of byte = if byte == 0 then First else Second

-- the number that names a side
abbrev pub side_number : Side → ℕ
side_number First = 0
side_number Second = 1

-- whether a side has not ended
abbrev pub goes_on : Bool → Bool → Side → Bool
goes_on ended0 ended1 First = not ended0
goes_on ended0 ended1 Second = not ended1
