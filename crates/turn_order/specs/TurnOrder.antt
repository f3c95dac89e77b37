-- Whose turn it is in a pair of runs. What follows for a caller stands in proofs/Turns.antt.
use Rattle.std.specs.Prelude.{ℕ, ◌+◌, Bool, true, false, Option, Some, None, List, [], ◌∷◌, ◌++◌, map, take, drop, find, All}
use Rattle.std.specs.List.{position_or_len}
use Rattle.std.specs.Option.{option_or}
use Rattle.turn_order.specs.declared.side.Side.{Side}
use Rattle.turn_order.specs.declared.side.Side.TheVariants.{First, Second}
use Rattle.turn_order.specs.Side.{NamesSide, side_of, goes_on}

-- an order of turns names a side in each byte
abbrev pub IsOrder : List ℕ → Type 0
IsOrder order = All NamesSide order

-- An order is seen as one round of its entries, the next one first. This is the round that it begins with: of an empty
-- order the first side's turn, and then the second's.
abbrev pub first_round : List ℕ → List Side
first_round [] = First ∷ Second ∷ []
first_round (byte ∷ bytes) = map side_of (byte ∷ bytes)

-- a round from one of its places on: what stands before that place comes after the rest
unfoldable pub round_from : ℕ → List Side → List Side
round_from place round = drop place round ++ take place round

-- a side that has not ended, the first one before the second
abbrev pub side_left : Bool → Bool → Option Side
side_left false ended1 = Some First
side_left true false = Some Second
side_left true true = None

-- whose turn it is: that of the first entry whose side has not ended, else of a side that has not
unfoldable pub next_side : Bool → Bool → List Side → Option Side
next_side ended0 ended1 round = option_or (find (goes_on ended0 ended1) round) (side_left ended0 ended1)

-- The round behind that entry: entries before it, whose side has ended, are used up until the order begins anew. Where
-- there is no such entry the round stays.
unfoldable pub round_after : Bool → Bool → List Side → List Side
round_after ended0 ended1 round = round_from (position_or_len (goes_on ended0 ended1) round + 1) round
