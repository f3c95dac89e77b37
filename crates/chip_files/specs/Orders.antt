-- The order of turns that a file is: each file is one, or is refused for just one reason.
use Rattle.std.specs.Prelude.{ℕ, List, Option, option_map}
use Rattle.turn_order.specs.OrderError.{wrong_place}
use Rattle.chip_files.specs.declared.refusal.Refusal.{Refusal}
use Rattle.chip_files.specs.declared.refusal.Refusal.TheVariants.{Order}

-- how many bytes of an order are read at most
abbrev pub order_limit : ℕ
order_limit = 1048576

-- what is wrong with these bytes, where they are an order's: the place of the first byte that names no side
abbrev pub order_fault : List ℕ → Option Refusal
order_fault bytes = option_map (λ place. Order (record { place = place })) (wrong_place bytes)
