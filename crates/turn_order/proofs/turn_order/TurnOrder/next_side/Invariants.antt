-- Each entry that was passed is of a side that has ended.
use Rattle.std.proofs.Common.{◌≡◌, ◌≤◌, length}
use Rattle.std.specs.List.{position_or_len}
use Rattle.turn_order.specs.Side.{goes_on}
use Rattle.turn_order.specs.TurnOrder.{round_from}
use Rattle.turn_order.proofs.turn_order.TurnOrder.next_side.Given as goal

abbrev pub invariant-loop : goal.invariant-loop
invariant-loop l =
    let round = l.initial.self in
    (l.end ≡ length round)
    × (l.self ≡ round_from l.counter round)
    × (l.counter ≤ position_or_len (goes_on l.ended0 l.ended1) round)
