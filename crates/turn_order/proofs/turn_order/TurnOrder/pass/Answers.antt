use Rattle.std.proofs.Common.{◌+◌, ◌<◌, ◌≤◌, length, map, sym, ◌∙◌, arith}
use Rattle.std.proofs.lemmas.List.{length-map}
use Rattle.turn_order.specs.Side.{side_of}
use Rattle.turn_order.proofs.Rounds.{from_start, from_end, first_entry, entry_at, one_on}
use Rattle.turn_order.proofs.turn_order.TurnOrder.pass.Goals as goal

pub returns-then-self-clause-entry : goal.returns-then-self-clause-entry
returns-then-self-clause-entry c =
    let order = c.self.inside.order.now in
    let inside : c.self.inside.at < length (map side_of order) = rw (length-map order side_of) c.self.invariant in
    rw (sym c.self.view_is, c.side_of-side.ensures)
    (first_entry (map side_of order) c.self.inside.at inside ∙ entry_at order c.self.inside.at c.self.invariant)

pub returns-then-self-clause-begun_anew : goal.returns-then-self-clause-begun_anew
returns-then-self-clause-begun_anew c =
    let round = map side_of c.self.inside.order.now in
    let inside : c.self.inside.at < length round = rw (length-map c.self.inside.order.now side_of) c.self.invariant in
    let last : length round ≤ c.self.inside.at + 1 = rw (length-map c.self.inside.order.now side_of) (omega (arith, c.if-self.true)) in
    rw (sym c.self.view_is)
    (from_start round ∙ (sym (from_end round (c.self.inside.at + 1) last) ∙ sym (one_on round c.self.inside.at inside)))

pub returns-else-self-clause-entry : goal.returns-else-self-clause-entry
returns-else-self-clause-entry c =
    let order = c.self.inside.order.now in
    let inside : c.self.inside.at < length (map side_of order) = rw (length-map order side_of) c.self.invariant in
    rw (sym c.self.view_is, c.side_of-side.ensures)
    (first_entry (map side_of order) c.self.inside.at inside ∙ entry_at order c.self.inside.at c.self.invariant)

pub returns-else-self-clause-begun_anew : goal.returns-else-self-clause-begun_anew
returns-else-self-clause-begun_anew c =
    let round = map side_of c.self.inside.order.now in
    let inside : c.self.inside.at < length round = rw (length-map c.self.inside.order.now side_of) c.self.invariant in
    rw (sym c.self.view_is) (sym (one_on round c.self.inside.at inside))
