use Rattle.std.proofs.Common.{◌<◌, length, sym, ◌∙◌, arith, rules}
use Rattle.turn_order.specs.Side.{goes_on}
use Rattle.turn_order.proofs.Rounds.{from_start, same_length, entry_there, passes_over, passed_on, has_turn, has_turn_left}
use Rattle.turn_order.proofs.turn_order.TurnOrder.next_side.Goals as goal

pub loop-init : goal.loop-init
loop-init c =
    (rw (sym c.self.view_is) (same_length c.self.inside.order.now c.self.inside.at c.self.invariant), sym (from_start c.args.self.now), omega arith)

pub returns-then-goes_on-clause-side : goal.returns-then-goes_on-clause-side
returns-then-goes_on-clause-side c =
    let round = c.args.self.now in
    let inside : c.loop.counter < length round = omega (arith, c.loop-test.true, c.loop.invariant.0) in
    let is = entry_there round c.loop.self c.loop.counter c.pass-side.result c.loop.invariant.1 inside c.pass-side.ensures.entry in
    (has_turn c.args.ended0 c.args.ended1 round c.loop.counter c.pass-side.result is inside c.loop.invariant.2 (search rules)).0

pub returns-then-goes_on-clause-round : goal.returns-then-goes_on-clause-round
returns-then-goes_on-clause-round c =
    let round = c.args.self.now in
    let inside : c.loop.counter < length round = omega (arith, c.loop-test.true, c.loop.invariant.0) in
    let is = entry_there round c.loop.self c.loop.counter c.pass-side.result c.loop.invariant.1 inside c.pass-side.ensures.entry in
    passed_on round c.loop.self c.pass-side.new.self c.loop.counter c.loop.invariant.1 inside c.pass-side.ensures.begun_anew
    ∙ (has_turn c.args.ended0 c.args.ended1 round c.loop.counter c.pass-side.result is inside c.loop.invariant.2 (search rules)).1

pub loop-preserved : goal.loop-preserved
loop-preserved c =
    let round = c.args.self.now in
    let inside : c.loop.counter < length round = omega (arith, c.loop-test.true, c.loop.invariant.0) in
    let is = entry_there round c.loop.self c.loop.counter c.pass-side.result c.loop.invariant.1 inside c.pass-side.ensures.entry in (
      c.loop.invariant.0,
      passed_on round c.loop.self c.pass-side.new.self c.loop.counter c.loop.invariant.1 inside c.pass-side.ensures.begun_anew,
      passes_over (goes_on c.args.ended0 c.args.ended1) round c.loop.counter c.pass-side.result is inside c.loop.invariant.2 (search rules),
    )

pub returns-clause-side : goal.returns-clause-side
returns-clause-side c =
    c.side_left.ensures
    ∙ (has_turn_left c.args.ended0 c.args.ended1 c.args.self.now c.loop.counter (omega (arith, c.loop-test.false, c.loop.invariant.0)) c.loop.invariant.2).0

pub returns-clause-round : goal.returns-clause-round
returns-clause-round c =
    c.loop.invariant.1
    ∙ (has_turn_left c.args.ended0 c.args.ended1 c.args.self.now c.loop.counter (omega (arith, c.loop-test.false, c.loop.invariant.0)) c.loop.invariant.2).1
