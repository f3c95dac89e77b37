use Rattle.std.proofs.Common.{ℕ, subst}
use Rattle.rv32_core.specs.Follows.{IsWhole}
use Rattle.rv32_core.specs.Machine.{opening}
use Rattle.bus_trace.proofs.Endings.{can_be_spent, can_trap}
use Rattle.bus_trace.proofs.judging.can_end.Goals as goal

pub returns-in_ok-next-in-1 : goal.returns-in_ok-next-in-1
returns-in_ok-next-in-1 c =
    can_trap (opening c.args.image.now c.args.input.now) c.args.budget c.args.trace.now c.requires.run.retired_is
    c.in_ok-next-in-1.next.ending c.in_ok-next-in-1.next.retired (subst (λ (count : ℕ). IsWhole (opening c.args.image.now c.args.input.now) count c.in_ok-next-in-1.next.retired c.in_ok-next-in-1.next.ending)
    c.in_ok-count-in-1.ensures c.in_ok-next-in-1.ensures) c.in-1.is c.if-trace-budget.true c.tells-in-1.result c.tells-in-1.ensures

pub returns-in-6 : goal.returns-in-6
returns-in-6 c =
    can_be_spent (opening c.args.image.now c.args.input.now) c.args.budget c.args.trace.now c.args.ending c.requires.run c.in-6.is c.tells-in-6.result c.tells-in-6.ensures
