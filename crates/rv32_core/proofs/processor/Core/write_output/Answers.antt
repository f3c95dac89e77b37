use Rattle.std.proofs.Common.{◌≡◌, false, true, [], length, sym, ◌∙◌, ap}
use Rattle.rv32_core.specs.Services.{is_output, is_inside, a0, a1, a2}
use Rattle.rv32_core.specs.State.{State, state_of}
use Rattle.rv32_core.proofs.Printed.{prints_nothing}
use Rattle.rv32_core.proofs.Serving.{answer_outcome, inside_as, write_elsewhere, write_outside}
use Rattle.rv32_core.proofs.processor.Core.write_output.Goals as goal

pub returns-then-not-names_output-clause-outcome : goal.returns-then-not-names_output-clause-outcome
returns-then-not-names_output-clause-outcome g c = (
  [],
  prints_nothing (g.S.Sink.state c.args.out.now) c.args.calls.now.taken,
  λ reliable.
      let before : State = state_of c.args.self.now c.args.calls.now.services (g.M.Ram.contents c.args.ram.now) in
      let elsewhere : is_output (a0 before) ≡ false = ap is_output (sym c.reg.ensures) ∙ sym c.names_output.ensures ∙ c.if-not-names_output.true in
      answer_outcome _ c.refuse.result before _ 4294967287 c.refuse.ensures.retired c.refuse.ensures.core (write_elsewhere before elsewhere),
)

pub returns-then-not-reaches_inside-clause-outcome : goal.returns-then-not-reaches_inside-clause-outcome
returns-then-not-reaches_inside-clause-outcome g c = (
  [],
  prints_nothing (g.S.Sink.state c.args.out.now) c.args.calls.now.taken,
  λ reliable.
      let before : State = state_of c.args.self.now c.args.calls.now.services (g.M.Ram.contents c.args.ram.now) in
      let output : is_output (a0 before) ≡ true = ap is_output (sym c.reg.ensures) ∙ sym c.names_output.ensures ∙ c.if-not-names_output.false in
      let outside : is_inside (a1 before) (a2 before) (length before.memory) ≡ false =
      inside_as before c.reg-from.result c.reg-count.result c.size.result false c.reg-from.ensures c.reg-count.ensures (c.size.ensures ∙ sym (g.met.M.Ram.sized c.args.ram.now)) (sym c.reaches_inside.ensures ∙ c.if-not-reaches_inside.true) in
      answer_outcome _ c.refuse-then-not-reaches_inside.result before _ 4294967282 c.refuse-then-not-reaches_inside.ensures.retired c.refuse-then-not-reaches_inside.ensures.core (write_outside before output outside),
)
