use Rattle.std.proofs.Common.{arith, ◌≡◌, ◌≢◌, [], sym, ◌∙◌, subst, List, ℕ}
use Rattle.rv32_core.specs.Services.{a7}
use Rattle.rv32_core.specs.State.{State, state_of}
use Rattle.rv32_core.specs.TouchedLines.{AreTouched}
use Rattle.rv32_core.proofs.Printed.{prints_nothing, prints_nothing_as}
use Rattle.rv32_core.proofs.Serving.{answer_outcome, brk_outcome, exit_outcome, lines_of_write_service, read_outcome, service_of_other}
use Rattle.rv32_core.proofs.TouchedLines.{touched_as}
use Rattle.rv32_core.proofs.processor.Core.serve.Goals as goal

pub returns-in-64-clause-moved : goal.returns-in-64-clause-moved
returns-in-64-clause-moved g c =
    let before : State = state_of c.args.self.now c.args.calls.now.services (g.M.Ram.contents c.args.ram.now) in
    let number : a7 before ≡ 64 = sym c.reg.ensures ∙ c.in-64.is in
    touched_as g.M.Ram.extent g.M.Ram.sound g.M.Ram.moved _ _ c.args.ram.now c.write_output.new.ram
    (λ lines got. subst (λ (all : List ℕ). AreTouched c.write_output.result all lines) (sym (lines_of_write_service before number)) got)
    c.write_output.ensures.moved

pub returns-in_default-clause-outcome : goal.returns-in_default-clause-outcome
returns-in_default-clause-outcome g c = (
  [],
  prints_nothing (g.S.Sink.state c.args.out.now) c.args.calls.now.taken,
  λ reliable.
      let before : State = state_of c.args.self.now c.args.calls.now.services (g.M.Ram.contents c.args.ram.now) in
      let read : a7 before ≢ 63 = omega arith in
      let write : a7 before ≢ 64 = omega arith in
      let exit : a7 before ≢ 93 = omega arith in
      let brk : a7 before ≢ 214 = omega arith in
      answer_outcome _ c.refuse.result before _ 4294967258 c.refuse.ensures.retired c.refuse.ensures.core (service_of_other before read write exit brk),
)

pub returns-in-63-clause-outcome : goal.returns-in-63-clause-outcome
returns-in-63-clause-outcome g c =
    let before : State = state_of c.args.self.now c.args.calls.now.services (g.M.Ram.contents c.args.ram.now) in
    let number : a7 before ≡ 63 = sym c.reg.ensures ∙ c.in-63.is in (
      [],
      prints_nothing_as (g.S.Sink.state c.args.out.now) c.args.calls.now.taken c.read_input.new.calls.taken c.read_input.ensures.taken,
      λ reliable. read_outcome c.read_input.result before _ number (c.read_input.ensures.outcome reliable),
    )

pub returns-in-93-clause-outcome : goal.returns-in-93-clause-outcome
returns-in-93-clause-outcome g c =
    let before : State = state_of c.args.self.now c.args.calls.now.services (g.M.Ram.contents c.args.ram.now) in
    let number : a7 before ≡ 93 = sym c.reg.ensures ∙ c.in-93.is in (
      [],
      prints_nothing (g.S.Sink.state c.args.out.now) c.args.calls.now.taken,
      λ reliable. exit_outcome c.exit.result before c.exit.new.self number c.exit.ensures.halted c.exit.ensures.core,
    )

pub returns-in-214-clause-outcome : goal.returns-in-214-clause-outcome
returns-in-214-clause-outcome g c =
    let before : State = state_of c.args.self.now c.args.calls.now.services (g.M.Ram.contents c.args.ram.now) in
    let number : a7 before ≡ 214 = sym c.reg.ensures ∙ c.in-214.is in (
      [],
      prints_nothing_as (g.S.Sink.state c.args.out.now) c.args.calls.now.taken c.move_break.new.calls.taken c.move_break.ensures.taken,
      λ reliable. brk_outcome c.move_break.result before _ number c.move_break.ensures.outcome,
    )
