use Rattle.std.proofs.Common.{◌≡◌, ◌≢◌, ◌<◌, ◌≤◌, Option, Some, ◌++◌, refl, sym, ap, ◌∙◌, subst, arith}
use Rattle.sec_base.specs.declared.ending.Ending.{Ending}
use Rattle.sec_base.specs.declared.ending.Ending.TheVariants.{WriteFault}
use Rattle.rv32_run.specs.Progress.{Semantics, PrintsAndEnds, PrintsAndGoes, semantics_of}
use Rattle.rv32_run.specs.Execution.{CarriesEnding, Turns, retired_after}
use Rattle.rv32_run.specs.ExecutionView.{ExecutionView}
use Rattle.rv32_run.proofs.Progress.{if_some, prints_not, prints_used_up, turn_ends, turn_goes}
use Rattle.rv32_run.proofs.execution.Execution.turn.Given.{Over}
use Rattle.rv32_run.proofs.execution.Execution.turn.Goals as goal

abbrev means_of : (g : Over) → Semantics g.row.P.Denot g.row.M.Denot
means_of g = let ram = g.M.Ram in semantics_of g.P.Processor.core ram.contents ram.extent ram.sound ram.stopped ram.moved

pub returns-then-self-clause-ends : goal.returns-then-self-clause-ends
returns-then-self-clause-ends g c =
    let now = c.args.self.now in
    let out = g.S.Sink.state c.args.out.now in
    let used : now.retired ≡ now.budget = cc in
    prints_used_up (means_of g) g.met.M.Ram.unmoved now now out out
    (prints_not (means_of g) g.met.M.Ram.unmoved g.met.M.Ram.moved_on out now now refl c.requires.within c.requires.going) used

pub returns-clause-goes : goal.returns-clause-goes
returns-clause-goes g c = λ is.
    let turn = c.turn.ensures in
    let then = c.turn.new in
    let here = c.self.inside in
    let old : ExecutionView g.row.P.Denot g.row.M.Denot =
    record { processor = here.processor; calls = here.calls; memory = here.memory; retired = here.retired; budget = here.budget } in
    let new : ExecutionView g.row.P.Denot g.row.M.Denot =
    record { processor = then.processor; calls = then.calls; memory = then.memory; retired = then.retired; budget = old.budget } in
    let within : old.retired ≤ old.budget = subst (λ (now : ExecutionView g.row.P.Denot g.row.M.Denot). now.retired ≤ now.budget) (sym c.self.view_is) c.requires.within in
    let below : old.retired < old.budget = omega (arith, within, c.if-self.false) in
    let fine : c.turn.result ≢ Some WriteFault = λ other. let same = sym is in cc in
    let carries = subst (λ (r : Option Ending). CarriesEnding (g.M.Ram.stopped new.memory) r) is turn.mem in
    let more = subst (λ (r : Option Ending). new.retired ≡ retired_after r old.retired) is turn.retired in
    subst (λ (now : ExecutionView g.row.P.Denot g.row.M.Denot). PrintsAndGoes (means_of g) (g.S.Sink.state c.args.out.now) (g.S.Sink.state then.out) now new) c.self.view_is (record {
      printed = turn.turns.0;
      digest = turn.turns.1.1;
      sink = record { gained = turn.turns.1.0; quiet = turn.quiet fine };
      goes = turn_goes (means_of g) old new refl below turn.turns.0 turn.moved turn.instruction g.met.M.Ram.unmoved
          (λ sound start before reached. subst (λ (r : Option Ending). Turns start old.budget r new.retired (g.P.Processor.core new.processor) new.calls.services (g.M.Ram.contents new.memory) (before ++ turn.turns.0)) is
          (turn.turns.2 sound start before reached)) carries more;
    })

pub returns-clause-ends : goal.returns-clause-ends
returns-clause-ends g c = if_some c.turn.result _ (λ ending is.
    let turn = c.turn.ensures in
    let then = c.turn.new in
    let here = c.self.inside in
    let old : ExecutionView g.row.P.Denot g.row.M.Denot =
    record { processor = here.processor; calls = here.calls; memory = here.memory; retired = here.retired; budget = here.budget } in
    let new : ExecutionView g.row.P.Denot g.row.M.Denot =
    record { processor = then.processor; calls = then.calls; memory = then.memory; retired = then.retired; budget = old.budget } in
    let within : old.retired ≤ old.budget = subst (λ (now : ExecutionView g.row.P.Denot g.row.M.Denot). now.retired ≤ now.budget) (sym c.self.view_is) c.requires.within in
    let below : old.retired < old.budget = omega (arith, within, c.if-self.false) in
    let carries = subst (λ (r : Option Ending). CarriesEnding (g.M.Ram.stopped new.memory) r) is turn.mem in
    let count = subst (λ (r : Option Ending). new.retired ≡ retired_after r old.retired) is turn.retired in
    subst (λ (now : ExecutionView g.row.P.Denot g.row.M.Denot). PrintsAndEnds (means_of g) ending (g.S.Sink.state c.args.out.now) (g.S.Sink.state then.out) now new) c.self.view_is (record {
      printed = turn.turns.0;
      digest = turn.turns.1.1;
      sink = record {
        gained = turn.turns.1.0;
        faults = turn.faults;
        write_fault = λ same. turn.write_fault (is ∙ ap (λ (e : Ending). Some e) same);
        quiet = λ written. turn.quiet (λ other. written (let same = sym is ∙ other in cc));
      };
      ended = turn_ends (means_of g) old new refl below turn.turns.0 turn.moved turn.instruction g.met.M.Ram.unmoved ending
          (λ sound start before reached. subst (λ (r : Option Ending). Turns start old.budget r new.retired (g.P.Processor.core new.processor) new.calls.services (g.M.Ram.contents new.memory) (before ++ turn.turns.0)) is
          (turn.turns.2 sound start before reached))
          turn.stands
          (λ going sound none. turn.sink_stop going sound (is ∙ ap (λ (e : Ending). Some e) none))
          carries count (λ other. turn.within_budget (is ∙ ap (λ (e : Ending). Some e) other));
    }))
