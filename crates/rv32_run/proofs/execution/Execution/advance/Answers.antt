use Rattle.std.proofs.Common.{◌<◌, ◌≤◌, Some, refl, sym, ap, subst, arith}
use Rattle.rv32_run.specs.Progress.{Semantics, semantics_of}
use Rattle.rv32_run.specs.ExecutionView.{ExecutionView}
use Rattle.rv32_run.proofs.Progress.{prints_not, prints_on, prints_to_end, turn_ends, turn_goes}
use Rattle.rv32_run.proofs.execution.Execution.advance.Given.{Over}
use Rattle.rv32_run.proofs.execution.Execution.advance.Goals as goal

abbrev means_of : (g : Over) → Semantics g.row.P.Denot g.row.M.Denot
means_of g = let ram = g.M.Ram in semantics_of g.P.Processor.core ram.contents ram.extent ram.sound ram.stopped ram.moved

pub loop-retired-init : goal.loop-retired-init
loop-retired-init g c =
    let from : c.self.inside.retired ≤ c.args.until = subst (λ (now : ExecutionView g.row.P.Denot g.row.M.Denot). now.retired ≤ c.args.until) (sym c.self.view_is) c.requires.begun in (
      from,
      prints_not (means_of g) g.met.M.Ram.unmoved g.met.M.Ram.moved_on (g.S.Sink.state c.args.out.now) c.args.self.now _ c.self.view_is
          (omega (arith, c.requires.begun, c.requires.within)) c.requires.going,
    )

pub loop-retired-preserved : goal.loop-retired-preserved
loop-retired-preserved g c =
    let so_far = c.loop-retired.invariant in
    let turn = c.in_default.ensures in
    let here = c.loop-retired.self-inside in
    let then = c.turn-turned.new in
    let old : ExecutionView g.row.P.Denot g.row.M.Denot =
    record { processor = here.processor; calls = here.calls; memory = here.memory; retired = c.loop-retired.retired; budget = here.budget } in
    let new : ExecutionView g.row.P.Denot g.row.M.Denot =
    record { processor = then.processor; calls = then.calls; memory = then.memory; retired = then.retired; budget = here.budget } in
    let early : old.retired < c.args.until = omega (arith, so_far.0, c.loop-retired-test.true) in
    let below : old.retired < old.budget = omega (arith, early, c.requires.within, so_far.1.goes.budget) in
    let printed = turn.turns.0 in (
      omega (arith, early, turn.retired),
      prints_on (means_of g) g.met.M.Ram.unmoved g.met.M.Ram.moved_on (g.S.Sink.state c.args.out.now) (g.S.Sink.state c.loop-retired.out) (g.S.Sink.state then.out)
          c.args.self.now old new so_far.1 (record {
            printed = printed;
            digest = turn.turns.1.1;
            sink = record { gained = turn.turns.1.0; quiet = turn.quiet (λ is. cc) };
            goes = turn_goes (means_of g) old new refl below printed turn.moved turn.instruction g.met.M.Ram.unmoved turn.turns.2 turn.mem turn.retired;
          }),
    )

pub returns-in-Some-clause-ends : goal.returns-in-Some-clause-ends
returns-in-Some-clause-ends g c =
    let so_far = c.loop-retired.invariant in
    let turn = c.in-Some.ensures in
    let here = c.loop-retired.self-inside in
    let then = c.turn-turned.new in
    let old : ExecutionView g.row.P.Denot g.row.M.Denot =
    record { processor = here.processor; calls = here.calls; memory = here.memory; retired = c.loop-retired.retired; budget = here.budget } in
    let new : ExecutionView g.row.P.Denot g.row.M.Denot =
    record { processor = then.processor; calls = then.calls; memory = then.memory; retired = then.retired; budget = here.budget } in
    let early : old.retired < c.args.until = omega (arith, so_far.0, c.loop-retired-test.true) in
    let below : old.retired < old.budget = omega (arith, early, c.requires.within, so_far.1.goes.budget) in
    let ending = c.in-Some.ending in
    let printed = turn.turns.0 in
    prints_to_end (means_of g) g.met.M.Ram.unmoved g.met.M.Ram.moved_on ending (g.S.Sink.state c.args.out.now) (g.S.Sink.state c.loop-retired.out) (g.S.Sink.state then.out)
    c.args.self.now old new so_far.1 (record {
      printed = printed;
      digest = turn.turns.1.1;
      sink = record {
        gained = turn.turns.1.0;
        faults = turn.faults;
        write_fault = λ is. turn.write_fault (ap (λ e. Some e) is);
        quiet = λ written. turn.quiet (λ is. written cc);
      };
      ended = turn_ends (means_of g) old new refl below printed turn.moved turn.instruction g.met.M.Ram.unmoved ending turn.turns.2 turn.stands
          (λ going sound none. turn.sink_stop going sound (ap (λ e. Some e) none)) turn.mem turn.retired (λ is. turn.within_budget (ap (λ e. Some e) is));
    })

pub returns-in-Some-clause-begun_before : goal.returns-in-Some-clause-begun_before
returns-in-Some-clause-begun_before g c =
    let begun = c.loop-retired.invariant.0 in
    let test = c.loop-retired-test.true in
    (c.loop-retired.retired, omega (arith, begun, test), c.in-Some.ensures.retired)
