use Rattle.std.proofs.Common.{◌≤◌, ◌-◌}
use Rattle.rv32_run.specs.Progress.{PrintsAndGoes, semantics_of}
use Rattle.rv32_run.proofs.execution.Execution.advance.Given as goal

abbrev pub invariant-loop-retired : goal.invariant-loop-retired
invariant-loop-retired g l =
    let ram = g.M.Ram in
    let inside = l.self-inside in
    (l.retired ≤ l.fn.until)
    × PrintsAndGoes (semantics_of g.P.Processor.core ram.contents ram.extent ram.sound ram.stopped ram.moved) (g.S.Sink.state l.fn.out) (g.S.Sink.state l.out) l.fn.self
    (record { processor = inside.processor; calls = inside.calls; memory = inside.memory; retired = l.retired; budget = inside.budget })

abbrev pub decreases-loop-retired : goal.decreases-loop-retired
decreases-loop-retired g l = l.fn.until - l.retired
