use Rattle.std.proofs.Common.{◌≡◌, ◌+◌, ◌-◌, ◌≤◌, ℕ, List, None}
use Rattle.sec_base.specs.Ram.{GoesOn, IsReliable}
use Rattle.rv32_core.specs.Printing.{Prints}
use Rattle.rv32_core.specs.State.{memory_bytes}
use Rattle.rv32_core.specs.TouchedLines.{byte_lines}
use Rattle.rv32_core.proofs.print.print.Given as goal

abbrev pub invariant-loop-at : goal.invariant-loop-at
invariant-loop-at g l =
    let ram = g.M.Ram in
    record {
      printed : (printed : List ℕ) × Prints (g.S.Sink.state l.initial.out) l.initial.calls.taken printed (g.S.Sink.state l.out) l.calls.taken
          × (IsReliable ram.stopped ram.sound l.initial.ram l.ram → printed ≡ memory_bytes (ram.contents l.initial.ram) l.from (l.at - l.from));
      contents : IsReliable ram.stopped ram.sound l.initial.ram l.ram → ram.contents l.ram ≡ ram.contents l.initial.ram;
      services : l.calls.services ≡ l.initial.calls.services;
      begun : l.from ≤ l.at;
      inside : l.at ≤ l.end;
      ended : l.end ≡ l.from + l.count;
      stopped : ram.stopped l.initial.ram ≡ None → ram.stopped l.ram ≡ None;
      faults : (g.S.Sink.state l.initial.out).faults ≤ (g.S.Sink.state l.out).faults;
      quiet : (g.S.Sink.state l.out).faults ≡ (g.S.Sink.state l.initial.out).faults;
      moved : GoesOn ram.extent ram.sound ram.moved (λ lines. lines ≡ byte_lines l.from (l.at - l.from)) l.initial.ram l.ram;
    }

abbrev pub decreases-loop-at : goal.decreases-loop-at
decreases-loop-at g l = l.end - l.at
