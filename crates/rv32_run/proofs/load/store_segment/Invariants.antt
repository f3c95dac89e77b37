use Rattle.std.proofs.Common.{◌≡◌, ◌≤◌, ◌+◌, ◌-◌, None, take}
use Rattle.sec_base.specs.Ram.{GoesOn}
use Rattle.sec_base.specs.Opening.{segment_memory}
use Rattle.rv32_core.specs.State.{with_bytes}
use Rattle.rv32_run.specs.StoredLines.{front_lines}
use Rattle.rv32_run.proofs.StoredLines.{IsStart}
use Rattle.rv32_run.proofs.load.store_segment.Given as goal

abbrev pub invariant-loop-at : goal.invariant-loop-at
invariant-loop-at g l =
    let ram = g.M.Ram in
    record {
      stored : ram.sound l.ram → ram.contents l.ram ≡ with_bytes (ram.contents l.fn.ram) l.segment.addr (take l.at (segment_memory l.segment));
      within : l.at ≤ l.segment.length;
      going : ram.stopped l.ram ≡ None;
      start : IsStart l.segment (l.segment.addr + l.at);
      moved : GoesOn ram.extent ram.sound ram.moved (λ lines. lines ≡ front_lines l.segment l.at) l.fn.ram l.ram;
    }

abbrev pub decreases-loop-at : goal.decreases-loop-at
decreases-loop-at g l = l.segment.length - l.at
