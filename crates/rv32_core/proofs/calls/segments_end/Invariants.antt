use Rattle.std.proofs.Common.{◌≡◌, ◌≤◌, take}
use Rattle.sec_base.specs.Opening.{segments_end}
use Rattle.rv32_core.proofs.calls.segments_end.Given as goal

abbrev pub invariant-loop-segment : goal.invariant-loop-segment
invariant-loop-segment l = record {
  so_far : l.end ≡ segments_end (take l.segment-index l.segments);
  inside : l.end ≤ l.size;
}
