use Rattle.std.proofs.Common.{◌≡◌, ◌≤◌, ◌-◌, length, take}
use Rattle.bus_trace.proofs.comparison.common_len.Given as goal

abbrev pub invariant-loop-len : goal.invariant-loop-len
invariant-loop-len l = record {
  first : l.len ≤ length l.first;
  second : l.len ≤ length l.second;
  same : take l.len l.first ≡ take l.len l.second;
}

abbrev pub decreases-loop-len : goal.decreases-loop-len
decreases-loop-len l = length l.first - l.len
