use Rattle.std.proofs.Common.{◌≡◌, drop}
use Rattle.bus_trace.specs.Entry.{accesses_of}
use Rattle.bus_trace.specs.FirstFalse.{first_false, first_false_behind}
use Rattle.bus_trace.specs.LastWrites.{last_write}
use Rattle.bus_trace.proofs.falsity.first_false.Given as goal

-- none so far was false, so the first one is the first of those that are left
abbrev pub invariant-loop-entry : goal.invariant-loop-entry
invariant-loop-entry l = record {
  count : l.count ≡ l.entry-index;
  rest : first_false_behind l.count (last_write l.writes) (accesses_of (drop l.entry-index l.entries)) ≡ first_false l.entries;
}
