use Rattle.std.proofs.Common.{◌≡◌, ◌++◌, length, take}
use Rattle.std.specs.List.{flat_map}
use Rattle.bus_trace.specs.Format.{entry_bytes, u64_bytes}
use Rattle.bus_trace.proofs.writing.put_entries.Given as goal

-- the number of all entries, and those so far
abbrev pub invariant-loop-entry : goal.invariant-loop-entry
invariant-loop-entry l = l.file.items ≡ l.fn.file.items ++ (u64_bytes (length l.entries) ++ flat_map entry_bytes (take l.entry-index l.entries))
