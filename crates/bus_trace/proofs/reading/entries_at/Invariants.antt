use Rattle.std.proofs.Common.{◌≡◌, ◌-◌}
use Rattle.bus_trace.specs.Reading.{entries_at}
use Rattle.bus_trace.proofs.EntryLoop.{with_front}
use Rattle.bus_trace.proofs.reading.entries_at.Given as goal

-- the entries so far, and those that are left, are all of them
abbrev pub invariant-loop : goal.invariant-loop
invariant-loop l = with_front l.entries.items (entries_at l.geometry (l.count - l.counter) l.rest) ≡ entries_at l.geometry l.count l.bytes
