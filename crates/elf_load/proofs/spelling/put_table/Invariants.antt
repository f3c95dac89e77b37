use Rattle.std.proofs.Common.{◌≡◌, ◌+◌, ◌++◌, drop, length}
use Rattle.elf_load.specs.Spelling.{joined_bytes, spelled_table}
use Rattle.elf_load.proofs.spelling.put_table.Given as goal

-- what is still to be put
abbrev pub invariant-loop-segment : goal.invariant-loop-segment
invariant-loop-segment l = record {
  table : l.file.items ++ spelled_table l.offset (drop l.segment-index l.segments) ≡ l.initial.file.items ++ spelled_table l.initial.offset l.segments;
  bytes : l.offset + length (joined_bytes (drop l.segment-index l.segments)) ≡ l.initial.offset + length (joined_bytes l.segments);
}
