use Rattle.std.proofs.Common.{◌≡◌, ◌++◌, take}
use Rattle.elf_load.specs.Spelling.{joined_bytes}
use Rattle.elf_load.proofs.spelling.put_bytes.Given as goal

abbrev pub invariant-loop-segment : goal.invariant-loop-segment
invariant-loop-segment l = l.file.items ≡ l.initial.file.items ++ joined_bytes (take l.segment-index l.segments)
