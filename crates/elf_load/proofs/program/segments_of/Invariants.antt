use Rattle.std.proofs.Common.{◌≡◌, take, filter, map}
use Rattle.elf_load.specs.Program.{segment_of}
use Rattle.elf_load.specs.Refusals.{is_load}
use Rattle.elf_load.proofs.program.segments_of.Given as goal

abbrev pub invariant-loop-header : goal.invariant-loop-header
invariant-loop-header l = l.segments.items ≡ map (segment_of l.file) (filter is_load (take l.header-index l.headers))
