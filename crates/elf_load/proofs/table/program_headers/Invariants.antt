use Rattle.std.proofs.Common.{◌≡◌}
use Rattle.elf_load.specs.Format.{headers_from}
use Rattle.elf_load.proofs.table.program_headers.Given as goal

abbrev pub invariant-loop-index : goal.invariant-loop-index
invariant-loop-index l = l.headers.items ≡ headers_from l.file l.table l.index
