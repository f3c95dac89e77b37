use Rattle.std.proofs.Common.{◌≡◌, ◌++◌, take}
use Rattle.std.specs.List.{flat_map}
use Rattle.elf_load.specs.Spelling.{u16_bytes}
use Rattle.elf_load.proofs.spelling.put_halves.Given as goal

abbrev pub invariant-loop-half : goal.invariant-loop-half
invariant-loop-half l = l.file.items ≡ l.initial.file.items ++ flat_map u16_bytes (take l.half-index l.halves)
