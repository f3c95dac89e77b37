use Rattle.std.proofs.Common.{◌≡◌, ◌++◌, take}
use Rattle.std.specs.List.{flat_map}
use Rattle.elf_load.specs.Spelling.{u32_bytes}
use Rattle.elf_load.proofs.spelling.put_words.Given as goal

abbrev pub invariant-loop-word : goal.invariant-loop-word
invariant-loop-word l = l.file.items ≡ l.initial.file.items ++ flat_map u32_bytes (take l.word-index l.words)
