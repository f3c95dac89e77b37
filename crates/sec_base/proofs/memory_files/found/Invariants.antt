use Rattle.std.proofs.Common.{◌≡◌, drop, fold}
use Rattle.std.specs.Option.{option_copied}
use Rattle.sec_base.specs.MemoryFiles.{content_with, content_of}
use Rattle.sec_base.proofs.memory_files.found.Given as goal

-- what was found so far, and then the files that are left, give what all of them give
abbrev pub invariant-loop-file : goal.invariant-loop-file
invariant-loop-file l =
    fold (content_with l.name) (option_copied l.last) (drop l.file-index l.files) ≡ content_of l.files l.name
