use Rattle.std.proofs.Common.{◌≡◌, drop, map}
use Rattle.rv32_asm_syntax.specs.Tables.{entry, keyword_in}
use Rattle.rv32_asm_syntax.proofs.keywords.keyword_in.Given as goal

abbrev pub invariant-loop-name : goal.invariant-loop-name
invariant-loop-name l = keyword_in (map entry (drop l.name-index l.table)) l.word ≡ keyword_in (map entry l.table) l.word
