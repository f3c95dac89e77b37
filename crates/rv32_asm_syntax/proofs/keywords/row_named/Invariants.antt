use Rattle.std.proofs.Common.{◌≡◌, drop, map}
use Rattle.rv32_asm_syntax.specs.Tables.{keyword_in, row_entry}
use Rattle.rv32_asm_syntax.specs.Keywords.{row_entries}
use Rattle.rv32_asm_syntax.proofs.keywords.row_named.Given as goal

abbrev pub invariant-loop-row : goal.invariant-loop-row
invariant-loop-row l = keyword_in (map (λ row. row_entry row.op) (drop l.row-index l.row-items)) l.word ≡ keyword_in row_entries l.word
