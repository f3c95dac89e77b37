use Rattle.std.proofs.Common.{◌≡◌, drop, map}
use Rattle.rv32_asm_syntax.specs.Tables.{keyword_in, pseudoinstruction_entry}
use Rattle.rv32_asm_syntax.specs.Keywords.{pseudoinstructions}
use Rattle.rv32_asm_syntax.proofs.keywords.pseudoinstruction_named.Given as goal

abbrev pub invariant-loop-pseudo : goal.invariant-loop-pseudo
invariant-loop-pseudo l =
    keyword_in (map pseudoinstruction_entry (drop l.pseudo-index l.pseudo-items)) l.word ≡ keyword_in pseudoinstructions l.word
