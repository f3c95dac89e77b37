use Rattle.std.proofs.Common.{◌≡◌, length}
use Rattle.rv32_asm_syntax.specs.Lines.{behind_labels, parts_of}
use Rattle.rv32_asm_syntax.specs.Parts.{parts}
use Rattle.rv32_asm_syntax.proofs.lines.statement_text.Given as goal

abbrev pub invariant-loop-rest : goal.invariant-loop-rest
invariant-loop-rest l = behind_labels (parts l.left) ≡ behind_labels (parts_of l.line)

abbrev pub decreases-loop-rest : goal.decreases-loop-rest
decreases-loop-rest l = length l.left
