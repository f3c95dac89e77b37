use Rattle.std.proofs.Common.{◌≡◌, drop}
use Rattle.rv32_asm.proofs.Emitting.{data_misses}
use Rattle.rv32_asm.proofs.emission.data_misses_label.Given as goal

abbrev pub invariant-loop-expression : goal.invariant-loop-expression
invariant-loop-expression l = data_misses l.labels (drop l.expression-index l.expressions) ≡ data_misses l.labels l.expressions
