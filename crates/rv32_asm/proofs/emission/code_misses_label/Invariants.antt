use Rattle.std.proofs.Common.{◌≡◌, drop}
use Rattle.rv32_asm.proofs.Emitting.{code_misses}
use Rattle.rv32_asm.proofs.emission.code_misses_label.Given as goal

abbrev pub invariant-loop-instruction : goal.invariant-loop-instruction
invariant-loop-instruction l = code_misses l.labels (drop l.instruction-index l.instructions) ≡ code_misses l.labels l.instructions
