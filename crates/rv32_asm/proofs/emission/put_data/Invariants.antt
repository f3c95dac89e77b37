use Rattle.std.proofs.Common.{◌≡◌, drop}
use Rattle.rv32_asm.proofs.Emitting.{listed}
use Rattle.rv32_asm.proofs.emission.put_data.Given as goal

abbrev pub invariant-loop-expression : goal.invariant-loop-expression
invariant-loop-expression l = listed l.labels l.width l.bytes.items (drop l.expression-index l.expressions) ≡ listed l.labels l.width l.initial.bytes.items l.expressions
