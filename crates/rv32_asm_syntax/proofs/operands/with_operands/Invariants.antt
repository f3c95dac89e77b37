use Rattle.std.proofs.Common.{◌≡◌, drop, map}
use Rattle.rv32_asm_syntax.specs.Parts.{operands_left}
use Rattle.rv32_asm_syntax.specs.Reading as spec
use Rattle.rv32_asm_syntax.specs.Seen.{seen_instruction, seen_operand}
use Rattle.rv32_asm_syntax.proofs.operands.with_operands.Given as goal

abbrev pub invariant-loop-operand : goal.invariant-loop-operand
invariant-loop-operand l =
    spec.with_operands (map seen_operand (drop l.operand-index l.operands)) (operands_left l.left) (seen_instruction l.given)
    ≡ spec.with_operands (map seen_operand l.operands) (operands_left l.fn.texts) (seen_instruction l.fn.instruction)
