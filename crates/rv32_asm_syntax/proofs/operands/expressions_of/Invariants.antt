use Rattle.std.proofs.Common.{◌≡◌, ◌++◌, length}
use Rattle.std.specs.Prelude.{option_map}
use Rattle.rv32_asm_syntax.specs.Parts.{operands_left}
use Rattle.rv32_asm_syntax.specs.Reading as spec
use Rattle.rv32_asm_syntax.specs.Seen.{seen_expressions}
use Rattle.rv32_asm_syntax.proofs.operands.expressions_of.Given as goal

abbrev pub invariant-loop-left : goal.invariant-loop-left
invariant-loop-left l =
    option_map (λ more. seen_expressions l.values.items ++ more) (spec.expressions_of (operands_left l.left))
    ≡ spec.expressions_of (operands_left l.fn.operands)

abbrev pub decreases-loop-left : goal.decreases-loop-left
decreases-loop-left l = length (operands_left l.left)
