use Rattle.std.proofs.Common.{◌≡◌, ◌++◌, length}
use Rattle.std.specs.Prelude.{option_map}
use Rattle.rv32_asm_syntax.specs.Reading as spec
use Rattle.rv32_asm_syntax.proofs.strings.string_of.Given as goal

abbrev pub invariant-loop-left : goal.invariant-loop-left
invariant-loop-left l = option_map (λ more. l.bytes.items ++ more) (spec.string_after l.left) ≡ spec.string_of l.text

abbrev pub decreases-loop-left : goal.decreases-loop-left
decreases-loop-left l = length l.left
