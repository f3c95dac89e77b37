use Rattle.std.proofs.Common.{length, ◌≡◌, ◌≤◌, take}
use Rattle.rv32_asm_syntax.specs.Characters as spec
use Rattle.rv32_asm_syntax.proofs.characters.drop_end_blanks.Given as goal

abbrev pub invariant-loop-end : goal.invariant-loop-end
invariant-loop-end l = record {
  within : l.end ≤ length l.text;
  same : spec.drop_end_blanks (take l.end l.text) ≡ spec.drop_end_blanks l.text;
}

abbrev pub decreases-loop-end : goal.decreases-loop-end
decreases-loop-end l = l.end
