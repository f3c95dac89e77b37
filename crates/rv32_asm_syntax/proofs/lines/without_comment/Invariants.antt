use Rattle.std.proofs.Common.{length, ◌-◌, ◌≡◌, ◌≤◌, take, drop, ◌++◌}
use Rattle.rv32_asm_syntax.specs.Lines.{Outside, before_comment}
use Rattle.rv32_asm_syntax.specs.Seen.{seen_quoting}
use Rattle.rv32_asm_syntax.proofs.lines.without_comment.Given as goal

abbrev pub invariant-loop-end : goal.invariant-loop-end
invariant-loop-end l = record {
  within : l.end ≤ length l.line;
  same : take l.end l.line ++ before_comment (seen_quoting l.quoting) (drop l.end l.line) ≡ before_comment Outside l.line;
}

abbrev pub decreases-loop-end : goal.decreases-loop-end
decreases-loop-end l = length l.line - l.end
