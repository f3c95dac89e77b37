use Rattle.std.proofs.Common.{◌≡◌, ◌+◌, ◌≤◌, [], Ok, length}
use Rattle.rv32_asm.specs.PassSteps.{end_of}
use Rattle.rv32_asm_syntax.specs.Lines.{lines_of}
use Rattle.rv32_asm.specs.Passes.{second_pass}
use Rattle.rv32_asm.proofs.passes.bytes_of.Given as goal

abbrev pub invariant-loop-number : goal.invariant-loop-number
invariant-loop-number l = record {
  counted : l.lines.number + length l.lines.rest.now ≤ length l.text;
  same : second_pass l.labels (l.lines.number + 1) l.bytes.items (lines_of l.lines.rest.now) ≡ second_pass l.labels 1 [] (lines_of l.text);
  ends : end_of (length l.bytes.items) (lines_of l.lines.rest.now) ≡ Ok l.end;
}

abbrev pub decreases-loop-number : goal.decreases-loop-number
decreases-loop-number l = length l.lines.rest.now
