use Rattle.std.proofs.Common.{◌+◌, ◌≤◌, length}
use Rattle.rv32_asm_syntax.specs.Lines.{lines_of}
use Rattle.rv32_asm.specs.Passes.{first_pass, start}
use Rattle.rv32_asm.proofs.FirstSteps.{Agree, at}
use Rattle.rv32_asm.proofs.passes.lay_out.Given as goal

abbrev pub invariant-loop-number : goal.invariant-loop-number
invariant-loop-number l = record {
  counted : l.lines.number + length l.lines.rest.now ≤ length l.text;
  inside : l.progress.address ≤ l.size;
  agree :
      Agree
      (first_pass l.size 1 start (lines_of l.text))
      (first_pass l.size (l.lines.number + 1) (at l.progress.address l.progress.labels) (lines_of l.lines.rest.now));
}

abbrev pub decreases-loop-number : goal.decreases-loop-number
decreases-loop-number l = length l.lines.rest.now
