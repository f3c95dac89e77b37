use Rattle.std.proofs.Common.{◌≡◌, ◌+◌, ◌≤◌, length}
use Rattle.rv32_asm_syntax.specs.Lines.{lines_of}
use Rattle.adversary_script.specs.Script.{FitScript, script_from}
use Rattle.adversary_script.proofs.Joined.{behind}
use Rattle.adversary_script.proofs.lines.parse.Given as goal

abbrev pub invariant-loop-rest : goal.invariant-loop-rest
invariant-loop-rest l = record {
  counted : l.number + length l.rest ≤ length l.text;
  fits : FitScript l.geometry l.lines.items;
  same : behind l.lines.items (script_from l.geometry (l.number + 1) (lines_of l.rest)) ≡ script_from l.geometry 1 (lines_of l.text);
}

abbrev pub decreases-loop-rest : goal.decreases-loop-rest
decreases-loop-rest l = length l.rest
