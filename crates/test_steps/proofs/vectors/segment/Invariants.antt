use Rattle.std.proofs.Common.{◌≡◌, ◌*◌, length}
use Rattle.test_steps.proofs.vectors.segment.Given as goal

abbrev pub invariant-loop-word : goal.invariant-loop-word
invariant-loop-word l = length l.bytes.items ≡ 4 * l.word-index
