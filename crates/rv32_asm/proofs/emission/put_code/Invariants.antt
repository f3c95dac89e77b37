use Rattle.std.proofs.Common.{◌≡◌, ◌+◌, ◌*◌, drop, length}
use Rattle.rv32_asm.proofs.Emitting.{coded}
use Rattle.rv32_asm.proofs.emission.put_code.Given as goal

abbrev pub invariant-loop-instruction : goal.invariant-loop-instruction
invariant-loop-instruction l = record {
  reached : length l.bytes.items ≡ length l.initial.bytes.items + 4 * l.instruction-index;
  same : coded l.labels l.bytes.items (drop l.instruction-index l.instructions) ≡ coded l.labels l.initial.bytes.items l.instructions;
}
