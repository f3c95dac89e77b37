use Rattle.std.proofs.Common.{◌≡◌, ◌*◌, length, take}
use Rattle.sealed_state.proofs.StateBytes.{word_bytes}
use Rattle.sealed_state.proofs.chip_state.register_bytes.Given as goal

abbrev pub invariant-loop-place : goal.invariant-loop-place
invariant-loop-place l = record {
  long : length l.bytes ≡ 124;
  put : take (4 * l.place) l.bytes ≡ word_bytes (take l.place l.regs);
}
