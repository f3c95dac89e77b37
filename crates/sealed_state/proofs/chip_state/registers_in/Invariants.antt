use Rattle.std.proofs.Common.{◌≡◌, ℕ, suc, ◌*◌, ◌<◌, length, slice_index}
use Rattle.sealed_state.specs.ChipState.{u32_at}
use Rattle.sealed_state.proofs.chip_state.registers_in.Given as goal

abbrev pub invariant-loop-place : goal.invariant-loop-place
invariant-loop-place l = record {
  long : length l.regs ≡ 31;
  read : (k : ℕ) → k < l.place → slice_index l.regs k ≡ u32_at l.bytes (4 * suc k);
}
