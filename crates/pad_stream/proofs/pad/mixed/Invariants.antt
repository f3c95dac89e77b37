use Rattle.std.proofs.Common.{◌≡◌, ◌<◌, ℕ, length, slice_index}
use Rattle.std.specs.Int.Bits.{bit_xor}
use Rattle.pad_stream.proofs.pad.mixed.Given as goal

abbrev pub invariant-loop-place : goal.invariant-loop-place
invariant-loop-place l = record {
  long : length l.mixed ≡ 64;
  each : (k : ℕ) → k < l.place → slice_index l.mixed k ≡ bit_xor (slice_index l.pad k) (slice_index l.bytes k);
}
