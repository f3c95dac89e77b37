use Rattle.std.proofs.Common.{◌≡◌, ℕ, ◌<◌, ◌≤◌, length, slice_index}
use Rattle.std.specs.Int.Bits.{bit_xor}
use Rattle.hmac_tag.proofs.xor_tagger.xor_piece.Given as goal

abbrev pub invariant-loop-place : goal.invariant-loop-place
invariant-loop-place l = record {
  long : length l.xored ≡ 16;
  before : (k : ℕ) → k < l.place → slice_index l.xored k ≡ bit_xor (slice_index l.tag k) (slice_index l.piece k);
  behind : (k : ℕ) → l.place ≤ k → slice_index l.xored k ≡ slice_index l.tag k;
}
