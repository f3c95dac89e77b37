use Rattle.std.proofs.Common.{◌≡◌, fold}
use Rattle.std.specs.Slice.Iter.{chunks_rest, chunks_size}
use Rattle.hmac_tag.specs.Tags.{pieces_of, xor_of_pieces, xor_tag_of}
use Rattle.hmac_tag.proofs.xor_tagger.xor_tag.Given as goal

abbrev pub invariant-loop-piece : goal.invariant-loop-piece
invariant-loop-piece l = record {
  size : chunks_size l.piece-iterator ≡ 16;
  rest : fold xor_of_pieces l.tag (pieces_of (chunks_rest l.piece-iterator)) ≡ xor_tag_of l.key l.message;
}
