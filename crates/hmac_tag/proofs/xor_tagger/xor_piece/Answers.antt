use Rattle.std.proofs.Common.{arith}
use Rattle.hmac_tag.proofs.XorPieces.{xor_piece-all}
use Rattle.hmac_tag.proofs.xor_tagger.xor_piece.Goals as goal

pub returns : goal.returns
returns c =
    let kept = c.loop-place.invariant in
    xor_piece-all _ _ _ kept.long (λ k inside. kept.before k (omega arith)) (λ k past. kept.behind k (omega arith))
