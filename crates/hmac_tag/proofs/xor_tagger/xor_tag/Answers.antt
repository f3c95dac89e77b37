use Rattle.std.proofs.Common.{◌∙◌, ap, arith}
use Rattle.std.specs.Slice.Iter.{chunks_rest, chunks_size}
use Rattle.hmac_tag.proofs.XorPieces.{fold-start, fold-next, fold-end}
use Rattle.hmac_tag.proofs.xor_tagger.xor_tag.Goals as goal

pub loop-piece-init : goal.loop-piece-init
loop-piece-init c =
    let same = c.into_iter-piece-iterator.ensures.into_iter_gives in
    record {
      size = ap chunks_size same ∙ c.chunks-piece-items.ensures.size;
      rest = fold-start _ _ _ _ (omega arith) c.first_16-tag.ensures (ap chunks_rest same ∙ c.chunks-piece-items.ensures.rest);
    }

pub loop-piece-preserved : goal.loop-piece-preserved
loop-piece-preserved c =
    let steps = c.in-Some.ensures.steps in
    record {
      size = steps.0 ∙ c.loop-piece.invariant.size;
      rest = fold-next _ _ _ _ _ c.xor_piece-tag.ensures steps.1.0 (omega arith) steps.1.2 ∙ c.loop-piece.invariant.rest;
    }

pub returns : goal.returns
returns c = fold-end _ _ c.in-None.ensures.steps.1.0 ∙ c.loop-piece.invariant.rest
