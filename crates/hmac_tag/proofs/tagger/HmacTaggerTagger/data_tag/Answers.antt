use Rattle.hmac_tag.proofs.Tagging.{tag_of-block}
use Rattle.hmac_tag.proofs.tagger.HmacTaggerTagger.data_tag.Goals as goal

pub returns : goal.returns
returns c = rw (← c.self.view_is) (tag_of-block _ _ _ _ _ c.self.invariant.0 c.mac.ensures c.first_16.ensures)
