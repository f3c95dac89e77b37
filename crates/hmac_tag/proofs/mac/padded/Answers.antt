use Rattle.hmac_tag.proofs.KeyBlocks.{write-padded_key}
use Rattle.hmac_tag.proofs.mac.padded.Goals as goal

pub returns : goal.returns
returns c = write-padded_key c.args.key.now _ c.copy_from_slice.ensures.after
