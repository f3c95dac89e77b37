use Rattle.aes128_block.specs.KeyExpansion.{rot_word}
use Rattle.aes128_block.proofs.schedule.rotated.Goals as goal

pub returns : goal.returns
unfolding rot_word
returns c = cc
