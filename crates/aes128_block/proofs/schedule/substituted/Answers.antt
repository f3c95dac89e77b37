use Rattle.aes128_block.specs.KeyExpansion.{sub_word}
use Rattle.aes128_block.proofs.schedule.substituted.Goals as goal

pub returns : goal.returns
unfolding sub_word
returns c = cc
