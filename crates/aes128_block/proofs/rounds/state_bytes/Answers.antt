use Rattle.aes128_block.specs.Word.{columns_state}
use Rattle.aes128_block.proofs.rounds.state_bytes.Goals as goal

pub returns : goal.returns
unfolding columns_state
returns c = cc
