use Rattle.aes128_block.proofs.Layers.{columns_state-add_key}
use Rattle.aes128_block.proofs.rounds.add_key.Goals as goal

pub returns : goal.returns
returns c = columns_state-add_key c.args.state.now c.args.words.now c.args.round
