use Rattle.aes128_block.proofs.Layers.{columns_state-after_round}
use Rattle.aes128_block.proofs.rounds.after_round.Goals as goal

pub returns : goal.returns
returns c =
    columns_state-after_round c.args.state.now c.args.words.now c.args.round _ _ _ _
    c.round_column.ensures c.round_column-2.ensures c.round_column-3.ensures c.round_column-4.ensures
