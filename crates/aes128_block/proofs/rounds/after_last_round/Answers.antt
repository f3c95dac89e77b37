use Rattle.aes128_block.proofs.Layers.{columns_state-after_last_round}
use Rattle.aes128_block.proofs.rounds.after_last_round.Goals as goal

pub returns : goal.returns
returns c =
    columns_state-after_last_round c.args.state.now c.args.words.now _ _ _ _
    c.last_round_column.ensures c.last_round_column-2.ensures c.last_round_column-3.ensures c.last_round_column-4.ensures
