use Rattle.aes128_block.proofs.InverseLayers.{columns_state-unboxed}
use Rattle.aes128_block.proofs.inverse_rounds.unboxed.Goals as goal

pub returns : goal.returns
returns c =
    columns_state-unboxed c.args.state.now c.args.words.now c.args.round _ _ _ _
    c.unboxed_column.ensures c.unboxed_column-2.ensures c.unboxed_column-3.ensures c.unboxed_column-4.ensures
