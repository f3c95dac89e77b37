use Rattle.aes128_block.proofs.InverseLayers.{columns_state-unmixed}
use Rattle.aes128_block.proofs.inverse_rounds.unmixed.Goals as goal

pub returns : goal.returns
returns c =
    columns_state-unmixed c.args.state.now _ _ _ _
    c.unmixed_column.ensures c.unmixed_column-2.ensures c.unmixed_column-3.ensures c.unmixed_column-4.ensures
