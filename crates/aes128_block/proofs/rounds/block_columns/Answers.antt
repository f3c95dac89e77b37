use Rattle.aes128_block.proofs.Bytes.{columns_state-column}
use Rattle.aes128_block.proofs.rounds.block_columns.Goals as goal

pub returns : goal.returns
returns c =
    rw (c.block_column.ensures, c.block_column-2.ensures, c.block_column-3.ensures, c.block_column-4.ensures)
    (columns_state-column c.args.block.now c.told-block c.fits-block)
