use Rattle.std.proofs.Common.{◌*◌, zero-add}
use Rattle.aes128_block.specs.Word.{column}
use Rattle.aes128_block.proofs.words.block_column.Goals as goal

pub returns : goal.returns
unfolding column
returns c = rw (zero-add (4 * c.args.place)) c.join_bytes.ensures
