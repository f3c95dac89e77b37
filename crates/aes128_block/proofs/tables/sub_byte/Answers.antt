use Rattle.aes128_block.proofs.TableLemmas.{right_at}
use Rattle.aes128_block.proofs.tables.sub_byte.Goals as goal

pub returns : goal.returns
returns c = rw c.from.ensures (right_at c.cipher_tables.result.now c.cipher_tables.ensures c.args.byte c.ranges.byte.fits).box
