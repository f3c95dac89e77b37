use Rattle.aes128_block.proofs.TableLemmas.{is_inv_s_box-each}
use Rattle.aes128_block.proofs.tables.inv_sub_byte.Goals as goal

pub returns : goal.returns
returns c = rw c.from.ensures (is_inv_s_box-each c.inverse_box.result.now c.inverse_box.ensures c.args.byte c.ranges.byte.fits)
