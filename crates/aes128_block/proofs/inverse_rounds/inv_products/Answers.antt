use Rattle.aes128_block.proofs.InverseLayers.{inv_products-doubled}
use Rattle.aes128_block.proofs.inverse_rounds.inv_products.Goals as goal

pub returns : goal.returns
returns c =
    inv_products-doubled c.args.byte _ _ _ c.ranges.byte.fits c.doubled-by_2.ensures c.doubled-by_4.ensures c.doubled-by_8.ensures
