use Rattle.aes128_block.proofs.InverseLayers.{shifted-product}
use Rattle.aes128_block.proofs.inverse_rounds.doubled.Goals as goal

pub returns : goal.returns
returns c = shifted-product c.args.byte c.ranges.byte.fits
