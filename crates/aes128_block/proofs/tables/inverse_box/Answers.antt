-- The table is compared with its definition at each byte, by computation.
use Rattle.std.proofs.Common.{refl}
use Rattle.aes128_block.specs.Field.{polynomial_product, remainder, product}
use Rattle.aes128_block.specs.SBox.{inverse_below, inverse, byte_of_bits}
use Rattle.aes128_block.specs.InverseCipher.{inv_affine_bit, inv_affine, inv_s_box}
use Rattle.aes128_block.specs.Tables.{all_below, is_inv_s_box}
use Rattle.aes128_block.proofs.tables.inverse_box.Goals as goal

pub returns : goal.returns
unfolding polynomial_product remainder product inverse_below inverse byte_of_bits inv_affine_bit inv_affine inv_s_box all_below is_inv_s_box
returns c = refl
