-- The tables are compared with their definition at each byte, by computation.
use Rattle.std.proofs.Common.{refl}
use Rattle.aes128_block.specs.Field.{polynomial_product, remainder, product}
use Rattle.aes128_block.specs.SBox.{inverse_below, inverse, affine_bit, byte_of_bits, affine, s_box}
use Rattle.aes128_block.specs.Word.{byte}
use Rattle.aes128_block.specs.Cipher.{circulant}
use Rattle.aes128_block.specs.Tables.{all_below, share, has_shares, are_right_at, are_right}
use Rattle.aes128_block.proofs.tables.cipher_tables.Goals as goal

pub returns : goal.returns
unfolding polynomial_product remainder product inverse_below inverse affine_bit byte_of_bits affine s_box byte circulant all_below share has_shares are_right_at are_right
returns c = refl
