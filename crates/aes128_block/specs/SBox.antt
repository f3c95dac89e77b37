-- The S-box by inverse and affine map (5.1.1).
use Rattle.std.specs.Prelude.{ℕ, zero, suc, ◌+◌, ◌*◌, ◌%◌, ◌==◌, if◌then◌else◌}
use Rattle.aes128_block.specs.Field.{coefficient, product}

-- the number below n whose product with a is 1, or 0 where there is none
unfoldable pub inverse_below : ℕ → ℕ → ℕ
inverse_below zero a = 0
inverse_below (suc u) a = if product a u == 1 then u else inverse_below u a

-- the multiplicative inverse of a byte, with 0 for 0 (4.4, 5.1.1)
unfoldable pub inverse : ℕ → ℕ
inverse a = inverse_below 256 a

-- bit k of the affine map of a byte: a sum of bits, modulo 2 (5.1.1)
unfoldable pub affine_bit : ℕ → ℕ → ℕ
affine_bit u k =
    (coefficient u k + coefficient u ((k + 4) % 8) + coefficient u ((k + 5) % 8) + coefficient u ((k + 6) % 8)
    + coefficient u ((k + 7) % 8) + coefficient 0x63 k) % 2

-- the byte of eight bits
unfoldable pub byte_of_bits : (ℕ → ℕ) → ℕ
byte_of_bits bit = bit 0 + 2 * bit 1 + 4 * bit 2 + 8 * bit 3 + 16 * bit 4 + 32 * bit 5 + 64 * bit 6 + 128 * bit 7

-- the affine map of a byte (5.1.1)
unfoldable pub affine : ℕ → ℕ
affine u = byte_of_bits (affine_bit u)

-- SBOX (5.1.1)
unfoldable pub s_box : ℕ → ℕ
s_box a = affine (inverse a)
