-- The inverse cipher of AES-128, with the key schedule w (5.3).
use Rattle.std.specs.Prelude.{ℕ, zero, suc, ◌+◌, ◌-◌, ◌%◌, List, [], ◌∷◌}
use Rattle.aes128_block.specs.Field.{coefficient}
use Rattle.aes128_block.specs.SBox.{inverse, byte_of_bits}
use Rattle.aes128_block.specs.Word.{at, state_of}
use Rattle.aes128_block.specs.Cipher.{times_matrix, add_round_key}
use Rattle.aes128_block.specs.KeyExpansion.{key_expansion}

-- INVSHIFTROWS: row r is rotated right by r (5.3.1)
unfoldable pub inv_shift_rows : List ℕ → List ℕ
inv_shift_rows s = state_of (λ r c. at s r ((c + 4 - r) % 4))

-- bit k of the inverse of the affine map of a byte (5.3.2)
unfoldable pub inv_affine_bit : ℕ → ℕ → ℕ
inv_affine_bit v k =
    (coefficient v ((k + 2) % 8) + coefficient v ((k + 5) % 8) + coefficient v ((k + 7) % 8) + coefficient 0x05 k) % 2

-- the inverse of the affine map of a byte (5.3.2)
unfoldable pub inv_affine : ℕ → ℕ
inv_affine v = byte_of_bits (inv_affine_bit v)

-- INVSBOX: the affine map is undone, then the inverse taken (5.3.2)
unfoldable pub inv_s_box : ℕ → ℕ
inv_s_box v = inverse (inv_affine v)

-- INVSUBBYTES: each byte through the inverse of the S-box (5.3.2)
unfoldable pub inv_sub_bytes : List ℕ → List ℕ
inv_sub_bytes s = state_of (λ r c. inv_s_box (at s r c))

-- the first row of the matrix of INVMIXCOLUMNS (5.3.3)
abbrev pub inv_mix_row : List ℕ
inv_mix_row = 0x0e ∷ 0x0b ∷ 0x0d ∷ 0x09 ∷ []

-- INVMIXCOLUMNS: each column times that matrix (5.3.3)
unfoldable pub inv_mix_columns : List ℕ → List ℕ
inv_mix_columns s = times_matrix inv_mix_row s

-- the block that n rounds with a matrix and then SUBBYTES and SHIFTROWS took to a state (5.3)
unfoldable pub before_rounds : List ℕ → ℕ → List ℕ → List ℕ
before_rounds w zero s = add_round_key w 0 (inv_sub_bytes (inv_shift_rows s))
before_rounds w (suc n) s =
    before_rounds w n (inv_mix_columns (add_round_key w (n + 1) (inv_sub_bytes (inv_shift_rows s))))

-- INVCIPHER with 10 rounds (5.3)
unfoldable pub inv_cipher : List ℕ → List ℕ → List ℕ
inv_cipher w block = before_rounds w 9 (add_round_key w 10 block)

-- the inverse cipher of a block of 16 bytes under a key of 16 bytes (5)
unfoldable pub decrypted : List ℕ → List ℕ → List ℕ
decrypted key block = inv_cipher (key_expansion key) block
