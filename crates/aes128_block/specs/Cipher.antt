-- The cipher of AES-128 on a state of 16 bytes, with the key schedule w, a list of 44 words (5.1).
use Rattle.std.specs.Prelude.{ℕ, zero, suc, ◌+◌, ◌-◌, ◌*◌, ◌%◌, List, [], ◌∷◌, slice_index}
use Rattle.aes128_block.specs.Field.{◌⊕◌, product}
use Rattle.aes128_block.specs.SBox.{s_box}
use Rattle.aes128_block.specs.Word.{byte, at, state_of}

-- SUBBYTES: each byte through the S-box (5.1.1)
unfoldable pub sub_bytes : List ℕ → List ℕ
sub_bytes s = state_of (λ r c. s_box (at s r c))

-- SHIFTROWS: row r is rotated left by r (5.1.2)
unfoldable pub shift_rows : List ℕ → List ℕ
shift_rows s = state_of (λ r c. at s r ((c + r) % 4))

-- row r, column k of the circulant matrix with a first row (4.3)
unfoldable pub circulant : List ℕ → ℕ → ℕ → ℕ
circulant first r k = slice_index first ((k + 4 - r) % 4)

-- row r of that matrix times a column of four bytes (4.3)
unfoldable pub row_times : List ℕ → ℕ → ℕ → ℕ → ℕ → ℕ → ℕ
row_times first r a b c d =
    product (circulant first r 0) a ⊕ product (circulant first r 1) b ⊕ product (circulant first r 2) c
    ⊕ product (circulant first r 3) d

-- each column of a state times that matrix (4.3)
unfoldable pub times_matrix : List ℕ → List ℕ → List ℕ
times_matrix first s = state_of (λ r c. row_times first r (at s 0 c) (at s 1 c) (at s 2 c) (at s 3 c))

-- the first row of the matrix of MIXCOLUMNS (5.1.3)
abbrev pub mix_row : List ℕ
mix_row = 0x02 ∷ 0x03 ∷ 0x01 ∷ 0x01 ∷ []

-- MIXCOLUMNS: each column times that matrix (5.1.3)
unfoldable pub mix_columns : List ℕ → List ℕ
mix_columns s = times_matrix mix_row s

-- ADDROUNDKEY: each column xor its word of four words of the schedule (5.1.4)
unfoldable pub add_round_key : List ℕ → ℕ → List ℕ → List ℕ
add_round_key w round s = state_of (λ r c. at s r c ⊕ byte r (slice_index w (4 * round + c)))

-- the state after n rounds of the nine with a matrix (5.1)
unfoldable pub after_rounds : List ℕ → ℕ → List ℕ → List ℕ
after_rounds w zero block = add_round_key w 0 block
after_rounds w (suc n) block =
    add_round_key w (n + 1) (mix_columns (shift_rows (sub_bytes (after_rounds w n block))))

-- CIPHER with 10 rounds: the last has no matrix (5.1)
unfoldable pub cipher : List ℕ → List ℕ → List ℕ
cipher w block = add_round_key w 10 (shift_rows (sub_bytes (after_rounds w 9 block)))
