-- The layers of the cipher on a state kept as four columns.
use Rattle.std.proofs.Common.{◌≡◌, ℕ, ◌+◌, ◌*◌, ◌<◌, List, [], ◌∷◌, refl, ap, lit<, slice_index}
use Rattle.std.proofs.Math.Nat.{add-zero}
use Rattle.aes128_block.specs.Field.{◌⊕◌}
use Rattle.aes128_block.specs.SBox.{s_box}
use Rattle.aes128_block.specs.Word.{byte, word_of, columns_state}
use Rattle.aes128_block.specs.Cipher.{sub_bytes, shift_rows, row_times, times_matrix, mix_columns, add_round_key}
use Rattle.aes128_block.specs.Tables.{share, round_byte, boxed_byte}
use Rattle.aes128_block.proofs.Bytes.{byte-xor, byte-word_of}

-- ADDROUNDKEY, column by column
pub columns_state-add_key : (s words : List ℕ) (round : ℕ)
    → columns_state ((slice_index s 0 ⊕ slice_index words (4 * round)) ∷ (slice_index s 1 ⊕ slice_index words (4 * round + 1))
    ∷ (slice_index s 2 ⊕ slice_index words (4 * round + 2)) ∷ (slice_index s 3 ⊕ slice_index words (4 * round + 3)) ∷ [])
    ≡ add_round_key words round (columns_state s)
unfolding columns_state add_round_key
columns_state-add_key s words round = simp byte-xor (rw (add-zero (4 * round)) refl)

-- the rows of a column x are those of a round with the matrix
abbrev pub IsRoundColumn : ℕ → ℕ → ℕ → ℕ → ℕ → ℕ → Type 0
IsRoundColumn x a b c d key = (r : ℕ) → r < 4 → byte r x ≡ round_byte r a b c d key

pub columns_state-after_round : (s words : List ℕ) (round x y z w : ℕ)
    → IsRoundColumn x (slice_index s 0) (slice_index s 1) (slice_index s 2) (slice_index s 3) (slice_index words (4 * round))
    → IsRoundColumn y (slice_index s 1) (slice_index s 2) (slice_index s 3) (slice_index s 0) (slice_index words (4 * round + 1))
    → IsRoundColumn z (slice_index s 2) (slice_index s 3) (slice_index s 0) (slice_index s 1) (slice_index words (4 * round + 2))
    → IsRoundColumn w (slice_index s 3) (slice_index s 0) (slice_index s 1) (slice_index s 2) (slice_index words (4 * round + 3))
    → columns_state (x ∷ y ∷ z ∷ w ∷ [])
    ≡ add_round_key words round (mix_columns (shift_rows (sub_bytes (columns_state s))))
unfolding columns_state add_round_key row_times times_matrix mix_columns shift_rows sub_bytes round_byte share
columns_state-after_round s words round x y z w in_x in_y in_z in_w =
    rw (
      in_x 0 (lit< tt),
      in_x 1 (lit< tt),
      in_x 2 (lit< tt),
      in_x 3 (lit< tt),
      in_y 0 (lit< tt),
      in_y 1 (lit< tt),
      in_y 2 (lit< tt),
      in_y 3 (lit< tt),
      in_z 0 (lit< tt),
      in_z 1 (lit< tt),
      in_z 2 (lit< tt),
      in_z 3 (lit< tt),
      in_w 0 (lit< tt),
      in_w 1 (lit< tt),
      in_w 2 (lit< tt),
      in_w 3 (lit< tt),
      add-zero (4 * round),
    ) refl

-- the rows of a column x are those of four columns through a box, and a key word
abbrev pub IsBoxedColumn : (ℕ → ℕ) → ℕ → ℕ → ℕ → ℕ → ℕ → ℕ → Type 0
IsBoxedColumn box x a b c d key = (r : ℕ) → r < 4 → byte r x ≡ boxed_byte box r a b c d key

pub columns_state-after_last_round : (s words : List ℕ) (x y z w : ℕ)
    → IsBoxedColumn s_box x (slice_index s 0) (slice_index s 1) (slice_index s 2) (slice_index s 3) (slice_index words 40)
    → IsBoxedColumn s_box y (slice_index s 1) (slice_index s 2) (slice_index s 3) (slice_index s 0) (slice_index words 41)
    → IsBoxedColumn s_box z (slice_index s 2) (slice_index s 3) (slice_index s 0) (slice_index s 1) (slice_index words 42)
    → IsBoxedColumn s_box w (slice_index s 3) (slice_index s 0) (slice_index s 1) (slice_index s 2) (slice_index words 43)
    → columns_state (x ∷ y ∷ z ∷ w ∷ []) ≡ add_round_key words 10 (shift_rows (sub_bytes (columns_state s)))
unfolding columns_state add_round_key shift_rows sub_bytes boxed_byte
columns_state-after_last_round s words x y z w in_x in_y in_z in_w =
    rw (
      in_x 0 (lit< tt),
      in_x 1 (lit< tt),
      in_x 2 (lit< tt),
      in_x 3 (lit< tt),
      in_y 0 (lit< tt),
      in_y 1 (lit< tt),
      in_y 2 (lit< tt),
      in_y 3 (lit< tt),
      in_z 0 (lit< tt),
      in_z 1 (lit< tt),
      in_z 2 (lit< tt),
      in_z 3 (lit< tt),
      in_w 0 (lit< tt),
      in_w 1 (lit< tt),
      in_w 2 (lit< tt),
      in_w 3 (lit< tt),
    ) refl

-- a column from its four bytes
pub boxed_byte-word_of : (box : ℕ → ℕ) → ((n : ℕ) → box n < 256) → (a b c d key x y z w word : ℕ)
    → x ≡ box (byte 0 a) → y ≡ box (byte 1 b) → z ≡ box (byte 2 c) → w ≡ box (byte 3 d)
    → word ≡ word_of x y z w → IsBoxedColumn box (word ⊕ key) a b c d key
unfolding boxed_byte
boxed_byte-word_of box fits a b c d key x y z w word x_is y_is z_is w_is word_is r in_word =
    let row = λ (r : ℕ). box (byte r (slice_index (a ∷ b ∷ c ∷ d ∷ []) r)) in
    rw (byte-xor r word key, word_is, x_is, y_is, z_is, w_is)
    (ap (λ n. n ⊕ byte r key) (byte-word_of row (fits _) (fits _) (fits _) (fits _) r in_word))
