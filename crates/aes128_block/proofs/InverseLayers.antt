-- The layers of the inverse cipher on a state kept as four columns.
use Rattle.std.proofs.Common.{◌≡◌, ℕ, ◌+◌, ◌*◌, ◌/◌, ◌%◌, ◌<◌, List, [], ◌∷◌, refl, lit<, slice_index}
use Rattle.std.specs.Prelude.{◌==◌, ◌&&◌, true, map}
use Rattle.std.proofs.Math.Nat.{add-zero}
use Rattle.std.proofs.lemmas.Bool.{eqb-true, and_parts}
use Rattle.aes128_block.specs.Field.{◌⊕◌, polynomial_product, remainder, product}
use Rattle.aes128_block.specs.Word.{byte, word_of, columns_state}
use Rattle.aes128_block.specs.Cipher.{circulant, row_times, times_matrix, add_round_key}
use Rattle.aes128_block.specs.InverseCipher.{inv_shift_rows, inv_s_box, inv_sub_bytes, inv_mix_row, inv_mix_columns}
use Rattle.aes128_block.specs.Tables.{all_below, boxed_byte}
use Rattle.aes128_block.proofs.TableLemmas.{all_below-each}
use Rattle.aes128_block.proofs.Bytes.{byte-below, byte-word_of}
use Rattle.aes128_block.proofs.Mixing.{row_times-below, inv_mix_row-small}
use Rattle.aes128_block.proofs.Layers.{IsBoxedColumn}

-- doubling by a shift and a sum, computed at each byte
doubling : all_below 256 (λ b. (b * 2 % 256 ⊕ b / 128 * 27) == product 2 b) ≡ true
unfolding all_below product remainder polynomial_product
doubling = refl

pub shifted-product : (b : ℕ) → b < 256 → b * 2 % 256 ⊕ b / 128 * 27 ≡ product 2 b
shifted-product b below = eqb-true _ _ (all_below-each 256 _ doubling b below)

-- the products of the inverse matrix by doublings, computed at each byte
products_by_doubling : all_below 256 (λ b.
    ((product 2 (product 2 (product 2 b)) ⊕ product 2 (product 2 b) ⊕ product 2 b) == product 0x0e b)
    && ((product 2 (product 2 (product 2 b)) ⊕ product 2 b ⊕ b) == product 0x0b b)
    && ((product 2 (product 2 (product 2 b)) ⊕ product 2 (product 2 b) ⊕ b) == product 0x0d b)
    && ((product 2 (product 2 (product 2 b)) ⊕ b) == product 0x09 b)) ≡ true
unfolding all_below product remainder polynomial_product
products_by_doubling = refl

pub inv_products-doubled : (b x y z : ℕ) → b < 256 → x ≡ product 2 b → y ≡ product 2 x → z ≡ product 2 y
    → ◌≡◌ {A = List ℕ} ((z ⊕ y ⊕ x) ∷ (z ⊕ x ⊕ b) ∷ (z ⊕ y ⊕ b) ∷ (z ⊕ b) ∷ [])
    (product 0x0e b ∷ product 0x0b b ∷ product 0x0d b ∷ product 0x09 b ∷ [])
inv_products-doubled b x y z below x_is y_is z_is =
    let by_2 = product 2 b in
    let by_4 = product 2 by_2 in
    let by_8 = product 2 by_4 in
    let tests_4 = and_parts _ _ (all_below-each 256 _ products_by_doubling b below) in
    let tests_3 = and_parts _ _ tests_4.0 in
    let tests_2 = and_parts _ _ tests_3.0 in
    let place_0 : by_8 ⊕ by_4 ⊕ by_2 ≡ product 0x0e b = eqb-true _ _ tests_2.0 in
    let place_1 : by_8 ⊕ by_2 ⊕ b ≡ product 0x0b b = eqb-true _ _ tests_2.1 in
    let place_2 : by_8 ⊕ by_4 ⊕ b ≡ product 0x0d b = eqb-true _ _ tests_3.1 in
    let place_3 : by_8 ⊕ b ≡ product 0x09 b = eqb-true _ _ tests_4.1 in
    rw (z_is, y_is, x_is, place_0, place_1, place_2, place_3) refl

-- the rows of a column y are those of a column x through INVMIXCOLUMNS
abbrev pub IsUnmixedColumn : ℕ → ℕ → Type 0
IsUnmixedColumn y x = (r : ℕ) → r < 4 → byte r y ≡ row_times inv_mix_row r (byte 0 x) (byte 1 x) (byte 2 x) (byte 3 x)

byte-word_of-rows : (x : ℕ)
    → IsUnmixedColumn
    (word_of (row_times inv_mix_row 0 (byte 0 x) (byte 1 x) (byte 2 x) (byte 3 x))
    (row_times inv_mix_row 1 (byte 0 x) (byte 1 x) (byte 2 x) (byte 3 x))
    (row_times inv_mix_row 2 (byte 0 x) (byte 1 x) (byte 2 x) (byte 3 x))
    (row_times inv_mix_row 3 (byte 0 x) (byte 1 x) (byte 2 x) (byte 3 x))) x
byte-word_of-rows x r r_in =
    let fits = λ (r : ℕ). row_times-below inv_mix_row inv_mix_row-small r (byte 0 x) (byte 1 x) (byte 2 x) (byte 3 x)
    (byte-below 0 x) (byte-below 1 x) (byte-below 2 x) (byte-below 3 x) in
    byte-word_of (λ r. row_times inv_mix_row r (byte 0 x) (byte 1 x) (byte 2 x) (byte 3 x)) (fits 0) (fits 1) (fits 2) (fits 3) r r_in

-- a column from the products of its four bytes
pub unmixed-word_of : (x word : ℕ) (a b c d : List ℕ)
    → a ≡ map (λ place. product place (byte 0 x)) inv_mix_row → b ≡ map (λ place. product place (byte 1 x)) inv_mix_row
    → c ≡ map (λ place. product place (byte 2 x)) inv_mix_row → d ≡ map (λ place. product place (byte 3 x)) inv_mix_row
    → word ≡ word_of (slice_index a 0 ⊕ slice_index b 1 ⊕ slice_index c 2 ⊕ slice_index d 3)
    (slice_index a 3 ⊕ slice_index b 0 ⊕ slice_index c 1 ⊕ slice_index d 2)
    (slice_index a 2 ⊕ slice_index b 3 ⊕ slice_index c 0 ⊕ slice_index d 1)
    (slice_index a 1 ⊕ slice_index b 2 ⊕ slice_index c 3 ⊕ slice_index d 0)
    → IsUnmixedColumn word x
unfolding row_times circulant
unmixed-word_of x word a b c d a_is b_is c_is d_is word_is r r_in =
    rw (word_is, a_is, b_is, c_is, d_is) (byte-word_of-rows x r r_in)

pub columns_state-unmixed : (s : List ℕ) (x y z w : ℕ)
    → IsUnmixedColumn x (slice_index s 0) → IsUnmixedColumn y (slice_index s 1)
    → IsUnmixedColumn z (slice_index s 2) → IsUnmixedColumn w (slice_index s 3)
    → columns_state (x ∷ y ∷ z ∷ w ∷ []) ≡ inv_mix_columns (columns_state s)
unfolding columns_state inv_mix_columns times_matrix
columns_state-unmixed s x y z w in_x in_y in_z in_w =
    rw (
      in_x 0 (lit< tt),
      in_x 1 (lit< tt),
      in_x 2 (lit< tt),
      in_x 3 (lit< tt),
      in_y 0 (lit< tt),
      in_y 1 (lit< tt),
      in_y 2 (lit< tt),
      in_y 3 (lit< tt),
      in_z 0 (lit< tt),
      in_z 1 (lit< tt),
      in_z 2 (lit< tt),
      in_z 3 (lit< tt),
      in_w 0 (lit< tt),
      in_w 1 (lit< tt),
      in_w 2 (lit< tt),
      in_w 3 (lit< tt),
    ) refl

pub columns_state-unboxed : (s words : List ℕ) (round x y z w : ℕ)
    → IsBoxedColumn inv_s_box x (slice_index s 0) (slice_index s 3) (slice_index s 2) (slice_index s 1) (slice_index words (4 * round))
    → IsBoxedColumn inv_s_box y (slice_index s 1) (slice_index s 0) (slice_index s 3) (slice_index s 2) (slice_index words (4 * round + 1))
    → IsBoxedColumn inv_s_box z (slice_index s 2) (slice_index s 1) (slice_index s 0) (slice_index s 3) (slice_index words (4 * round + 2))
    → IsBoxedColumn inv_s_box w (slice_index s 3) (slice_index s 2) (slice_index s 1) (slice_index s 0) (slice_index words (4 * round + 3))
    → columns_state (x ∷ y ∷ z ∷ w ∷ []) ≡ add_round_key words round (inv_sub_bytes (inv_shift_rows (columns_state s)))
unfolding columns_state add_round_key inv_shift_rows inv_sub_bytes boxed_byte
columns_state-unboxed s words round x y z w in_x in_y in_z in_w =
    rw (
      in_x 0 (lit< tt),
      in_x 1 (lit< tt),
      in_x 2 (lit< tt),
      in_x 3 (lit< tt),
      in_y 0 (lit< tt),
      in_y 1 (lit< tt),
      in_y 2 (lit< tt),
      in_y 3 (lit< tt),
      in_z 0 (lit< tt),
      in_z 1 (lit< tt),
      in_z 2 (lit< tt),
      in_z 3 (lit< tt),
      in_w 0 (lit< tt),
      in_w 1 (lit< tt),
      in_w 2 (lit< tt),
      in_w 3 (lit< tt),
      add-zero (4 * round),
    ) refl
