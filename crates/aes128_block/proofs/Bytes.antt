-- Bytes of words.
use Rattle.std.proofs.Common.{◌≡◌, ℕ, zero, suc, ◌*◌, ◌/◌, ◌%◌, ◌^◌, ◌<◌, List, [], ◌∷◌, length, get_or, refl, ap, ◌∙◌, arith}
use Rattle.std.proofs.lemmas.Nat.{xor_shr, xor_mod}
use Rattle.aes128_block.specs.Field.{◌⊕◌}
use Rattle.aes128_block.specs.Word.{byte, word_of, at, state_of, column, columns_state}

-- each byte of an xor is the xor of the bytes
pub byte-xor : (r x y : ℕ) → byte r (x ⊕ y) ≡ byte r x ⊕ byte r y
unfolding byte
byte-xor r x y = ap (λ n. n % 256) (xor_shr x y (8 * r)) ∙ xor_mod (x / 2 ^ (8 * r)) (y / 2 ^ (8 * r)) 8

-- the bytes of a word of four bytes
pub byte-0-word_of : (a b c d : ℕ) → a < 256 → b < 256 → c < 256 → d < 256 → byte 0 (word_of a b c d) ≡ a
unfolding byte word_of
byte-0-word_of a b c d a_fits b_fits c_fits d_fits = omega arith

pub byte-1-word_of : (a b c d : ℕ) → a < 256 → b < 256 → c < 256 → d < 256 → byte 1 (word_of a b c d) ≡ b
unfolding byte word_of
byte-1-word_of a b c d a_fits b_fits c_fits d_fits = omega arith

pub byte-2-word_of : (a b c d : ℕ) → a < 256 → b < 256 → c < 256 → d < 256 → byte 2 (word_of a b c d) ≡ c
unfolding byte word_of
byte-2-word_of a b c d a_fits b_fits c_fits d_fits = omega arith

pub byte-3-word_of : (a b c d : ℕ) → a < 256 → b < 256 → c < 256 → d < 256 → byte 3 (word_of a b c d) ≡ d
unfolding byte word_of
byte-3-word_of a b c d a_fits b_fits c_fits d_fits = omega arith

pub byte-below : (r w : ℕ) → byte r w < 256
unfolding byte
byte-below r w = omega arith

-- the same row by row
pub byte-word_of : (f : ℕ → ℕ) → f 0 < 256 → f 1 < 256 → f 2 < 256 → f 3 < 256 → (r : ℕ) → r < 4
    → byte r (word_of (f 0) (f 1) (f 2) (f 3)) ≡ f r
byte-word_of f fits_0 fits_1 fits_2 fits_3 zero in_word = byte-0-word_of (f 0) (f 1) (f 2) (f 3) fits_0 fits_1 fits_2 fits_3
byte-word_of f fits_0 fits_1 fits_2 fits_3 (suc zero) in_word = byte-1-word_of (f 0) (f 1) (f 2) (f 3) fits_0 fits_1 fits_2 fits_3
byte-word_of f fits_0 fits_1 fits_2 fits_3 (suc (suc zero)) in_word =
    byte-2-word_of (f 0) (f 1) (f 2) (f 3) fits_0 fits_1 fits_2 fits_3
byte-word_of f fits_0 fits_1 fits_2 fits_3 (suc (suc (suc zero))) in_word =
    byte-3-word_of (f 0) (f 1) (f 2) (f 3) fits_0 fits_1 fits_2 fits_3
byte-word_of f fits_0 fits_1 fits_2 fits_3 (suc (suc (suc (suc r)))) in_word = absurd (omega arith)

-- a list of sixteen numbers, from its rows and columns
pub state_of-at : (s : List ℕ) → length s ≡ 16 → state_of (at s) ≡ s
state_of-at (a ∷ b ∷ c ∷ d ∷ e ∷ f ∷ g ∷ h ∷ i ∷ j ∷ k ∷ l ∷ m ∷ n ∷ o ∷ p ∷ []) long = refl
state_of-at _ long = absurd (omega (arith, long))

-- the columns of a block make it
pub columns_state-column : (s : List ℕ) → length s ≡ 16 → ((i : ℕ) → get_or s i 0 < 256)
    → columns_state (column s 0 ∷ column s 1 ∷ column s 2 ∷ column s 3 ∷ []) ≡ s
unfolding columns_state column
columns_state-column s long fits =
    let row_0 = λ (c : ℕ). byte-0-word_of (at s 0 c) (at s 1 c) (at s 2 c) (at s 3 c) (fits _) (fits _) (fits _) (fits _) in
    let row_1 = λ (c : ℕ). byte-1-word_of (at s 0 c) (at s 1 c) (at s 2 c) (at s 3 c) (fits _) (fits _) (fits _) (fits _) in
    let row_2 = λ (c : ℕ). byte-2-word_of (at s 0 c) (at s 1 c) (at s 2 c) (at s 3 c) (fits _) (fits _) (fits _) (fits _) in
    let row_3 = λ (c : ℕ). byte-3-word_of (at s 0 c) (at s 1 c) (at s 2 c) (at s 3 c) (fits _) (fits _) (fits _) (fits _) in
    rw (
      row_0 0,
      row_1 0,
      row_2 0,
      row_3 0,
      row_0 1,
      row_1 1,
      row_2 1,
      row_3 1,
      row_0 2,
      row_1 2,
      row_2 2,
      row_3 2,
      row_0 3,
      row_1 3,
      row_2 3,
      row_3 3,
    ) (state_of-at s long)
