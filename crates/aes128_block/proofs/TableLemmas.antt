-- What the tables' test says at each byte, and a round's column from them.
use Rattle.std.proofs.Common.{◌≡◌, ℕ, zero, suc, ◌<◌, Bool, true, List, arith, slice_index}
use Rattle.std.proofs.lemmas.Bool.{and_parts, eqb-true}
use Rattle.std.specs.Prelude.{◌==◌}
use borrow.Author.Count.{below_more}
use Rattle.aes128_block.specs.Field.{◌⊕◌}
use Rattle.aes128_block.specs.SBox.{s_box}
use Rattle.aes128_block.specs.Word.{byte}
use Rattle.aes128_block.specs.Tables.{all_below, share, has_shares, are_right_at, are_right, round_byte, is_inv_s_box}
use Rattle.aes128_block.specs.InverseCipher.{inv_s_box}
use Rattle.aes128_block.specs.declared.tables.Tables.{Tables}
use Rattle.aes128_block.proofs.Bytes.{byte-xor, byte-below}

-- a test that passes at each number below n passes at any one of them
pub all_below-each : (n : ℕ) (p : ℕ → Bool) → all_below n p ≡ true → (i : ℕ) → i < n → p i ≡ true
unfolding all_below
all_below-each zero p passed i below = absurd (omega arith)
all_below-each (suc n) p passed i below =
    let parts = and_parts (p n) (all_below n p) passed in
    below_more (λ k. p k ≡ true) n (all_below-each n p parts.1) parts.0 i (omega arith)

-- the bytes of a word that passes the test of row k and byte b
pub has_shares-each : (k b x : ℕ) → has_shares k b x ≡ true → (r : ℕ) → r < 4 → byte r x ≡ share k r b
unfolding has_shares
has_shares-each k b x passed r below =
    eqb-true (byte r x) (share k r b) (all_below-each 4 (λ r. byte r x == share k r b) passed r below)

-- the tables at a byte n: the S-box, and what its byte gives to each row
pub record IsRightAt (t : Tables) (n : ℕ) : Type 0 where
  pub box : slice_index t.s_box n ≡ s_box n
  pub from_0 : (r : ℕ) → r < 4 → byte r (slice_index t.round_0 n) ≡ share 0 r (s_box n)
  pub from_1 : (r : ℕ) → r < 4 → byte r (slice_index t.round_1 n) ≡ share 1 r (s_box n)
  pub from_2 : (r : ℕ) → r < 4 → byte r (slice_index t.round_2 n) ≡ share 2 r (s_box n)
  pub from_3 : (r : ℕ) → r < 4 → byte r (slice_index t.round_3 n) ≡ share 3 r (s_box n)

pub right_at : (t : Tables) → are_right t ≡ true → (n : ℕ) → n < 256 → IsRightAt t n
unfolding are_right are_right_at
right_at t right n below =
    let at_n = all_below-each 256 (are_right_at t) right n below in
    let parts_3 = and_parts _ _ at_n in
    let parts_2 = and_parts _ _ parts_3.0 in
    let parts_1 = and_parts _ _ parts_2.0 in
    let parts_0 = and_parts _ _ parts_1.0 in
    let box : slice_index t.s_box n ≡ s_box n = eqb-true _ _ parts_0.0 in
    record {
      box = box;
      from_0 = λ r in_word. rw (← box) (has_shares-each 0 _ _ parts_0.1 r in_word);
      from_1 = λ r in_word. rw (← box) (has_shares-each 1 _ _ parts_1.1 r in_word);
      from_2 = λ r in_word. rw (← box) (has_shares-each 2 _ _ parts_2.1 r in_word);
      from_3 = λ r in_word. rw (← box) (has_shares-each 3 _ _ parts_3.1 r in_word);
    }

-- row r of a round's column from the words that the tables have for its four bytes
round_byte-words : (r a b c d key x y z w : ℕ)
    → byte r x ≡ share 0 r (s_box (byte 0 a)) → byte r y ≡ share 1 r (s_box (byte 1 b))
    → byte r z ≡ share 2 r (s_box (byte 2 c)) → byte r w ≡ share 3 r (s_box (byte 3 d))
    → byte r (x ⊕ y ⊕ z ⊕ w ⊕ key) ≡ round_byte r a b c d key
unfolding round_byte
round_byte-words r a b c d key x y z w from_0 from_1 from_2 from_3 = simp (byte-xor, from_0, from_1, from_2, from_3)

-- the same with the tables read at places that are the four bytes
pub round_byte-tables : (t : Tables) → are_right t ≡ true → (a b c d key i j k l : ℕ)
    → i ≡ byte 0 a → j ≡ byte 1 b → k ≡ byte 2 c → l ≡ byte 3 d → (r : ℕ) → r < 4
    → byte r (slice_index t.round_0 i ⊕ slice_index t.round_1 j ⊕ slice_index t.round_2 k ⊕ slice_index t.round_3 l ⊕ key)
    ≡ round_byte r a b c d key
round_byte-tables t right a b c d key i j k l i_is j_is k_is l_is r in_word =
    rw (i_is, j_is, k_is, l_is)
    (round_byte-words r a b c d key _ _ _ _
    ((right_at t right (byte 0 a) (byte-below 0 a)).from_0 r in_word)
    ((right_at t right (byte 1 b) (byte-below 1 b)).from_1 r in_word)
    ((right_at t right (byte 2 c) (byte-below 2 c)).from_2 r in_word)
    ((right_at t right (byte 3 d) (byte-below 3 d)).from_3 r in_word))

-- a list that passes has the inverse of the S-box at each byte
pub is_inv_s_box-each : (box : List ℕ) → is_inv_s_box box ≡ true → (n : ℕ) → n < 256 → slice_index box n ≡ inv_s_box n
unfolding is_inv_s_box
is_inv_s_box-each box passed n below = eqb-true _ _ (all_below-each 256 _ passed n below)
