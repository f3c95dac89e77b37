-- What the code keeps in tables, and a column of a round as the code makes it.
use Rattle.std.specs.Prelude.{ℕ, zero, suc, ◌==◌, ◌&&◌, Bool, true, List, [], ◌∷◌, slice_index}
use Rattle.aes128_block.specs.Field.{◌⊕◌, product}
use Rattle.aes128_block.specs.SBox.{s_box}
use Rattle.aes128_block.specs.Word.{byte}
use Rattle.aes128_block.specs.Cipher.{circulant, mix_row}
use Rattle.aes128_block.specs.InverseCipher.{inv_s_box}
use Rattle.aes128_block.specs.declared.tables.Tables.{Tables}

-- a test passes at each number below n
unfoldable pub all_below : ℕ → (ℕ → Bool) → Bool
all_below zero p = true
all_below (suc n) p = p n && all_below n p

-- what byte b in row k of a column gives to row r of the column times the matrix
unfoldable pub share : ℕ → ℕ → ℕ → ℕ
share k r b = product (circulant mix_row r k) b

-- each byte of word x is what byte b in row k gives to that row
unfoldable pub has_shares : ℕ → ℕ → ℕ → Bool
has_shares k b x = all_below 4 (λ r. byte r x == share k r b)

-- the tables are right at place n: the S-box, and the others by what its byte gives from each row
unfoldable pub are_right_at : Tables → ℕ → Bool
are_right_at t n =
    (slice_index t.s_box n == s_box n)
    && has_shares 0 (slice_index t.s_box n) (slice_index t.round_0 n)
    && has_shares 1 (slice_index t.s_box n) (slice_index t.round_1 n)
    && has_shares 2 (slice_index t.s_box n) (slice_index t.round_2 n)
    && has_shares 3 (slice_index t.s_box n) (slice_index t.round_3 n)

-- the tables are right at each byte
unfoldable pub are_right : Tables → Bool
are_right t = all_below 256 (are_right_at t)

-- row r of a column of a round with the matrix, from the columns that bring its bytes and a key word
unfoldable pub round_byte : ℕ → ℕ → ℕ → ℕ → ℕ → ℕ → ℕ
round_byte r a b c d key =
    share 0 r (s_box (byte 0 a)) ⊕ share 1 r (s_box (byte 1 b))
    ⊕ share 2 r (s_box (byte 2 c)) ⊕ share 3 r (s_box (byte 3 d)) ⊕ byte r key

-- row r of a column through a box, from the four columns that bring its bytes, and a key word
unfoldable pub boxed_byte : (ℕ → ℕ) → ℕ → ℕ → ℕ → ℕ → ℕ → ℕ → ℕ
boxed_byte box r a b c d key = box (byte r (slice_index (a ∷ b ∷ c ∷ d ∷ []) r)) ⊕ byte r key

-- a list has the inverse of the S-box at each byte
unfoldable pub is_inv_s_box : List ℕ → Bool
is_inv_s_box box = all_below 256 (λ n. slice_index box n == inv_s_box n)
