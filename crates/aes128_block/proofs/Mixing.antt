-- Each of the matrices of MIXCOLUMNS and INVMIXCOLUMNS undoes the other.
use Rattle.std.proofs.Common.{◌≡◌, ℕ, zero, suc, ◌+◌, ◌-◌, ◌%◌, ◌<◌, Bool, true, List, [], ◌∷◌, refl, lit<, arith, slice_index}
use Rattle.std.specs.Prelude.{◌==◌, nat_lt, if◌then◌else◌}
use Rattle.std.specs.Int.Bits.{xor_zero_r}
use Rattle.std.proofs.lemmas.Bool.{eqb-true, ltb-true}
use Rattle.std.proofs.lemmas.Nat.{xor_of_8}
use Rattle.aes128_block.specs.Field.{◌⊕◌, polynomial_product, remainder, product}
use Rattle.aes128_block.specs.Cipher.{circulant, row_times, mix_row}
use Rattle.aes128_block.specs.InverseCipher.{inv_mix_row}
use Rattle.aes128_block.specs.Tables.{all_below}
use Rattle.aes128_block.proofs.TableLemmas.{all_below-each}
use Rattle.aes128_block.proofs.Sums.{exchange, product-add}

-- what byte x in row j gives to row r when a second matrix is applied and then a first one
unfoldable pub through : List ℕ → List ℕ → ℕ → ℕ → ℕ → ℕ
through first second r j x =
    row_times first r (product (circulant second 0 j) x) (product (circulant second 1 j) x) (product (circulant second 2 j) x)
    (product (circulant second 3 j) x)

-- each byte gives itself to its own row, and nothing to the others
unfoldable pub undoes : List ℕ → List ℕ → Bool
undoes first second =
    all_below 4 (λ r. all_below 4 (λ j. all_below 256 (λ x. through first second r j x == (if r == j then x else 0))))

pub inv_mix_undoes : undoes inv_mix_row mix_row ≡ true
unfolding undoes all_below through row_times circulant product remainder polynomial_product
inv_mix_undoes = refl

pub mix_undoes : undoes mix_row inv_mix_row ≡ true
unfolding undoes all_below through row_times circulant product remainder polynomial_product
mix_undoes = refl

through-undoes : (first second : List ℕ) → undoes first second ≡ true → (r j x : ℕ) → r < 4 → j < 4 → x < 256
    → through first second r j x ≡ (if r == j then x else 0)
unfolding undoes
through-undoes first second passed r j x r_in j_in x_in =
    eqb-true _ _ (all_below-each 256 _ (all_below-each 4 _ (all_below-each 4 _ passed r r_in) j j_in) x x_in)

-- a product of a sum of four
product-add_four : (m a b c d : ℕ) → product m (a ⊕ b ⊕ c ⊕ d) ≡ product m a ⊕ product m b ⊕ product m c ⊕ product m d
product-add_four m a b c d = rw (product-add m (a ⊕ b ⊕ c) d, product-add m (a ⊕ b) c, product-add m a b) refl

-- two sums of four, term by term
add_fours : (a b c d e f g h : ℕ) → (a ⊕ b ⊕ c ⊕ d) ⊕ (e ⊕ f ⊕ g ⊕ h) ≡ (a ⊕ e) ⊕ (b ⊕ f) ⊕ (c ⊕ g) ⊕ (d ⊕ h)
add_fours a b c d e f g h = rw (exchange (a ⊕ b ⊕ c) d (e ⊕ f ⊕ g) h, exchange (a ⊕ b) c (e ⊕ f) g, exchange a b e f) refl

-- four sums of four, term by term
add_four_fours : (a b c d e f g h i j k l m n o p : ℕ)
    → (a ⊕ b ⊕ c ⊕ d) ⊕ (e ⊕ f ⊕ g ⊕ h) ⊕ (i ⊕ j ⊕ k ⊕ l) ⊕ (m ⊕ n ⊕ o ⊕ p)
    ≡ (a ⊕ e ⊕ i ⊕ m) ⊕ (b ⊕ f ⊕ j ⊕ n) ⊕ (c ⊕ g ⊕ k ⊕ o) ⊕ (d ⊕ h ⊕ l ⊕ p)
add_four_fours a b c d e f g h i j k l m n o p =
    rw (
      add_fours a b c d e f g h,
      add_fours (a ⊕ e) (b ⊕ f) (c ⊕ g) (d ⊕ h) i j k l,
      add_fours (a ⊕ e ⊕ i) (b ⊕ f ⊕ j) (c ⊕ g ⊕ k) (d ⊕ h ⊕ l) m n o p,
    ) refl

-- one matrix after the other, byte by byte
row_times-row_times : (first second : List ℕ) (r a b c d : ℕ)
    → row_times first r (row_times second 0 a b c d) (row_times second 1 a b c d) (row_times second 2 a b c d) (row_times second 3 a b c d)
    ≡ through first second r 0 a ⊕ through first second r 1 b ⊕ through first second r 2 c ⊕ through first second r 3 d
unfolding through row_times
row_times-row_times first second r a b c d =
    let part = λ (k j x : ℕ). product (circulant first r k) (product (circulant second k j) x) in
    simp product-add_four
    (add_four_fours (part 0 0 a) (part 0 1 b) (part 0 2 c) (part 0 3 d) (part 1 0 a) (part 1 1 b) (part 1 2 c) (part 1 3 d)
    (part 2 0 a) (part 2 1 b) (part 2 2 c) (part 2 3 d) (part 3 0 a) (part 3 1 b) (part 3 2 c) (part 3 3 d))

-- the row that is left of the four
one_row : (r a b c d : ℕ) → r < 4
    → (if r == 0 then a else 0) ⊕ (if r == 1 then b else 0) ⊕ (if r == 2 then c else 0) ⊕ (if r == 3 then d else 0)
    ≡ slice_index (a ∷ b ∷ c ∷ d ∷ []) r
one_row zero a b c d r_in = rw (xor_zero_r a, xor_zero_r a) (xor_zero_r a)
one_row (suc zero) a b c d r_in = rw (xor_zero_r b) (xor_zero_r b)
one_row (suc (suc zero)) a b c d r_in = xor_zero_r c
one_row (suc (suc (suc zero))) a b c d r_in = refl
one_row (suc (suc (suc (suc r)))) a b c d r_in = absurd (omega arith)

-- a matrix that undoes another gives each row of a column back
pub row_times-undoes : (first second : List ℕ) → undoes first second ≡ true → (r a b c d : ℕ) → r < 4
    → a < 256 → b < 256 → c < 256 → d < 256
    → row_times first r (row_times second 0 a b c d) (row_times second 1 a b c d) (row_times second 2 a b c d) (row_times second 3 a b c d)
    ≡ slice_index (a ∷ b ∷ c ∷ d ∷ []) r
row_times-undoes first second passed r a b c d r_in a_in b_in c_in d_in =
    let part = λ (j x : ℕ) (j_in : j < 4) (x_in : x < 256). through-undoes first second passed r j x r_in j_in x_in in
    rw (
      row_times-row_times first second r a b c d,
      part 0 a (lit< tt) a_in,
      part 1 b (lit< tt) b_in,
      part 2 c (lit< tt) c_in,
      part 3 d (lit< tt) d_in,
    ) (one_row r a b c d r_in)

-- products by the places of the two matrices are bytes, computed
product_table : all_below 16 (λ m. all_below 256 (λ x. nat_lt (product m x) 256)) ≡ true
unfolding all_below product remainder polynomial_product
product_table = refl

pub product-below : (m x : ℕ) → m < 16 → x < 256 → product m x < 256
product-below m x m_in x_in = ltb-true _ _ (all_below-each 256 _ (all_below-each 16 _ product_table m m_in) x x_in)

-- a row of such a matrix times four bytes is a byte
pub row_times-below : (first : List ℕ) → ((i : ℕ) → slice_index first i < 16) → (r a b c d : ℕ)
    → a < 256 → b < 256 → c < 256 → d < 256 → row_times first r a b c d < 256
unfolding row_times circulant
row_times-below first small r a b c d a_in b_in c_in d_in =
    let part = λ (k x : ℕ) (x_in : x < 256). product-below (circulant first r k) x (small ((k + 4 - r) % 4)) x_in in
    xor_of_8 _ _ (xor_of_8 _ _ (xor_of_8 _ _ (part 0 a a_in) (part 1 b b_in)) (part 2 c c_in)) (part 3 d d_in)

-- the places of both matrices are small
pub mix_row-small : (i : ℕ) → slice_index mix_row i < 16
mix_row-small zero = lit< tt
mix_row-small (suc zero) = lit< tt
mix_row-small (suc (suc zero)) = lit< tt
mix_row-small (suc (suc (suc zero))) = lit< tt
mix_row-small (suc (suc (suc (suc i)))) = lit< tt

pub inv_mix_row-small : (i : ℕ) → slice_index inv_mix_row i < 16
inv_mix_row-small zero = lit< tt
inv_mix_row-small (suc zero) = lit< tt
inv_mix_row-small (suc (suc zero)) = lit< tt
inv_mix_row-small (suc (suc (suc zero))) = lit< tt
inv_mix_row-small (suc (suc (suc (suc i)))) = lit< tt
