-- The inverse cipher undoes the cipher, layer by layer, and is undone by it.
use Rattle.std.proofs.Common.{◌≡◌, ℕ, zero, suc, ◌+◌, ◌*◌, ◌%◌, ◌<◌, true, List, [], ◌∷◌, refl, ◌∙◌, lit<, arith, slice_index}
use Rattle.std.proofs.lemmas.Nat.{xor_of_8}
use Rattle.aes128_block.specs.Field.{◌⊕◌}
use Rattle.aes128_block.specs.SBox.{s_box}
use Rattle.aes128_block.specs.Word.{byte, at, state_of, IsBlock}
use Rattle.aes128_block.specs.Cipher.{sub_bytes, shift_rows, row_times, times_matrix, mix_row, mix_columns, add_round_key, after_rounds, cipher}
use Rattle.aes128_block.specs.InverseCipher.{inv_shift_rows, inv_s_box, inv_sub_bytes, inv_mix_row, inv_mix_columns, before_rounds, inv_cipher}
use Rattle.aes128_block.proofs.Bytes.{state_of-at, byte-below}
use Rattle.aes128_block.proofs.Sums.{add_twice}
use Rattle.aes128_block.proofs.Boxes.{s_box-below, inv_s_box-below, inv_s_box-s_box, s_box-inv_s_box}
use Rattle.aes128_block.proofs.Mixing.{undoes, inv_mix_undoes, mix_undoes, row_times-undoes, row_times-below, mix_row-small, inv_mix_row-small}

-- a state that is a block at each row and column is that block
state_of-block : (f : ℕ → ℕ → ℕ) (s : List ℕ) → IsBlock s → ((r c : ℕ) → r < 4 → f r c ≡ at s r c) → state_of f ≡ s
state_of-block f s block same =
    rw (
      same 0 0 (lit< tt),
      same 1 0 (lit< tt),
      same 2 0 (lit< tt),
      same 3 0 (lit< tt),
      same 0 1 (lit< tt),
      same 1 1 (lit< tt),
      same 2 1 (lit< tt),
      same 3 1 (lit< tt),
      same 0 2 (lit< tt),
      same 1 2 (lit< tt),
      same 2 2 (lit< tt),
      same 3 2 (lit< tt),
      same 0 3 (lit< tt),
      same 1 3 (lit< tt),
      same 2 3 (lit< tt),
      same 3 3 (lit< tt),
    ) (state_of-at s block.long)

-- each element of a list is a byte
record AreBytes (xs : List ℕ) : Type 0 where
  each : (i : ℕ) → slice_index xs i < 256

AreBytes-nil : AreBytes []
AreBytes-nil = record { each = λ i. lit< tt }

cons-each : (x : ℕ) (xs : List ℕ) → x < 256 → ((i : ℕ) → slice_index xs i < 256) → (i : ℕ) → slice_index (x ∷ xs) i < 256
cons-each x xs fits rest zero = fits
cons-each x xs fits rest (suc i) = rest i

AreBytes-cons : {x : ℕ} {xs : List ℕ} → x < 256 → AreBytes xs → AreBytes (x ∷ xs)
AreBytes-cons {x} {xs} fits rest = record { each = cons-each x xs fits rest.each }

-- sixteen bytes are a block
IsBlock-state_of : (f : ℕ → ℕ → ℕ) → ((r c : ℕ) → r < 4 → f r c < 256) → IsBlock (state_of f)
IsBlock-state_of f fits =
    let row_0 = λ (c : ℕ). fits 0 c (lit< tt) in
    let row_1 = λ (c : ℕ). fits 1 c (lit< tt) in
    let row_2 = λ (c : ℕ). fits 2 c (lit< tt) in
    let row_3 = λ (c : ℕ). fits 3 c (lit< tt) in
    let column = λ (c : ℕ) (xs : List ℕ) (rest : AreBytes xs).
    AreBytes-cons (row_0 c) (AreBytes-cons (row_1 c) (AreBytes-cons (row_2 c) (AreBytes-cons (row_3 c) rest))) in
    record { long = refl; bytes = (column 0 _ (column 1 _ (column 2 _ (column 3 _ AreBytes-nil)))).each }

-- ADDROUNDKEY keeps a block, and undoes itself
IsBlock-add_round_key : (w : List ℕ) (n : ℕ) (s : List ℕ) → IsBlock s → IsBlock (add_round_key w n s)
unfolding add_round_key
IsBlock-add_round_key w n s block =
    IsBlock-state_of (λ r c. at s r c ⊕ byte r (slice_index w (4 * n + c)))
    (λ r c r_in. xor_of_8 _ _ (block.bytes (r + 4 * c)) (byte-below r (slice_index w (4 * n + c))))

add_round_key-twice : (w : List ℕ) (n : ℕ) (s : List ℕ) → IsBlock s → add_round_key w n (add_round_key w n s) ≡ s
unfolding add_round_key
add_round_key-twice w n s block =
    let key = λ (r c : ℕ). byte r (slice_index w (4 * n + c)) in
    state_of-block (λ r c. at s r c ⊕ key r c ⊕ key r c) s block (λ r c r_in. add_twice (at s r c) (key r c))

-- SUBBYTES and SHIFTROWS, and their inverses
IsBlock-sub_bytes : (s : List ℕ) → IsBlock (sub_bytes s)
unfolding sub_bytes
IsBlock-sub_bytes s = IsBlock-state_of (λ r c. s_box (at s r c)) (λ r c r_in. s_box-below (at s r c))

IsBlock-inv_sub_bytes : (s : List ℕ) → IsBlock (inv_sub_bytes s)
unfolding inv_sub_bytes
IsBlock-inv_sub_bytes s = IsBlock-state_of (λ r c. inv_s_box (at s r c)) (λ r c r_in. inv_s_box-below (at s r c))

IsBlock-shift_rows : (s : List ℕ) → IsBlock s → IsBlock (shift_rows s)
unfolding shift_rows
IsBlock-shift_rows s block = IsBlock-state_of (λ r c. at s r ((c + r) % 4)) (λ r c r_in. block.bytes _)

substitution-undone : (s : List ℕ) → IsBlock s → inv_sub_bytes (inv_shift_rows (shift_rows (sub_bytes s))) ≡ s
unfolding sub_bytes shift_rows inv_shift_rows inv_sub_bytes
substitution-undone s block =
    state_of-block (λ r c. inv_s_box (s_box (at s r c))) s block (λ r c r_in. inv_s_box-s_box (at s r c) (block.bytes (r + 4 * c)))

substitution-redone : (s : List ℕ) → IsBlock s → shift_rows (sub_bytes (inv_sub_bytes (inv_shift_rows s))) ≡ s
unfolding sub_bytes shift_rows inv_shift_rows inv_sub_bytes
substitution-redone s block =
    state_of-block (λ r c. s_box (inv_s_box (at s r c))) s block (λ r c r_in. s_box-inv_s_box (at s r c) (block.bytes (r + 4 * c)))

-- the matrices of MIXCOLUMNS and INVMIXCOLUMNS
IsBlock-times_matrix : (first : List ℕ) → ((i : ℕ) → slice_index first i < 16) → (s : List ℕ) → IsBlock s
    → IsBlock (times_matrix first s)
unfolding times_matrix
IsBlock-times_matrix first small s block =
    IsBlock-state_of (λ r c. row_times first r (at s 0 c) (at s 1 c) (at s 2 c) (at s 3 c))
    (λ r c r_in. row_times-below first small r (at s 0 c) (at s 1 c) (at s 2 c) (at s 3 c)
    (block.bytes (0 + 4 * c)) (block.bytes (1 + 4 * c)) (block.bytes (2 + 4 * c)) (block.bytes (3 + 4 * c)))

column_row : (s : List ℕ) (c r : ℕ) → r < 4 → slice_index (at s 0 c ∷ at s 1 c ∷ at s 2 c ∷ at s 3 c ∷ []) r ≡ at s r c
column_row s c zero r_in = refl
column_row s c (suc zero) r_in = refl
column_row s c (suc (suc zero)) r_in = refl
column_row s c (suc (suc (suc zero))) r_in = refl
column_row s c (suc (suc (suc (suc r)))) r_in = absurd (omega arith)

times_matrix-undoes : (first second : List ℕ) → undoes first second ≡ true → (s : List ℕ) → IsBlock s
    → times_matrix first (times_matrix second s) ≡ s
unfolding times_matrix
times_matrix-undoes first second passed s block =
    let back = λ (r c : ℕ) (r_in : r < 4).
    row_times-undoes first second passed r (at s 0 c) (at s 1 c) (at s 2 c) (at s 3 c) r_in
    (block.bytes (0 + 4 * c)) (block.bytes (1 + 4 * c)) (block.bytes (2 + 4 * c)) (block.bytes (3 + 4 * c))
    ∙ column_row s c r r_in in
    state_of-block (λ r c. row_times first r
    (row_times second 0 (at s 0 c) (at s 1 c) (at s 2 c) (at s 3 c))
    (row_times second 1 (at s 0 c) (at s 1 c) (at s 2 c) (at s 3 c))
    (row_times second 2 (at s 0 c) (at s 1 c) (at s 2 c) (at s 3 c))
    (row_times second 3 (at s 0 c) (at s 1 c) (at s 2 c) (at s 3 c))) s block back

IsBlock-mix_columns : (s : List ℕ) → IsBlock s → IsBlock (mix_columns s)
unfolding mix_columns
IsBlock-mix_columns = IsBlock-times_matrix mix_row mix_row-small

IsBlock-inv_mix_columns : (s : List ℕ) → IsBlock s → IsBlock (inv_mix_columns s)
unfolding inv_mix_columns
IsBlock-inv_mix_columns = IsBlock-times_matrix inv_mix_row inv_mix_row-small

inv_mix_columns-mix_columns : (s : List ℕ) → IsBlock s → inv_mix_columns (mix_columns s) ≡ s
unfolding mix_columns inv_mix_columns
inv_mix_columns-mix_columns = times_matrix-undoes inv_mix_row mix_row inv_mix_undoes

mix_columns-inv_mix_columns : (s : List ℕ) → IsBlock s → mix_columns (inv_mix_columns s) ≡ s
unfolding mix_columns inv_mix_columns
mix_columns-inv_mix_columns = times_matrix-undoes mix_row inv_mix_row mix_undoes

-- ---- the rounds

-- the state that n rounds with a matrix, and then SUBBYTES and SHIFTROWS, give
substituted : List ℕ → ℕ → List ℕ → List ℕ
substituted w n block = shift_rows (sub_bytes (after_rounds w n block))

IsBlock-substituted : (w : List ℕ) (n : ℕ) (block : List ℕ) → IsBlock (substituted w n block)
unfolding substituted
IsBlock-substituted w n block = IsBlock-shift_rows _ (IsBlock-sub_bytes (after_rounds w n block))

rounds-undone : (w : List ℕ) (n : ℕ) (block : List ℕ) → IsBlock block → before_rounds w n (substituted w n block) ≡ block
unfolding substituted after_rounds before_rounds
rounds-undone w zero block is_block =
    rw (substitution-undone (add_round_key w 0 block) (IsBlock-add_round_key w 0 block is_block))
    (add_round_key-twice w 0 block is_block)
rounds-undone w (suc n) block is_block =
    let before = substituted w n block in
    let mixed = IsBlock-mix_columns before (IsBlock-substituted w n block) in
    rw (
      substitution-undone (add_round_key w (n + 1) (mix_columns before)) (IsBlock-add_round_key w (n + 1) (mix_columns before) mixed),
      add_round_key-twice w (n + 1) (mix_columns before) mixed,
      inv_mix_columns-mix_columns before (IsBlock-substituted w n block),
    ) (rounds-undone w n block is_block)

rounds-redone : (w : List ℕ) (n : ℕ) (s : List ℕ) → IsBlock s → substituted w n (before_rounds w n s) ≡ s
unfolding substituted after_rounds before_rounds
rounds-redone w zero s is_block =
    rw (add_round_key-twice w 0 (inv_sub_bytes (inv_shift_rows s)) (IsBlock-inv_sub_bytes (inv_shift_rows s)))
    (substitution-redone s is_block)
rounds-redone w (suc n) s is_block =
    let early = inv_sub_bytes (inv_shift_rows s) in
    let keyed = add_round_key w (n + 1) early in
    let early_block = IsBlock-inv_sub_bytes (inv_shift_rows s) in
    let keyed_block = IsBlock-add_round_key w (n + 1) early early_block in
    rw (
      rounds-redone w n (inv_mix_columns keyed) (IsBlock-inv_mix_columns keyed keyed_block),
      mix_columns-inv_mix_columns keyed keyed_block,
      add_round_key-twice w (n + 1) early early_block,
    )
    (substitution-redone s is_block)

-- the inverse cipher undoes the cipher
pub inv_cipher-cipher : (w block : List ℕ) → IsBlock block → inv_cipher w (cipher w block) ≡ block
unfolding substituted cipher inv_cipher
inv_cipher-cipher w block is_block =
    rw (add_round_key-twice w 10 (substituted w 9 block) (IsBlock-substituted w 9 block)) (rounds-undone w 9 block is_block)

-- the cipher undoes the inverse cipher
pub cipher-inv_cipher : (w block : List ℕ) → IsBlock block → cipher w (inv_cipher w block) ≡ block
unfolding substituted cipher inv_cipher
cipher-inv_cipher w block is_block =
    rw (rounds-redone w 9 (add_round_key w 10 block) (IsBlock-add_round_key w 10 block is_block))
    (add_round_key-twice w 10 block is_block)
