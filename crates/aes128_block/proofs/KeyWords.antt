-- The key schedule, word by word.
use Rattle.std.proofs.Common.{◌≡◌, ℕ, zero, suc, ◌+◌, ◌-◌, ◌<◌, ◌∙◌, List, [], ◌∷◌, ◌++◌, length, take, set, get_or, refl, sym, ap, subst, slice_index, arith, add-one}
use Rattle.std.proofs.Math.Seq.{take-suc-set}
use Rattle.std.proofs.lemmas.List.{get_or-take, take_all}
use Rattle.aes128_block.specs.Field.{◌⊕◌}
use Rattle.aes128_block.specs.Word.{column, columns_state}
use Rattle.aes128_block.specs.KeyExpansion.{temp, next_word, first_words, key_expansion}
use Rattle.aes128_block.proofs.Bytes.{columns_state-column}

-- one more word
pub first_words-add_one : (key : List ℕ) (n : ℕ)
    → first_words key (n + 1) ≡ first_words key n ++ next_word (first_words key n) (n + 4) ∷ []
unfolding first_words
first_words-add_one key n =
    let P : ℕ → Type 0 = λ m. first_words key m ≡ first_words key n ++ next_word (first_words key n) (n + 4) ∷ [] in
    subst P (sym (add-one n)) refl

-- the next word written into an array whose first words are right
pub take-set-next_word : (key words : List ℕ) (n v : ℕ) → n + 4 < length words → take (n + 4) words ≡ first_words key n
    → v ≡ slice_index words (n + 4 - 4) ⊕ temp (n + 4) (slice_index words (n + 4 - 1))
    → take (n + 1 + 4) (set words (n + 4) v) ≡ first_words key (n + 1)
unfolding next_word
take-set-next_word key words n v fits before v_is =
    let count : n + 1 + 4 ≡ suc (n + 4) = omega arith in
    let four_back = get_or-take (n + 4) words (n + 4 - 4) 0 (omega arith) in
    let one_back = get_or-take (n + 4) words (n + 4 - 1) 0 (omega arith) in
    rw (count, take-suc-set words (n + 4) v fits, first_words-add_one key n, ← before, four_back, one_back, v_is) refl

-- more words leave the first four as they are, the key's columns
first_words-key : (key : List ℕ) (n : ℕ)
    → (rest : List ℕ) × (first_words key n ≡ column key 0 ∷ column key 1 ∷ column key 2 ∷ column key 3 ∷ rest)
unfolding first_words
first_words-key key zero = ([], refl)
first_words-key key (suc n) =
    let (rest, is) = first_words-key key n in
    (rest ++ next_word (first_words key n) (n + 4) ∷ [], ap (λ w. w ++ next_word (first_words key n) (n + 4) ∷ []) is)

-- the schedule begins with the key
pub columns_state-key_expansion : (key : List ℕ) → length key ≡ 16 → ((i : ℕ) → get_or key i 0 < 256)
    → columns_state (key_expansion key) ≡ key
unfolding columns_state key_expansion
columns_state-key_expansion key long fits =
    let (rest, is) = first_words-key key 40 in rw is (columns_state-column key long fits)

-- an array of 44 words whose first 44 are right is the schedule
pub key_expansion-words : (key words : List ℕ) → length words ≡ 44 → take 44 words ≡ first_words key 40
    → words ≡ key_expansion key
unfolding key_expansion
key_expansion-words key words long are_right = sym (take_all 44 words (omega arith)) ∙ are_right
