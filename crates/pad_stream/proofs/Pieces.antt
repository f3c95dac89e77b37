-- How counter blocks and pads are put together.
use Rattle.std.proofs.Common.{◌≡◌, ℕ, ◌+◌, List, [], ◌∷◌, ◌++◌, length, take, refl, ap, sym, ◌∙◌, arith, w32, w64}
use Rattle.std.proofs.lemmas.List.{take_all}
use Rattle.std.specs.Int.{to_le_bytes}
use Rattle.sec_base.specs.declared.counter.Counter.{Counter}
use Rattle.sec_base.proofs.MessageBytes.{put_behind}
use Rattle.aes128_block.specs.KeyExpansion.{encrypted}
use Rattle.pad_stream.specs.Pad.{pad_input, pad_block, pad_of}

-- three pieces make a counter block
pub input_put : (line block : ℕ) (counter : Counter) (number count first second input : List ℕ) →
    number ≡ to_le_bytes w32 line → count ≡ to_le_bytes w64 counter.page → length input ≡ 16 →
    take (0 + length number) first ≡ number →
    take (4 + length count) second ≡ take 4 first ++ count →
    take 16 input ≡ take 12 second ++ counter.line ∷ block ∷ 0 ∷ 0 ∷ [] →
    input ≡ pad_input line counter block
unfolding pad_input
input_put line block counter number count first second input is_number is_count whole a b c =
    let four : length number ≡ 4 = ap length is_number in
    let eight : length count ≡ 8 = ap length is_count in
    let to_first : take 4 first ≡ number = put_behind 0 4 number [] first [] a (omega arith) refl in
    let to_second : take 12 second ≡ number ++ count = put_behind 4 12 count first second _ b (omega arith) to_first in
    sym (take_all 16 input (omega arith)) ∙ c
    ∙ ap (λ (xs : List ℕ). xs ++ counter.line ∷ block ∷ 0 ∷ 0 ∷ []) to_second
    ∙ ap (λ (xs : List ℕ). xs ++ count ++ counter.line ∷ block ∷ 0 ∷ 0 ∷ []) is_number
    ∙ ap (λ (xs : List ℕ). to_le_bytes w32 line ++ xs ++ counter.line ∷ block ∷ 0 ∷ 0 ∷ []) is_count

-- the cipher of a counter block is a block of the pad
pub block_put : (key : List ℕ) (line : ℕ) (counter : Counter) (block : ℕ) (input cipher : List ℕ) →
    cipher ≡ encrypted key input → input ≡ pad_input line counter block → cipher ≡ pad_block key line counter block
unfolding pad_block
block_put key line counter block input cipher is_cipher is_input = rw is_input at is_cipher

-- four blocks make a pad
pub pad_put : (key : List ℕ) (line : ℕ) (counter : Counter) (block_0 block_1 block_2 block_3 first second third pad : List ℕ) →
    block_0 ≡ pad_block key line counter 0 → block_1 ≡ pad_block key line counter 1 →
    block_2 ≡ pad_block key line counter 2 → block_3 ≡ pad_block key line counter 3 →
    length block_0 ≡ 16 → length block_1 ≡ 16 → length block_2 ≡ 16 → length block_3 ≡ 16 → length pad ≡ 64 →
    take (0 + length block_0) first ≡ block_0 →
    take (16 + length block_1) second ≡ take 16 first ++ block_1 →
    take (32 + length block_2) third ≡ take 32 second ++ block_2 →
    take (48 + length block_3) pad ≡ take 48 third ++ block_3 →
    pad ≡ pad_of key line counter
unfolding pad_of
pad_put key line counter block_0 block_1 block_2 block_3 first second third pad is_0 is_1 is_2 is_3 long_0 long_1 long_2 long_3 whole a b c d =
    let to_first : take 16 first ≡ block_0 = put_behind 0 16 block_0 [] first [] a (omega arith) refl in
    let to_second : take 32 second ≡ block_0 ++ block_1 = put_behind 16 32 block_1 first second _ b (omega arith) to_first in
    let to_third : take 48 third ≡ block_0 ++ block_1 ++ block_2 = put_behind 32 48 block_2 second third _ c (omega arith) to_second in
    let to_end : take 64 pad ≡ block_0 ++ block_1 ++ block_2 ++ block_3 = put_behind 48 64 block_3 third pad _ d (omega arith) to_third in
    let whole_pad : pad ≡ block_0 ++ block_1 ++ block_2 ++ block_3 = sym (take_all 64 pad (omega arith)) ∙ to_end in
    rw (← is_0, ← is_1, ← is_2, ← is_3) whole_pad
