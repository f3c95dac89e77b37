-- The blocks of a state, enciphered and deciphered.
use Rattle.std.proofs.Common.{◌≡◌, ℕ, ◌+◌, ◌*◌, ◌<◌, List, [], ◌++◌, length, take, drop, refl, sym, ap, ◌∙◌, arith, length-append, append_assoc}
use Rattle.std.proofs.lemmas.List.{append-nil, length-drop, length-take}
use Rattle.sec_base.proofs.MessageBytes.{put_behind}
use Rattle.pad_stream.specs.Pad.{cipher_of}
use Rattle.pad_stream.proofs.Enciphering.{cipher_of_twice, length-cipher_of}
use Rattle.sealed_state.specs.StateFile.{cipher_of_blocks, cipher_of_block, state_counter, state_line}
use Rattle.sealed_state.proofs.Parts.{part_at, two_put, three_parts}

pub length-cipher_of_block : (key : List ℕ) (number : ℕ) (bytes : List ℕ) (block : ℕ) → length (cipher_of_block key number bytes block) ≡ 64
unfolding cipher_of_block
length-cipher_of_block key number bytes block = length-cipher_of key (state_line block) (state_counter number) _

pub length-cipher_of_blocks : (key : List ℕ) (number : ℕ) (bytes : List ℕ) → length (cipher_of_blocks key number bytes) ≡ 192
unfolding cipher_of_blocks
length-cipher_of_blocks key number bytes =
    let first : List ℕ = cipher_of_block key number bytes 0 in
    let second : List ℕ = cipher_of_block key number bytes 1 in
    let third : List ℕ = cipher_of_block key number bytes 2 in
    omega (
      arith,
      length-append (first ++ second) third,
      length-append first second,
      length-cipher_of_block key number bytes 0,
      length-cipher_of_block key number bytes 1,
      length-cipher_of_block key number bytes 2,
    )

-- a block of a cipher, deciphered
block_twice : (key : List ℕ) (number : ℕ) (bytes cipher : List ℕ) (block : ℕ) → length bytes ≡ 192 → block < 3 →
    take 64 (drop (64 * block) cipher) ≡ cipher_of_block key number bytes block →
    cipher_of_block key number cipher block ≡ take 64 (drop (64 * block) bytes)
unfolding cipher_of_block
block_twice key number bytes cipher block long below is =
    let plain_long : length (take 64 (drop (64 * block) bytes)) ≡ 64 =
    omega (arith, length-take 64 (drop (64 * block) bytes), length-drop (64 * block) bytes) in
    ap (cipher_of key (state_line block) (state_counter number)) is
    ∙ cipher_of_twice key (state_line block) (state_counter number) (take 64 (drop (64 * block) bytes)) plain_long

-- three blocks of 64 bytes are found in their places
blocks_at : (first second third : List ℕ) → length first ≡ 64 → length second ≡ 64 → length third ≡ 64 →
    (take 64 (drop 0 (first ++ second ++ third)) ≡ first) × (take 64 (drop 64 (first ++ second ++ third)) ≡ second)
    × (take 64 (drop 128 (first ++ second ++ third)) ≡ third)
blocks_at first second third one two three = (
  part_at [] first (second ++ third) _ 0 64 (append_assoc first second third) refl (sym one),
  part_at first second third _ 64 64 (append_assoc first second third) (sym one) (sym two),
  part_at (first ++ second) third [] _ 128 64 (ap (λ (xs : List ℕ). (first ++ second) ++ xs) (sym (append-nil third)))
      (omega (arith, length-append first second)) (sym three),
)

-- 192 bytes, enciphered and deciphered
pub cipher_of_blocks-twice : (key : List ℕ) (number : ℕ) (bytes : List ℕ) → length bytes ≡ 192 →
    cipher_of_blocks key number (cipher_of_blocks key number bytes) ≡ bytes
unfolding cipher_of_blocks
cipher_of_blocks-twice key number bytes long =
    let first : List ℕ = cipher_of_block key number bytes 0 in
    let second : List ℕ = cipher_of_block key number bytes 1 in
    let third : List ℕ = cipher_of_block key number bytes 2 in
    let cipher : List ℕ = first ++ second ++ third in
    let at = blocks_at first second third (length-cipher_of_block key number bytes 0) (length-cipher_of_block key number bytes 1)
    (length-cipher_of_block key number bytes 2) in
    let one : cipher_of_block key number cipher 0 ≡ take 64 (drop 0 bytes) = block_twice key number bytes cipher 0 long (omega arith) at.0 in
    let two : cipher_of_block key number cipher 1 ≡ take 64 (drop 64 bytes) = block_twice key number bytes cipher 1 long (omega arith) at.1 in
    let three : cipher_of_block key number cipher 2 ≡ take 64 (drop 128 bytes) = block_twice key number bytes cipher 2 long (omega arith) at.2 in
    ap (λ (xs : List ℕ). xs ++ cipher_of_block key number cipher 1 ++ cipher_of_block key number cipher 2) one
    ∙ ap (λ (xs : List ℕ). take 64 (drop 0 bytes) ++ xs ++ cipher_of_block key number cipher 2) two
    ∙ ap (λ (xs : List ℕ). take 64 (drop 0 bytes) ++ take 64 (drop 64 bytes) ++ xs) three
    ∙ three_parts bytes long

three_are : {first second third one two three : List ℕ} → first ≡ one → second ≡ two → third ≡ three →
    first ++ second ++ third ≡ one ++ two ++ three
three_are a b c = cc

-- three blocks were put
pub blocks_put : (key : List ℕ) (number : ℕ) (bytes first second third one two made : List ℕ) →
    first ≡ cipher_of_block key number bytes 0 → second ≡ cipher_of_block key number bytes 1 → third ≡ cipher_of_block key number bytes 2 →
    length first ≡ 64 → length second ≡ 64 → length third ≡ 64 → length made ≡ 192 →
    take (0 + length first) one ≡ first → take (64 + length second) two ≡ take 64 one ++ second →
    take (128 + length third) made ≡ take 128 two ++ third → made ≡ cipher_of_blocks key number bytes
unfolding cipher_of_blocks
blocks_put key number bytes first second third one two made is_first is_second is_third first_long second_long third_long whole a b c =
    let to_first : take 64 one ≡ first = put_behind 0 64 first [] one [] a (omega arith) refl in
    let to_second : take 128 two ≡ first ++ second = put_behind 64 128 second one two _ b (omega arith) to_first in
    let done : made ≡ first ++ second ++ third = two_put 128 192 (first ++ second) third two made to_second c (omega arith) whole in
    done ∙ three_are is_first is_second is_third
