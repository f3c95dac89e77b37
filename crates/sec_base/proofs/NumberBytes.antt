-- Numbers of one, two or four bytes: the same said byte by byte.
use Rattle.std.proofs.Common.{◌≡◌, ℕ, ◌+◌, ◌%◌, ◌^◌, ◌<◌, ◌≤◌, List, [], ◌∷◌, ◌++◌, length, take, drop, get_or, set, slice_index, slice_set, refl, sym, ap, ◌∙◌, arith, length-append, w16, w32}
use Rattle.std.proofs.lemmas.List.{get_or-take, get_or-drop, length-take, length-drop, take-append-drop, take_more_set, drop-set-lt}
use Rattle.std.specs.Int.{from_le_bytes}
use Rattle.sec_base.specs.declared.width.Width.{Width}
use Rattle.sec_base.specs.declared.width.Width.TheVariants.{One, Two, Four}
use Rattle.sec_base.specs.Width.{width_bytes, number_bytes, number_at, with_number}

-- a byte of a part
part_byte : (bytes : List ℕ) (at count i : ℕ) → i < count → get_or (take count (drop at bytes)) i 0 ≡ get_or bytes (at + i) 0
part_byte bytes at count i inside = get_or-take count (drop at bytes) i 0 inside ∙ get_or-drop at bytes i 0

-- the number of one byte is the byte
pub number_at_one : (bytes : List ℕ) (at : ℕ) → number_at bytes at One ≡ slice_index bytes at
number_at_one bytes at =
    part_byte bytes at 1 0 (omega arith) ∙ ap (λ (n : ℕ). get_or bytes n 0) (omega arith)

pub number_at_two : (bytes : List ℕ) (at : ℕ) →
    number_at bytes at Two ≡ from_le_bytes w16 (slice_index bytes at ∷ slice_index bytes (at + 1) ∷ [])
number_at_two bytes at =
    let first : slice_index (take 2 (drop at bytes)) 0 ≡ slice_index bytes at =
    part_byte bytes at 2 0 (omega arith) ∙ ap (λ (n : ℕ). get_or bytes n 0) (omega arith) in
    let second : slice_index (take 2 (drop at bytes)) 1 ≡ slice_index bytes (at + 1) = part_byte bytes at 2 1 (omega arith) in
    omega (arith, first, second)

pub number_at_four : (bytes : List ℕ) (at : ℕ) →
    number_at bytes at Four
    ≡ from_le_bytes w32 (slice_index bytes at ∷ slice_index bytes (at + 1) ∷ slice_index bytes (at + 2) ∷ slice_index bytes (at + 3) ∷ [])
number_at_four bytes at =
    let first : slice_index (take 4 (drop at bytes)) 0 ≡ slice_index bytes at =
    part_byte bytes at 4 0 (omega arith) ∙ ap (λ (n : ℕ). get_or bytes n 0) (omega arith) in
    let second : slice_index (take 4 (drop at bytes)) 1 ≡ slice_index bytes (at + 1) = part_byte bytes at 4 1 (omega arith) in
    let third : slice_index (take 4 (drop at bytes)) 2 ≡ slice_index bytes (at + 2) = part_byte bytes at 4 2 (omega arith) in
    let fourth : slice_index (take 4 (drop at bytes)) 3 ≡ slice_index bytes (at + 3) = part_byte bytes at 4 3 (omega arith) in
    omega (arith, first, second, third, fourth)

pub length-number_bytes : (width : Width) (n : ℕ) → length (number_bytes width n) ≡ width_bytes width
length-number_bytes One n = refl
length-number_bytes Two n = refl
length-number_bytes Four n = refl

pub length-with_number : (bytes : List ℕ) (at : ℕ) (width : Width) (n : ℕ) → at + width_bytes width ≤ length bytes →
    length (with_number bytes at width n) ≡ length bytes
length-with_number bytes at width n inside =
    let number = length-number_bytes width n in
    simp (length-append, length-take, length-drop) (omega arith)

-- a byte that is put is an item that is set
set_split : (bytes : List ℕ) (at byte : ℕ) → at < length bytes → take at bytes ++ byte ∷ [] ++ drop (at + 1) bytes ≡ set bytes at byte
set_split bytes at byte inside =
    ap (λ (front : List ℕ). front ++ drop (at + 1) bytes) (sym (take_more_set bytes at byte inside))
    ∙ ap (λ (rest : List ℕ). take (at + 1) (set bytes at byte) ++ rest) (sym (drop-set-lt (at + 1) bytes at byte (omega arith)))
    ∙ take-append-drop (at + 1) (set bytes at byte)

pub with_number_one : (bytes : List ℕ) (at n : ℕ) → at < length bytes → with_number bytes at One n ≡ slice_set bytes at (n % 2 ^ 8)
with_number_one bytes at n inside = set_split bytes at (n % 2 ^ 8) inside
