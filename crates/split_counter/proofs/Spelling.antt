-- How the bytes of a block and its counters give each other.
use Rattle.std.proofs.Common.{◌≡◌, ℕ, zero, suc, ◌+◌, ◌*◌, ◌/◌, ◌%◌, ◌^◌, ◌<◌, List, [], ◌∷◌, ◌++◌, length, get_or, slice_index, take, drop, inl, inr, refl, sym, ap, subst, ◌∙◌, arith, w64}
use Rattle.std.proofs.Math.Nat.{div-div-eq-div-mul, div-one, pow-suc}
use Rattle.std.specs.Int.{bit_at, byte_at, byte_worth, bytes_low_first, from_le_bytes, sum_through, to_le_bytes}
use Rattle.std.proofs.lemmas.List.{drop-drop, drop-take, get_or-drop, get_or_past, length-drop, length-take, take-append-drop, take-take}
use Rattle.std.proofs.lemmas.List.Elements.{All-drop, All-get_or, All-take}
use Rattle.std.proofs.lemmas.Nat.{from_le_bytes-to_le_bytes_8, le_bytes_8}
use Rattle.std.proofs.lemmas.Simd.{Each1-from_get_or, get_or_narrower}
use Rattle.std.proofs.lemmas.Bool.{cases_lt}
use lib.Lanes.{digits_l, number_l}
use Rattle.split_counter.specs.Digits.{number_of, digits_of}
use Rattle.split_counter.specs.CounterBlock.{CounterBlockView, IsCounterBlock, HasLineBits, block_bytes, block_of}
use Rattle.split_counter.proofs.DigitLaws.{AreDigits, digits_of-number_of, digits_of_are, length-digits_of, number_of-digits_of, number_of-drop, number_of_lt, number_of_more}

-- ---- numbers of eight bytes
sum_is_number : (more : ℕ) (bytes : List ℕ) → sum_through (λ i. byte_worth i (slice_index bytes i)) more ≡ number_of 256 (take (suc more) bytes)
unfolding number_of
sum_is_number zero bytes = omega (arith, number_of_more 256 0 bytes)
sum_is_number (suc more) bytes =
    ap (λ (n : ℕ). n + slice_index bytes (suc more) * 256 ^ suc more) (sum_is_number more bytes)
    ∙ sym (number_of_more 256 (suc more) bytes)

pub eight_bytes_number : (bytes : List ℕ) → from_le_bytes w64 bytes ≡ number_of 256 (take 8 bytes)
eight_bytes_number bytes = sum_is_number 7 bytes

-- of eight bytes the upper seven
pub upper_seven : (bytes : List ℕ) (at number : ℕ) → AreDigits 256 bytes → number ≡ from_le_bytes w64 (take 8 (drop at bytes)) →
    number / 2 ^ 8 ≡ number_of 256 (take 7 (drop (at + 1) bytes))
upper_seven bytes at number fit read =
    let eight = take 8 (drop at bytes) in
    let fit_eight = All-take (λ (d : ℕ). d < 256) 8 (drop at bytes) (All-drop (λ (d : ℕ). d < 256) at bytes fit) in
    ap (λ (n : ℕ). n / 2 ^ 8) (read ∙ eight_bytes_number eight ∙ ap (number_of 256) (take-take 8 8 (drop at bytes) (omega arith)))
    ∙ number_of-drop 256 1 eight fit_eight
    ∙ ap (number_of 256) (drop-take 1 7 (drop at bytes) ∙ ap (take 7) (drop-drop 1 at bytes))

low_bytes : (from count number : ℕ) → bytes_low_first from count number ≡ digits_of 256 count (number / 256 ^ from)
unfolding digits_of
low_bytes from zero number = refl
low_bytes from (suc count) number =
    let next : number / 256 ^ suc from ≡ number / 256 ^ from / 256 =
    ap (λ (n : ℕ). number / n) (pow-suc 256 from) ∙ sym (div-div-eq-div-mul number (256 ^ from) 256) in
    ap (λ (byte : ℕ). byte ∷ bytes_low_first (suc from) count number) (this from)
    ∙ ap (λ (rest : List ℕ). number / 256 ^ from % 256 ∷ rest) (low_bytes (suc from) count number ∙ ap (digits_of 256 count) next)
  where
    this : (from : ℕ) → byte_at from number ≡ number / 256 ^ from % 256
    this zero = ap (λ (n : ℕ). n % 256) (sym (div-one number))
    this (suc from) = refl

-- the bytes of a number are its digits
pub le_bytes_digits : (count number : ℕ) → bytes_low_first 0 count number ≡ digits_of 256 count number
le_bytes_digits count number = low_bytes 0 count number ∙ ap (digits_of 256 count) (div-one number)

-- ---- a block and its bytes
pub same_block : (block other : CounterBlockView) → block.page ≡ other.page → block.lines ≡ other.lines → block ≡ other
same_block block other page lines =
    ap (λ (n : ℕ). record block { page = n }) page ∙ ap (λ (counters : List ℕ). record other { lines = counters }) lines

-- the number of a block's line counters has 56 bytes
lines_number_fits : (lines : List ℕ) → AreDigits 128 lines → length lines ≡ 64 → number_of 128 lines < 256 ^ 56
lines_number_fits lines fit whole = subst (λ (n : ℕ). number_of 128 lines < 128 ^ n) whole (number_of_lt 128 lines fit)

pub block_of-block_bytes : (block : CounterBlockView) → IsCounterBlock block → block_of (block_bytes block) ≡ block
unfolding block_of block_bytes
block_of-block_bytes block is =
    let number = number_of 128 block.lines in
    let page : from_le_bytes w64 (to_le_bytes w64 block.page) ≡ block.page = from_le_bytes-to_le_bytes_8 block.page is.page_fits in
    let back : number_of 256 (digits_of 256 56 number) ≡ number =
    number_of-digits_of 256 56 number (omega arith) (lines_number_fits block.lines is.lines_fit is.whole) in
    let lines : digits_of 128 64 (number_of 256 (digits_of 256 56 number)) ≡ block.lines =
    ap (digits_of 128 64) back
    ∙ ap (λ (count : ℕ). digits_of 128 count number) (sym is.whole)
    ∙ digits_of-number_of 128 block.lines is.lines_fit in
    same_block (block_of (block_bytes block)) block page lines

-- the bytes of line counters
bytes_number_fits : (bytes : List ℕ) → AreDigits 256 bytes → length bytes ≡ 56 → number_of 256 bytes < 128 ^ 64
bytes_number_fits bytes fit whole = subst (λ (n : ℕ). number_of 256 bytes < 256 ^ n) whole (number_of_lt 256 bytes fit)

pub block_bytes-block_of : (bytes : List ℕ) → AreDigits 256 bytes → length bytes ≡ 64 → block_bytes (block_of bytes) ≡ bytes
unfolding block_of block_bytes
block_bytes-block_of bytes fit whole =
    let front = take 8 bytes in
    let rest = drop 8 bytes in
    let fit_rest = All-drop (λ (d : ℕ). d < 256) 8 bytes fit in
    let rest_whole : length rest ≡ 56 = omega (arith, length-drop 8 bytes) in
    let number = number_of 256 rest in
    let page : to_le_bytes w64 (from_le_bytes w64 front) ≡ front =
    le_bytes_8 front (from_le_bytes w64 front) (omega (arith, length-take 8 bytes)) (small front (All-take (λ (d : ℕ). d < 256) 8 bytes fit)) refl in
    let back : number_of 128 (digits_of 128 64 number) ≡ number =
    number_of-digits_of 128 64 number (omega arith) (bytes_number_fits rest fit_rest rest_whole) in
    let lines : digits_of 256 56 (number_of 128 (digits_of 128 64 number)) ≡ rest =
    ap (digits_of 256 56) back
    ∙ ap (λ (count : ℕ). digits_of 256 count number) (sym rest_whole)
    ∙ digits_of-number_of 256 rest fit_rest in
    ap (λ (bytes : List ℕ). bytes ++ digits_of 256 56 (number_of 128 (digits_of 128 64 number))) page
    ∙ ap (λ (bytes : List ℕ). front ++ bytes) lines
    ∙ take-append-drop 8 bytes
  where
    small : (front : List ℕ) → AreDigits 256 front → (i : ℕ) → get_or front i 0 < 256
    small front fit i = elim (cases_lt i (length front)) [
      | inl inside ↦ All-get_or (λ (d : ℕ). d < 256) front i 0 inside fit
      | inr past ↦ omega (arith, get_or_past front i 0 past)
    ]

-- ---- the same bit by bit
number_is : (base : ℕ) (digits : List ℕ) → number_of base digits ≡ number_l base digits
unfolding number_of
number_is base [] = refl
number_is base (digit ∷ digits) = ap (λ (n : ℕ). digit + base * n) (number_is base digits)

-- a bit of a digit is a bit of the number
digit_bit : (base width room index bit : ℕ) (digits : List ℕ) → AreDigits base digits → base ≡ 2 ^ width → bit < width →
    width * index + bit < room →
    bit_at (slice_index digits index) bit ≡ get_or (digits_l 2 room (number_of base digits)) (width * index + bit) 0
digit_bit base width room index bit digits fit power small inside =
    sym (ap (λ (n : ℕ). get_or (digits_l 2 room n) (width * index + bit) 0) (number_is base digits)
    ∙ get_or_narrower base width 2 room digits index bit power
    (Each1-from_get_or (λ (d : ℕ). d < base) digits 0 (λ i below. fit i 0 below)) small inside)

pub line_bits : (bytes lines : List ℕ) → AreDigits 256 (drop 8 bytes) → AreDigits 128 lines →
    number_of 256 (drop 8 bytes) ≡ number_of 128 lines → HasLineBits bytes lines
line_bits bytes lines fit fit_lines same place bit inside small =
    let k = 7 * place + bit in
    let parted : 8 * (k / 8) + k % 8 ≡ k = omega arith in
    ap (λ (byte : ℕ). bit_at byte (k % 8)) (sym (get_or-drop 8 bytes (k / 8) 0))
    ∙ digit_bit 256 8 (k + 1) (k / 8) (k % 8) (drop 8 bytes) fit refl (omega arith) (omega arith)
    ∙ ap (λ (n : ℕ). get_or (digits_l 2 (k + 1) n) (8 * (k / 8) + k % 8) 0) same
    ∙ ap (λ (n : ℕ). get_or (digits_l 2 (k + 1) (number_of 128 lines)) n 0) parted
    ∙ sym (digit_bit 128 7 (k + 1) place bit lines fit_lines refl small (omega arith))

pub block_line_bits : (block : CounterBlockView) → IsCounterBlock block → HasLineBits (block_bytes block) block.lines
unfolding block_bytes
block_line_bits block is =
    let number = number_of 128 block.lines in
    line_bits (block_bytes block) block.lines (digits_of_are 256 56 number (omega arith)) is.lines_fit
    (number_of-digits_of 256 56 number (omega arith) (lines_number_fits block.lines is.lines_fit is.whole))

-- ---- the block of some bytes
pub block_of_is : (bytes : List ℕ) → (block_of bytes).page < 2 ^ 64 → IsCounterBlock (block_of bytes)
unfolding block_of
block_of_is bytes fits =
    let number = number_of 256 (drop 8 bytes) in
    record { page_fits = fits; whole = length-digits_of 128 64 number; lines_fit = digits_of_are 128 64 number (omega arith) }

pub bytes_line_bits : (bytes : List ℕ) → AreDigits 256 bytes → length bytes ≡ 64 → HasLineBits bytes (block_of bytes).lines
unfolding block_of
bytes_line_bits bytes fit whole =
    let rest = drop 8 bytes in
    let fit_rest = All-drop (λ (d : ℕ). d < 256) 8 bytes fit in
    let number = number_of 256 rest in
    line_bits bytes (digits_of 128 64 number) fit_rest (digits_of_are 128 64 number (omega arith))
    (sym (number_of-digits_of 128 64 number (omega arith) (bytes_number_fits rest fit_rest (omega (arith, length-drop 8 bytes)))))
