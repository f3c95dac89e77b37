-- The steps by which line counters are packed into bytes and taken out of them.
use Rattle.std.proofs.Common.{◌≡◌, ℕ, ◌+◌, ◌*◌, ◌/◌, ◌%◌, ◌^◌, ◌<◌, ◌≤◌, List, [], ◌∷◌, ◌++◌, length, get_or, set, take, drop, refl, sym, ap, ◌∙◌, add-one, arith, w64}
use Rattle.std.proofs.Math.Nat.{pow-le-pow_right}
use Rattle.std.specs.Int.{from_le_bytes, to_le_bytes}
use Rattle.std.specs.Int.Bits.{bit_and}
use Rattle.std.proofs.lemmas.List.{drop-drop, length-take, take_more_set}
use Rattle.std.proofs.lemmas.List.Elements.{All-drop, All-take}
use Rattle.std.proofs.lemmas.Nat.{and_mask, shl_whole}
use Rattle.split_counter.specs.Digits.{number_of, digits_of}
use Rattle.split_counter.proofs.DigitLaws.{AreDigits, digits_of-add, group_of_digits, number_of_lt, number_of_more, power_of_power}
use Rattle.split_counter.proofs.Spelling.{le_bytes_digits, upper_seven}

-- ---- eight counters and their number
-- seven bits of a number are its digit in base 128
pub seven_bits : (packed place : ℕ) → bit_and (packed / 2 ^ (7 * place)) 127 ≡ packed / 128 ^ place % 128
seven_bits packed place =
    and_mask (packed / 2 ^ (7 * place)) 7
    ∙ ap (λ (n : ℕ). packed / n % 128) (power_of_power 2 7 place)

-- one counter more is taken out
pub unpacked_more : (counters : List ℕ) (packed place counter : ℕ) → place < length counters →
    counter ≡ packed / 128 ^ place % 128 → take place counters ≡ digits_of 128 place packed →
    take (place + 1) (set counters place counter) ≡ digits_of 128 (place + 1) packed
unfolding digits_of
unpacked_more counters packed place counter inside is so_far =
    take_more_set counters place counter inside
    ∙ ap (λ (front : List ℕ). front ++ counter ∷ []) so_far
    ∙ ap (λ (n : ℕ). digits_of 128 place packed ++ n ∷ []) is
    ∙ sym (digits_of-add 128 place 1 packed)

-- one counter more is packed
pub packed_more : (counters : List ℕ) (place packed counter : ℕ) → AreDigits 128 counters → length counters ≡ 8 → place < 8 →
    counter ≡ get_or counters place 0 → packed ≡ number_of 128 (take place counters) →
    packed + counter * 2 ^ (7 * place) % 2 ^ 64 ≡ number_of 128 (take (place + 1) counters)
packed_more counters place packed counter fit eight inside is so_far =
    let small : counter < 128 = omega (arith, is, fit place 0 (omega arith)) in
    let shifted : counter * 2 ^ (7 * place) % 2 ^ 64 ≡ get_or counters place 0 * 128 ^ place =
    shl_whole counter 7 (7 * place) 64 small (omega arith)
    ∙ ap (λ (n : ℕ). counter * n) (power_of_power 2 7 place)
    ∙ ap (λ (n : ℕ). n * 128 ^ place) is in
    ap (λ (n : ℕ). packed + n) shifted
    ∙ ap (λ (n : ℕ). n + get_or counters place 0 * 128 ^ place) so_far
    ∙ sym (number_of_more 128 place counters)
    ∙ ap (λ (n : ℕ). number_of 128 (take n counters)) (sym (add-one place))

-- eight counters fit seven bytes
pub packed_fits : (counters : List ℕ) (count : ℕ) → AreDigits 128 counters → count ≤ 8 → number_of 128 (take count counters) < 2 ^ 56
packed_fits counters count fit few =
    let number = number_of_lt 128 (take count counters) (All-take (λ (d : ℕ). d < 128) count counters fit) in
    let short : length (take count counters) ≤ 8 = omega (arith, length-take count counters) in
    let most : 128 ^ length (take count counters) ≤ 128 ^ 8 = pow-le-pow_right {n = 128} (omega arith) short in
    omega arith

-- ---- one group more
pub lines_more : (bytes lines next unpacked : List ℕ) (group window : ℕ) → AreDigits 256 bytes →
    window ≡ from_le_bytes w64 (take 8 (drop (7 * group + 7) bytes)) →
    unpacked ≡ digits_of 128 8 (window / 2 ^ 8) → length unpacked ≡ 8 →
    take (8 * group) lines ≡ digits_of 128 (8 * group) (number_of 256 (drop 8 bytes)) →
    take (8 * group + length unpacked) next ≡ take (8 * group) lines ++ unpacked →
    take (8 * (group + 1)) next ≡ digits_of 128 (8 * (group + 1)) (number_of 256 (drop 8 bytes))
lines_more bytes lines next unpacked group window fit read parts eight so_far put =
    let rest = drop 8 bytes in
    let seven : window / 2 ^ 8 ≡ number_of 256 (take 7 (drop (7 * group) rest)) =
    upper_seven bytes (7 * group + 7) window fit read
    ∙ ap (λ (n : ℕ). number_of 256 (take 7 (drop n bytes))) (omega arith)
    ∙ ap (λ (xs : List ℕ). number_of 256 (take 7 xs)) (sym (drop-drop (7 * group) 8 bytes)) in
    let ends : 8 * (group + 1) ≡ 8 * group + length unpacked = omega arith in
    ap (λ (n : ℕ). take n next) ends ∙ put
    ∙ ap (λ (front : List ℕ). front ++ unpacked) so_far
    ∙ ap (λ (piece : List ℕ). digits_of 128 (8 * group) (number_of 256 rest) ++ piece) (parts ∙ ap (digits_of 128 8) seven)
    ∙ group_of_digits 256 128 7 8 group rest (All-drop (λ (d : ℕ). d < 256) 8 bytes fit) (omega arith) refl
    ∙ ap (λ (n : ℕ). digits_of 128 n (number_of 256 rest)) (omega arith)

-- the page counter comes first
pub bytes_first : (lines piece next : List ℕ) (page : ℕ) → piece ≡ to_le_bytes w64 page → take (0 + length piece) next ≡ piece →
    take 8 next ≡ to_le_bytes w64 page ++ digits_of 256 0 (number_of 128 lines)
unfolding digits_of
bytes_first lines piece next page is put =
    let long : 8 ≡ 0 + length piece = sym (ap (λ (xs : List ℕ). 0 + length xs) is) in
    ap (λ (n : ℕ). take n next) long ∙ put ∙ is

pub bytes_more : (lines bytes next piece : List ℕ) (page group packed : ℕ) → AreDigits 128 lines →
    packed ≡ number_of 128 (take 8 (drop (8 * group) lines)) →
    piece ≡ take 7 (to_le_bytes w64 packed) →
    take (7 * group + 8) bytes ≡ to_le_bytes w64 page ++ digits_of 256 (7 * group) (number_of 128 lines) →
    take (7 * group + 8 + length piece) next ≡ take (7 * group + 8) bytes ++ piece →
    take (7 * (group + 1) + 8) next ≡ to_le_bytes w64 page ++ digits_of 256 (7 * (group + 1)) (number_of 128 lines)
bytes_more lines bytes next piece page group packed fit is is_piece so_far put =
    let seven : piece ≡ digits_of 256 7 packed = is_piece ∙ le_bytes_digits 7 packed in
    let long : length piece ≡ 7 = ap length is_piece in
    let ends : 7 * (group + 1) + 8 ≡ 7 * group + 8 + length piece = omega arith in
    let number = number_of 128 lines in
    ap (λ (n : ℕ). take n next) ends ∙ put
    ∙ ap (λ (front : List ℕ). front ++ piece) so_far
    ∙ ap (λ (part : List ℕ). to_le_bytes w64 page ++ digits_of 256 (7 * group) number ++ part) (seven ∙ ap (digits_of 256 7) is)
    ∙ ap (λ (digits : List ℕ). to_le_bytes w64 page ++ digits)
    (group_of_digits 128 256 8 7 group lines fit (omega arith) refl
    ∙ ap (λ (n : ℕ). digits_of 256 n number) (omega arith))
