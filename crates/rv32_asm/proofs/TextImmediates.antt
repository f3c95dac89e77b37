-- The immediates that the texts of instructions stand for.
use Rattle.std.proofs.Common.{◌≡◌, ℕ, ◌+◌, ◌-◌, ◌*◌, ◌/◌, ◌%◌, ◌^◌, ◌<◌, ◌≤◌, ℤ, pos, negsuc, ◌≤ℤ◌, ◌+ℤ◌, ◌-ℤ◌, unsigned_abs, true, List, refl, ap, ◌∙◌, arith, int_le}
use Rattle.std.proofs.Math.IntN.{+ℤ_idl}
use Rattle.std.proofs.lemmas.Bool.{and_from, eq-eqb, le-leb}
use Rattle.std.proofs.lemmas.Int.{ints, int_rem_euclid_is}
use Rattle.std.specs.Int.{cast_unsigned, w32}
use Rattle.rv32_decode.proofs.Signed.{Spells, complement_spelled}
use Rattle.rv32_decode.specs.Words.{field, signed_number}
use Rattle.rv32_asm.specs.Encoding.{distance, is_even}
use Rattle.rv32_asm_syntax.specs.Expressions.{number_alone}
use Rattle.rv32_asm.specs.Labels.{Label}
use Rattle.rv32_asm_syntax.specs.Numbers.{is_between}
use Rattle.rv32_asm.specs.Values.{modulo, value_of}

pub value_alone : (labels : List Label) (z : ℤ) → value_of labels (number_alone z) ≡ z
unfolding value_of
value_alone labels z = +ℤ_idl z

le_true : (a b : ℤ) → a ≤ℤ b → int_le a b ≡ true
le_true (pos a) (pos b) h = le-leb a b (omega (arith, ints))
le_true (pos a) (negsuc b) h = absurd (omega (arith, ints))
le_true (negsuc a) (pos b) h = refl
le_true (negsuc a) (negsuc b) h = le-leb b a (omega (arith, ints))

pub between_true : (low high z : ℤ) → low ≤ℤ z → z ≤ℤ high → is_between low high z ≡ true
between_true low high z above below =
    and_from (int_le low z) (int_le z high) (le_true low z above) (le_true z high below)

spelled_word : (z : ℤ) → negsuc 2147483647 ≤ℤ z → z ≤ℤ pos 2147483647 → Spells 4294967295 (cast_unsigned w32 z) z
spelled_word (pos a) low high = refl
spelled_word (negsuc a) low high = let below : a ≤ 2147483647 = omega (arith, ints) in omega arith

-- a word read as a number with a sign is the number that it was
pub signed_word : (z : ℤ) → negsuc 2147483647 ≤ℤ z → z ≤ℤ pos 2147483647 → signed_number 32 (cast_unsigned w32 z) ≡ z
signed_word z low high =
    complement_spelled 2147483647 4294967295 refl z (cast_unsigned w32 z) low high (spelled_word z low high)

pub word_below : (z : ℤ) → negsuc 2147483647 ≤ℤ z → z ≤ℤ pos 2147483647 → cast_unsigned w32 z < 2 ^ 32
word_below (pos a) low high = let below : a ≤ 2147483647 = omega (arith, ints) in omega arith
word_below (negsuc a) low high = let below : a ≤ 2147483647 = omega (arith, ints) in omega arith

back_modulo : (pc u : ℕ) → u < 2 ^ 32 → ((pc + u) % 2 ^ 32 + pc * 4294967295) % 2 ^ 32 ≡ u
back_modulo pc u below = omega arith

far_sum : (pc t : ℕ) → (pos t -ℤ pos pc) +ℤ pos (pc * 4294967296) ≡ pos (t + pc * 4294967295)
far_sum pc t = omega (arith, ints)

-- the distance modulo 2^32, without a difference
far_word : (pc t : ℕ) → modulo 32 (pos t -ℤ pos pc) ≡ (t + pc * 4294967295) % 2 ^ 32
far_word pc t =
    ap unsigned_abs
    (int_rem_euclid_is (pos t -ℤ pos pc) (pos 4294967296) 4294967296 pc (t + pc * 4294967295) (omega arith) refl (far_sum pc t))

-- the distance to a target is the immediate that led there
pub distance_target : (pc : ℕ) (z : ℤ) → negsuc 2147483647 ≤ℤ z → z ≤ℤ pos 2147483647 →
    distance pc (pos ((pc + cast_unsigned w32 z) % 2 ^ 32)) ≡ z
distance_target pc z low high =
    let u = cast_unsigned w32 z in
    ap (signed_number 32) (far_word pc ((pc + u) % 2 ^ 32) ∙ back_modulo pc u (word_below z low high)) ∙ signed_word z low high

pub even_true : (z : ℤ) → field (cast_unsigned w32 z) 0 1 ≡ 0 → negsuc 2147483647 ≤ℤ z → is_even z ≡ true
even_true (pos a) e low = eq-eqb (a % 2) 0 (omega arith)
even_true (negsuc a) e low =
    let below : a ≤ 2147483647 = omega (arith, ints) in
    eq-eqb (2 - 1 - a % 2) 0 (omega arith)

-- the upper twenty bits of a multiple of 4096
pub upper_word : (z : ℤ) → field (cast_unsigned w32 z) 0 12 ≡ 0 → negsuc 2147483647 ≤ℤ z → z ≤ℤ pos 2147483647 →
    signed_number 32 (field (cast_unsigned w32 z) 12 20 * 2 ^ 12) ≡ z
upper_word z e low high =
    let below = word_below z low high in
    let u = cast_unsigned w32 z in
    let whole : u / 2 ^ 12 % 2 ^ 20 * 2 ^ 12 ≡ u = omega arith in
    ap (signed_number 32) whole ∙ signed_word z low high
