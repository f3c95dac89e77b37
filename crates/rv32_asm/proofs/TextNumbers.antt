-- The texts of numbers are read back, and are operands.
use Rattle.std.proofs.Common.{◌≡◌, ℕ, zero, suc, ◌-◌, ◌^◌, ◌<◌, ◌≤◌, ◌==◌, ◌&&◌, ◌||◌, ℤ, pos, negsuc, ◌≤ℤ◌, Bool, true, false, not, List, [], ◌∷◌, ◌++◌, Some, length, replicate, nat_lt, nat_eq, codes, decimal, refl, ap, ◌∙◌, arith, inl, inr}
use Rattle.std.proofs.lemmas.Bool.{agree_below_at, and_parts, and_from, and_right, cases_lt, le-leb, le-ltb, lt-ltb, ne_eqb}
use Rattle.std.proofs.lemmas.Fmt.{digits_is_IsNumeral}
use Rattle.std.proofs.lemmas.Int.{ints}
use Rattle.std.proofs.lemmas.Str.Parse.{digit_from_value}
use Rattle.std.specs.Char.{digit_value, is_digit}
use Rattle.std.specs.Fmt.{digits, signed_decimal}
use Rattle.std.specs.List.{list_all, starts_with}
use Rattle.std.specs.Str.Parse.{AllDigits, IsNumeral, digits_value}
use Rattle.sec_base.specs.Hexadecimal.{hex_digits}
use Rattle.rv32_asm_syntax.specs.Characters.{begins_as_name, begins_names}
use Rattle.rv32_asm_syntax.specs.Expressions.{expression_of, number_alone}
use Rattle.rv32_asm_syntax.specs.Numbers.{in_range, natural_of, number_of}
use Rattle.rv32_asm.proofs.TextOperands.{is_solid, is_operand}

-- ---- digits

all_digits : (base : ℕ) (ds : List ℕ) → AllDigits base ds → list_all (λ byte. is_digit byte base) ds ≡ true
all_digits base [] all = refl
all_digits base (d ∷ ds) all = rw (lt-ltb (digit_value d) base all.0, all_digits base ds all.1) refl

natural_digits : (base : ℕ) (ds : List ℕ) → IsNumeral base ds → natural_of base ds ≡ Some (digits_value base ds)
natural_digits base [] numeral = absurd (omega (arith, numeral.0))
natural_digits base (d ∷ ds) numeral = rw (all_digits base (d ∷ ds) numeral.1) refl

zeros_digits : (k : ℕ) (ds : List ℕ) → AllDigits 16 ds → AllDigits 16 (replicate k 48 ++ ds)
zeros_digits zero ds all = all
zeros_digits (suc k) ds all = (omega arith, zeros_digits k ds all)

zeros_value : (k : ℕ) (ds : List ℕ) → digits_value 16 (replicate k 48 ++ ds) ≡ digits_value 16 ds
zeros_value zero ds = refl
zeros_value (suc k) ds = zeros_value k ds

zeros_length : (k : ℕ) (ds : List ℕ) → 0 < length ds → 0 < length (replicate k 48 ++ ds)
zeros_length zero ds some = some
zeros_length (suc k) ds some = omega arith

hex_numeral : (n : ℕ) → n < 2 ^ 32 → IsNumeral 16 (digits 16 false n) × (digits_value 16 (digits 16 false n) ≡ n)
hex_numeral n below = digits_is_IsNumeral 16 false (omega arith) (omega arith) n (omega arith)

decimal_numeral : (n : ℕ) → n < 2 ^ 32 → IsNumeral 10 (decimal n) × (digits_value 10 (decimal n) ≡ n)
decimal_numeral n below = digits_is_IsNumeral 10 false (omega arith) (omega arith) n (omega arith)

hex_digits_numeral : (count n : ℕ) → n < 2 ^ 32 → IsNumeral 16 (hex_digits count n) × (digits_value 16 (hex_digits count n) ≡ n)
unfolding hex_digits
hex_digits_numeral count n below =
    let hex = hex_numeral n below in
    let ds = digits 16 false n in
    let k = count - length ds in
    ((zeros_length k ds hex.0.0, zeros_digits k ds hex.0.1), zeros_value k ds ∙ hex.1)

natural_numeral : (base : ℕ) (ds : List ℕ) (n : ℕ) → IsNumeral base ds → digits_value base ds ≡ n →
    natural_of base ds ≡ Some n
natural_numeral base ds n numeral value = natural_digits base ds numeral ∙ ap Some value

-- ---- the bytes of numbers

digit_small : (c : ℕ) → digit_value c < 16 → c < 128
digit_small c digit =
    elim (cases_lt c 128) [
      | inl t ↦ t
      | inr t ↦ (let large : digit_value c ≡ 36 = rw (le-ltb c 48 (omega arith), le-ltb c 58 (omega arith), le-ltb c 65 (omega arith), le-ltb c 91 (omega arith), le-ltb c 97 (omega arith), le-ltb c 123 (omega arith)) refl in absurd (omega arith))
    ]

-- a byte of a number: of an operand, and no parenthesis
abbrev pub is_figure : ℕ → Bool
is_figure byte = is_solid byte && not (byte == 40)

digit_figure : (c : ℕ) → digit_value c < 16 → is_figure c ≡ true
digit_figure c digit =
    let computed : (not (nat_lt (digit_value c) 16) || is_figure c) ≡ true
    = agree_below_at (λ b. not (nat_lt (digit_value b) 16) || is_figure b) (λ b. true) 128 c refl (digit_small c digit) in
    rw (lt-ltb (digit_value c) 16 digit) at computed

pub digits_figures : (base : ℕ) (ds : List ℕ) → base ≤ 16 → AllDigits base ds → list_all is_figure ds ≡ true
digits_figures base [] low all = refl
digits_figures base (d ∷ ds) low all =
    and_from (is_figure d) (list_all is_figure ds) (digit_figure d (omega (arith, all.0))) (digits_figures base ds low all.1)

pub figures_solid : (text : List ℕ) → list_all is_figure text ≡ true → list_all is_solid text ≡ true
figures_solid [] all = refl
figures_solid (byte ∷ bytes) all =
    let parts = and_parts (is_figure byte) (list_all is_figure bytes) all in
    let figure = and_parts (is_solid byte) (not (byte == 40)) parts.0 in
    and_from (is_solid byte) (list_all is_solid bytes) figure.0 (figures_solid bytes parts.1)

-- ---- hexadecimal numbers

range_pos : (n : ℕ) → n < 2 ^ 32 → in_range (pos n) ≡ Some (pos n)
range_pos n below = rw (le-leb n 4294967295 (omega arith)) refl

hex_read : (ds : List ℕ) (n : ℕ) → natural_of 16 ds ≡ Some n → n < 2 ^ 32 →
    expression_of (codes "0x" ++ ds) ≡ Some (number_alone (pos n))
unfolding expression_of number_of
hex_read ds n read below = rw (read, range_pos n below) refl

pub hex_digits_read : (count n : ℕ) → n < 2 ^ 32 → expression_of (codes "0x" ++ hex_digits count n) ≡ Some (number_alone (pos n))
hex_digits_read count n below =
    let numeral = hex_digits_numeral count n below in
    hex_read (hex_digits count n) n (natural_numeral 16 (hex_digits count n) n numeral.0 numeral.1) below

pub digits_read : (n : ℕ) → n < 2 ^ 32 → expression_of (codes "0x" ++ digits 16 false n) ≡ Some (number_alone (pos n))
digits_read n below =
    let numeral = hex_numeral n below in
    hex_read (digits 16 false n) n (natural_numeral 16 (digits 16 false n) n numeral.0 numeral.1) below

pub hex_digits_solid : (count n : ℕ) → n < 2 ^ 32 → list_all is_solid (hex_digits count n) ≡ true
hex_digits_solid count n below =
    figures_solid (hex_digits count n) (digits_figures 16 (hex_digits count n) (omega arith) (hex_digits_numeral count n below).0.1)

pub hex_digits_operand : (count n : ℕ) → n < 2 ^ 32 → is_operand (codes "0x" ++ hex_digits count n) ≡ true
hex_digits_operand count n below = hex_digits_solid count n below

pub digits_operand : (n : ℕ) → n < 2 ^ 32 → is_operand (codes "0x" ++ digits 16 false n) ≡ true
digits_operand n below =
    figures_solid (digits 16 false n) (digits_figures 16 (digits 16 false n) (omega arith) (hex_numeral n below).0.1)

-- ---- decimal numbers

not_hex : (ds : List ℕ) → AllDigits 10 ds → starts_with nat_eq ds (codes "0x") ≡ false
not_hex [] all = refl
not_hex (a ∷ []) all = and_right (48 == a) false refl
not_hex (a ∷ b ∷ ds) all =
    let range = digit_from_value b all.1.0 in
    let other : (120 == b) ≡ false = ne_eqb 120 b (λ e. omega arith) in
    and_right (48 == a) ((120 == b) && true) (rw other refl)

not_minus : (ds : List ℕ) → AllDigits 10 ds → starts_with nat_eq ds (45 ∷ []) ≡ false
not_minus [] all = refl
not_minus (a ∷ ds) all =
    let range = digit_from_value a all.0 in
    let other : (45 == a) ≡ false = ne_eqb 45 a (λ e. omega arith) in
    rw other refl

not_name : (ds : List ℕ) → AllDigits 10 ds → begins_as_name ds ≡ false
not_name [] all = refl
not_name (a ∷ ds) all =
    let range = digit_from_value a all.0 in
    agree_below_at (λ b. begins_names b) (λ b. false) 58 a refl (omega arith)

natural_decimal : (n : ℕ) → n < 2 ^ 32 → natural_of 10 (decimal n) ≡ Some n
natural_decimal n below =
    let numeral = decimal_numeral n below in
    natural_numeral 10 (decimal n) n numeral.0 numeral.1

decimal_read : (ds : List ℕ) (n : ℕ) → AllDigits 10 ds → natural_of 10 ds ≡ Some n → n < 2 ^ 32 →
    expression_of ds ≡ Some (number_alone (pos n))
unfolding expression_of number_of
decimal_read ds n all read below =
    rw (not_name ds all, not_hex ds all, not_minus ds all, read, range_pos n below) refl

minus_read : (ds : List ℕ) (n : ℕ) → natural_of 10 ds ≡ Some (suc n) → n < 2 ^ 31 →
    expression_of (45 ∷ ds) ≡ Some (number_alone (negsuc n))
unfolding expression_of number_of
minus_read ds n read below = rw (read, le-leb n 2147483647 (omega arith)) refl

pub signed_read : (z : ℤ) → negsuc 2147483647 ≤ℤ z → z ≤ℤ pos 2147483647 →
    expression_of (signed_decimal z) ≡ Some (number_alone z)
signed_read (pos n) low high =
    let below : n < 2 ^ 32 = omega (arith, ints) in
    decimal_read (decimal n) n (decimal_numeral n below).0.1 (natural_decimal n below) below
signed_read (negsuc n) low high =
    let below : n < 2 ^ 31 = omega (arith, ints) in
    minus_read (decimal (suc n)) n (natural_decimal (suc n) (omega arith)) below

pub signed_figures : (z : ℤ) → negsuc 2147483647 ≤ℤ z → z ≤ℤ pos 2147483647 →
    list_all is_figure (signed_decimal z) ≡ true
signed_figures (pos n) low high =
    let below : n < 2 ^ 32 = omega (arith, ints) in
    digits_figures 10 (decimal n) (omega arith) (decimal_numeral n below).0.1
signed_figures (negsuc n) low high =
    let below : suc n < 2 ^ 32 = omega (arith, ints) in
    digits_figures 10 (decimal (suc n)) (omega arith) (decimal_numeral (suc n) below).0.1

numeral_operand : (ds : List ℕ) → 0 < length ds → list_all is_solid ds ≡ true → is_operand ds ≡ true
numeral_operand [] some solid = absurd (omega arith)
numeral_operand (d ∷ ds) some solid = solid

pub signed_operand : (z : ℤ) → negsuc 2147483647 ≤ℤ z → z ≤ℤ pos 2147483647 → is_operand (signed_decimal z) ≡ true
signed_operand (pos n) low high =
    let below : n < 2 ^ 32 = omega (arith, ints) in
    numeral_operand (decimal n) (decimal_numeral n below).0.0
    (figures_solid (decimal n) (signed_figures (pos n) low high))
signed_operand (negsuc n) low high = figures_solid (signed_decimal (negsuc n)) (signed_figures (negsuc n) low high)
