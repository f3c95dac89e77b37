-- What a mask of the table leaves of a word: the fields that a format fixes.
use Rattle.std.proofs.Common.{◌≡◌, ℕ, ◌+◌, ◌*◌, ◌/◌, ◌%◌, ◌^◌, ◌<◌, ◌==◌, ◌&&◌, Bool, true, bit_and, sym, ◌∙◌, subst, arith, nat_lt}
use Rattle.std.proofs.lemmas.Bool.{and_parts, eqb-true, ltb-true}
use Rattle.std.proofs.lemmas.Bool.Decides.{nat_tests}
use Rattle.std.proofs.lemmas.Nat.{and_block, and_mask}
use Rattle.rv32_decode.specs.Search.{are_fixed}
use Rattle.rv32_decode.specs.Words.{field}
use Rattle.rv32_decode.specs.declared.table.Format.{Format}
use Rattle.rv32_decode.specs.declared.table.Format.TheVariants.{R, I, S, B, U, J, Shift, Fieldless}

-- the mask of a format's rows
unfoldable pub mask_of : Format → ℕ
mask_of R = 0xfe00707f
mask_of I = 0x0000707f
mask_of S = 0x0000707f
mask_of B = 0x0000707f
mask_of U = 0x0000007f
mask_of J = 0x0000007f
mask_of Shift = 0xfe00707f
mask_of Fieldless = 0xffffffff

opcode_of : (w : ℕ) → bit_and w 0x0000007f ≡ w % 2 ^ 7
opcode_of w = and_mask w 7

funct3_of : (w : ℕ) → bit_and w 0x0000707f ≡ field w 12 3 * 2 ^ 12 + w % 2 ^ 7
funct3_of w =
    let whole : w / 2 ^ 12 * 2 ^ 12 + w % 2 ^ 12 ≡ w = omega arith in
    let below : w % 2 ^ 12 < 2 ^ 12 = omega arith in
    let parts : bit_and (w / 2 ^ 12 * 2 ^ 12 + w % 2 ^ 12) (7 * 2 ^ 12 + 127) ≡ bit_and (w / 2 ^ 12) 7 * 2 ^ 12 + bit_and (w % 2 ^ 12) 127 = and_block 12 (w / 2 ^ 12) 7 (w % 2 ^ 12) 127 below (omega arith) in
    let low : bit_and (w % 2 ^ 12) 127 ≡ w % 2 ^ 7 = opcode_of (w % 2 ^ 12) ∙ omega arith in
    let high : bit_and (w / 2 ^ 12) 7 ≡ w / 2 ^ 12 % 2 ^ 3 = and_mask (w / 2 ^ 12) 3 in
    subst (λ x. bit_and x 0x0000707f ≡ field w 12 3 * 2 ^ 12 + w % 2 ^ 7) whole (omega (arith, parts, low, high))

funct7_of : (w : ℕ) → bit_and w 0xfe00707f ≡ field w 25 7 * 2 ^ 25 + field w 12 3 * 2 ^ 12 + w % 2 ^ 7
funct7_of w =
    let whole : w / 2 ^ 25 * 2 ^ 25 + w % 2 ^ 25 ≡ w = omega arith in
    let below : w % 2 ^ 25 < 2 ^ 25 = omega arith in
    let parts : bit_and (w / 2 ^ 25 * 2 ^ 25 + w % 2 ^ 25) (127 * 2 ^ 25 + 28799) ≡ bit_and (w / 2 ^ 25) 127 * 2 ^ 25 + bit_and (w % 2 ^ 25) 28799
    = and_block 25 (w / 2 ^ 25) 127 (w % 2 ^ 25) 28799 below (omega arith) in
    let low : bit_and (w % 2 ^ 25) 28799 ≡ field w 12 3 * 2 ^ 12 + w % 2 ^ 7 = funct3_of (w % 2 ^ 25) ∙ omega arith in
    let high : bit_and (w / 2 ^ 25) 127 ≡ w / 2 ^ 25 % 2 ^ 7 = and_mask (w / 2 ^ 25) 7 in
    subst (λ x. bit_and x 0xfe00707f ≡ field w 25 7 * 2 ^ 25 + field w 12 3 * 2 ^ 12 + w % 2 ^ 7) whole (omega (arith, parts, low, high))

whole_of : (w : ℕ) → w < 2 ^ 32 → bit_and w 0xffffffff ≡ w
whole_of w below = and_mask w 32 ∙ omega arith

-- what is so of a pattern with no bit outside its format's mask
abbrev pub IsPattern : Format → ℕ → Type 0
IsPattern R p = p ≡ field p 25 7 * 2 ^ 25 + field p 12 3 * 2 ^ 12 + p % 2 ^ 7
IsPattern I p = p ≡ field p 12 3 * 2 ^ 12 + p % 2 ^ 7
IsPattern S p = p ≡ field p 12 3 * 2 ^ 12 + p % 2 ^ 7
IsPattern B p = p ≡ field p 12 3 * 2 ^ 12 + p % 2 ^ 7
IsPattern U p = p ≡ p % 2 ^ 7
IsPattern J p = p ≡ p % 2 ^ 7
IsPattern Shift p = p ≡ field p 25 7 * 2 ^ 25 + field p 12 3 * 2 ^ 12 + p % 2 ^ 7
IsPattern Fieldless p = p < 2 ^ 32

-- a row whose mask is its format's, and whose pattern has no bit outside it
unfoldable pub is_regular : ℕ → Format → ℕ → Bool
is_regular mask format pattern = (mask == mask_of format) && ((bit_and pattern mask == pattern) && nat_lt pattern (2 ^ 32))

within_opcode : (p : ℕ) → bit_and p 0x0000007f ≡ p → p ≡ p % 2 ^ 7
within_opcode p within = sym within ∙ opcode_of p

within_funct3 : (p : ℕ) → bit_and p 0x0000707f ≡ p → p ≡ field p 12 3 * 2 ^ 12 + p % 2 ^ 7
within_funct3 p within = sym within ∙ funct3_of p

within_funct7 : (p : ℕ) → bit_and p 0xfe00707f ≡ p → p ≡ field p 25 7 * 2 ^ 25 + field p 12 3 * 2 ^ 12 + p % 2 ^ 7
within_funct7 p within = sym within ∙ funct7_of p

-- the parts of a pattern that is regular
pub mask_is : (mask : ℕ) (format : Format) (p : ℕ) → is_regular mask format p ≡ true → mask ≡ mask_of format
unfolding is_regular
mask_is mask format p e = eqb-true mask (mask_of format) (and_parts (mask == mask_of format) _ e).0

pattern_of : (format : Format) (p : ℕ) → bit_and p (mask_of format) ≡ p → p < 2 ^ 32 → IsPattern format p
unfolding mask_of
pattern_of R p within below = within_funct7 p within
pattern_of I p within below = within_funct3 p within
pattern_of S p within below = within_funct3 p within
pattern_of B p within below = within_funct3 p within
pattern_of U p within below = within_opcode p within
pattern_of J p within below = within_opcode p within
pattern_of Shift p within below = within_funct7 p within
pattern_of Fieldless p within below = below

pub is_pattern : (mask : ℕ) (format : Format) (p : ℕ) → is_regular mask format p ≡ true → IsPattern format p
unfolding is_regular mask_of
is_pattern mask format p e =
    let parts = and_parts (mask == mask_of format) ((bit_and p mask == p) && nat_lt p (2 ^ 32)) e in
    let more = and_parts (bit_and p mask == p) (nat_lt p (2 ^ 32)) parts.1 in
    let m = eqb-true mask (mask_of format) parts.0 in
    let within : bit_and p mask ≡ p = eqb-true (bit_and p mask) p more.0 in
    pattern_of format p (subst (λ x. bit_and p x ≡ p) m within) (ltb-true p (2 ^ 32) more.1)

tests_opcode : (w p : ℕ) → p ≡ p % 2 ^ 7 → (bit_and w 0x0000007f == p) ≡ (w % 2 ^ 7 == p % 2 ^ 7)
tests_opcode w p within = let e = opcode_of w in grind (arith, nat_tests)

tests_funct3 : (w p : ℕ) → p ≡ field p 12 3 * 2 ^ 12 + p % 2 ^ 7 → (bit_and w 0x0000707f == p) ≡ ((w % 2 ^ 7 == p % 2 ^ 7) && (field w 12 3 == field p 12 3))
tests_funct3 w p within = let e = funct3_of w in grind (arith, nat_tests)

tests_funct7 : (w p : ℕ) → p ≡ field p 25 7 * 2 ^ 25 + field p 12 3 * 2 ^ 12 + p % 2 ^ 7 → (bit_and w 0xfe00707f == p) ≡ ((w % 2 ^ 7 == p % 2 ^ 7) && ((field w 12 3 == field p 12 3) && (field w 25 7 == field p 25 7)))
tests_funct7 w p within = let e = funct7_of w in grind (arith, nat_tests)

tests_whole : (w p : ℕ) → w < 2 ^ 32 → (bit_and w 0xffffffff == p) ≡ ((w % 2 ^ 7 == p % 2 ^ 7) && (w == p))
tests_whole w p below = let e = whole_of w below in grind (arith, nat_tests)

-- a word is tested under a mask as by the fields that the format fixes
pub tests_fields : (format : Format) (w p : ℕ) → w < 2 ^ 32 → IsPattern format p → (bit_and w (mask_of format) == p) ≡ are_fixed (w % 2 ^ 7) (field w 12 3) (field w 25 7) w format p
unfolding mask_of
tests_fields R w p below within = tests_funct7 w p within
tests_fields I w p below within = tests_funct3 w p within
tests_fields S w p below within = tests_funct3 w p within
tests_fields B w p below within = tests_funct3 w p within
tests_fields U w p below within = tests_opcode w p within
tests_fields J w p below within = tests_opcode w p within
tests_fields Shift w p below within = tests_funct7 w p within
tests_fields Fieldless w p below within = tests_whole w p below
