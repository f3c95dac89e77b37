-- The fields of a format, from a word and back.
use Rattle.std.proofs.Common.{◌≡◌, ℕ, ℤ, pos, negsuc, ◌≤ℤ◌, ◌+◌, ◌*◌, ◌%◌, ◌^◌, ◌<◌, ◌≤◌, ◌==◌, ◌&&◌, true, refl, ap, sym, arith}
use Rattle.std.proofs.lemmas.Bool.{and_from, and_parts, eq-eqb, eqb-true}
use Rattle.std.proofs.lemmas.Int.{ints}
use Rattle.std.specs.Int.{cast_unsigned, w32}
use Rattle.rv32_decode.proofs.Masks.{IsPattern}
use Rattle.rv32_decode.proofs.Signed.{Spells, complement_at_most, complement_range, complement_spelled, complement_word}
use Rattle.rv32_decode.specs.Encoding.{FitsFormat, field_bits}
use Rattle.rv32_decode.specs.Fields.{instruction_in}
use Rattle.rv32_decode.specs.Search.{are_fixed}
use Rattle.rv32_decode.specs.Words.{field}
use Rattle.rv32_decode.specs.declared.Inst.{Inst}
use Rattle.rv32_decode.specs.declared.Op.{Op}
use Rattle.rv32_decode.specs.declared.table.Format.{Format}
use Rattle.rv32_decode.specs.declared.table.Format.TheVariants.{R, I, S, B, U, J, Shift, Fieldless}

-- the bits of an instruction's immediate, gathered in a word of the format
abbrev pub bits_i : ℕ → ℕ
bits_i w = field w 20 12

abbrev pub bits_s : ℕ → ℕ
bits_s w = field w 25 7 * 2 ^ 5 + field w 7 5

abbrev pub bits_b : ℕ → ℕ
bits_b w = field w 31 1 * 2 ^ 12 + field w 7 1 * 2 ^ 11 + field w 25 6 * 2 ^ 5 + field w 8 4 * 2

abbrev pub bits_u : ℕ → ℕ
bits_u w = field w 12 20 * 2 ^ 12

abbrev pub bits_j : ℕ → ℕ
bits_j w = field w 31 1 * 2 ^ 20 + field w 12 8 * 2 ^ 12 + field w 20 1 * 2 ^ 11 + field w 21 10 * 2

-- the parts of what a format fixes
two_fixed : (a b c d : ℕ) → ((a == b) && (c == d)) ≡ true → (a ≡ b) × (c ≡ d)
two_fixed a b c d e =
    let parts = and_parts (a == b) (c == d) e in
    (eqb-true a b parts.0, eqb-true c d parts.1)

three_fixed : (a b c d x y : ℕ) → ((a == b) && ((c == d) && (x == y))) ≡ true → (a ≡ b) × (c ≡ d) × (x ≡ y)
three_fixed a b c d x y e =
    let parts = and_parts (a == b) ((c == d) && (x == y)) e in
    let more = two_fixed c d x y parts.1 in
    (eqb-true a b parts.0, more.0, more.1)

fix_two : (a b c d : ℕ) → a ≡ b → c ≡ d → ((a == b) && (c == d)) ≡ true
fix_two a b c d e f = and_from (a == b) (c == d) (eq-eqb a b e) (eq-eqb c d f)

fix_three : (a b c d x y : ℕ) → a ≡ b → c ≡ d → x ≡ y → ((a == b) && ((c == d) && (x == y))) ≡ true
fix_three a b c d x y e f g = and_from (a == b) ((c == d) && (x == y)) (eq-eqb a b e) (fix_two c d x y f g)

-- a word is the pattern and the fields that are instruction_in from it
pub word_read : (format : Format) (op : Op) (p w : ℕ) → w < 2 ^ 32 → IsPattern format p → are_fixed (w % 2 ^ 7) (field w 12 3) (field w 25 7) w format p ≡ true → p + field_bits format (instruction_in format op w) ≡ w
unfolding field_bits instruction_in
word_read R op p w below pattern fixed =
    let parts = three_fixed (w % 2 ^ 7) (p % 2 ^ 7) (field w 12 3) (field p 12 3) (field w 25 7) (field p 25 7) fixed in
    omega arith
word_read I op p w below pattern fixed =
    let parts = two_fixed (w % 2 ^ 7) (p % 2 ^ 7) (field w 12 3) (field p 12 3) fixed in
    let imm = complement_word 2047 4095 refl (bits_i w) (omega arith) (omega arith) in
    omega (arith, imm)
word_read S op p w below pattern fixed =
    let parts = two_fixed (w % 2 ^ 7) (p % 2 ^ 7) (field w 12 3) (field p 12 3) fixed in
    let imm = complement_word 2047 4095 refl (bits_s w) (omega arith) (omega arith) in
    omega (arith, imm)
word_read B op p w below pattern fixed =
    let parts = two_fixed (w % 2 ^ 7) (p % 2 ^ 7) (field w 12 3) (field p 12 3) fixed in
    let imm = complement_word 4095 8191 refl (bits_b w) (omega arith) (omega arith) in
    omega (arith, imm)
word_read U op p w below pattern fixed =
    let opcode = eqb-true (w % 2 ^ 7) (p % 2 ^ 7) fixed in
    let imm = complement_word 2147483647 4294967295 refl (bits_u w) (omega arith) (omega arith) in
    omega (arith, imm)
word_read J op p w below pattern fixed =
    let opcode = eqb-true (w % 2 ^ 7) (p % 2 ^ 7) fixed in
    let imm = complement_word 1048575 2097151 refl (bits_j w) (omega arith) (omega arith) in
    omega (arith, imm)
word_read Shift op p w below pattern fixed =
    let parts = three_fixed (w % 2 ^ 7) (p % 2 ^ 7) (field w 12 3) (field p 12 3) (field w 25 7) (field p 25 7) fixed in
    omega arith
word_read Fieldless op p w below pattern fixed =
    let parts = two_fixed (w % 2 ^ 7) (p % 2 ^ 7) w p fixed in
    omega arith

abbrev inst : Op → ℕ → ℕ → ℕ → ℤ → Inst
inst op rd rs1 rs2 imm = record { op = op; rd = rd; rs1 = rs1; rs2 = rs2; imm = imm }

same_inst : (op : Op) (a b c d e f : ℕ) (y z : ℤ) → a ≡ b → c ≡ d → e ≡ f → y ≡ z → inst op a c e y ≡ inst op b d f z
same_inst op a b c d e f y z p q r s = rw (p, q, r, s) refl

-- the low bits of an immediate in range spell it
spelled_12 : (z : ℤ) (n : ℕ) → negsuc 2047 ≤ℤ z → z ≤ℤ pos 2047 → n ≡ cast_unsigned w32 z % 2 ^ 12 → Spells 4095 n z
spelled_12 (pos a) n low high e = let below : a ≤ 2047 = omega (arith, ints) in omega arith
spelled_12 (negsuc a) n low high e = let below : a ≤ 2047 = omega (arith, ints) in omega arith

spelled_13 : (z : ℤ) (n : ℕ) → negsuc 4095 ≤ℤ z → z ≤ℤ pos 4095 → n ≡ cast_unsigned w32 z % 2 ^ 13 → Spells 8191 n z
spelled_13 (pos a) n low high e = let below : a ≤ 4095 = omega (arith, ints) in omega arith
spelled_13 (negsuc a) n low high e = let below : a ≤ 4095 = omega (arith, ints) in omega arith

spelled_21 : (z : ℤ) (n : ℕ) → negsuc 1048575 ≤ℤ z → z ≤ℤ pos 1048575 → n ≡ cast_unsigned w32 z % 2 ^ 21 → Spells 2097151 n z
spelled_21 (pos a) n low high e = let below : a ≤ 1048575 = omega (arith, ints) in omega arith
spelled_21 (negsuc a) n low high e = let below : a ≤ 1048575 = omega (arith, ints) in omega arith

spelled_32 : (z : ℤ) (n : ℕ) → negsuc 2147483647 ≤ℤ z → z ≤ℤ pos 2147483647 → n ≡ cast_unsigned w32 z % 2 ^ 32 → Spells 4294967295 n z
spelled_32 (pos a) n low high e = let below : a ≤ 2147483647 = omega (arith, ints) in omega arith
spelled_32 (negsuc a) n low high e = let below : a ≤ 2147483647 = omega (arith, ints) in omega arith

shift_spelled : (z : ℤ) (n : ℕ) → pos 0 ≤ℤ z → z ≤ℤ pos 31 → n ≡ field (cast_unsigned w32 z) 0 5 → pos n ≡ z
shift_spelled (pos a) n low high e = let below : a ≤ 31 = omega (arith, ints) in ap pos (omega arith)
shift_spelled (negsuc a) n low high e = absurd (omega (arith, ints))

-- the word that has the fields of a well-formed instruction
module _ (p : ℕ) (i : Inst) (rd : i.rd < 32) (rs1 : i.rs1 < 32) (rs2 : i.rs2 < 32) where
  pub placed_below : (format : Format) → IsPattern format p → FitsFormat format i → p + field_bits format i < 2 ^ 32
  unfolding field_bits FitsFormat
  placed_below R pattern fields = omega arith
  placed_below I pattern fields = omega arith
  placed_below S pattern fields = omega arith
  placed_below B pattern fields = omega arith
  placed_below U pattern fields = omega arith
  placed_below J pattern fields = omega arith
  placed_below Shift pattern fields = omega arith
  placed_below Fieldless pattern fields = omega arith

  pub placed_fixed : (format : Format) (w : ℕ) → IsPattern format p → FitsFormat format i → w ≡ p + field_bits format i → are_fixed (w % 2 ^ 7) (field w 12 3) (field w 25 7) w format p ≡ true
  unfolding field_bits FitsFormat
  placed_fixed R w pattern fields e = fix_three (w % 2 ^ 7) (p % 2 ^ 7) (field w 12 3) (field p 12 3) (field w 25 7) (field p 25 7) (omega arith) (omega arith) (omega arith)
  placed_fixed I w pattern fields e = fix_two (w % 2 ^ 7) (p % 2 ^ 7) (field w 12 3) (field p 12 3) (omega arith) (omega arith)
  placed_fixed S w pattern fields e = fix_two (w % 2 ^ 7) (p % 2 ^ 7) (field w 12 3) (field p 12 3) (omega arith) (omega arith)
  placed_fixed B w pattern fields e = fix_two (w % 2 ^ 7) (p % 2 ^ 7) (field w 12 3) (field p 12 3) (omega arith) (omega arith)
  placed_fixed U w pattern fields e = eq-eqb (w % 2 ^ 7) (p % 2 ^ 7) (omega arith)
  placed_fixed J w pattern fields e = eq-eqb (w % 2 ^ 7) (p % 2 ^ 7) (omega arith)
  placed_fixed Shift w pattern fields e = fix_three (w % 2 ^ 7) (p % 2 ^ 7) (field w 12 3) (field p 12 3) (field w 25 7) (field p 25 7) (omega arith) (omega arith) (omega arith)
  placed_fixed Fieldless w pattern fields e = fix_two (w % 2 ^ 7) (p % 2 ^ 7) w p (omega arith) (omega arith)

  pub read_placed : (format : Format) (w : ℕ) → IsPattern format p → FitsFormat format i → w ≡ p + field_bits format i → instruction_in format i.op w ≡ i
  unfolding field_bits instruction_in FitsFormat
  read_placed R w pattern fields e =
      same_inst i.op _ _ _ _ _ _ _ _ (omega arith) (omega arith) (omega arith) (sym fields)
  read_placed I w pattern fields e =
      let bits = spelled_12 i.imm (bits_i w) fields.1 fields.2 (omega arith) in
      same_inst i.op _ _ _ _ _ _ _ _ (omega arith) (omega arith) (omega arith) (complement_spelled 2047 4095 refl i.imm (bits_i w) fields.1 fields.2 bits)
  read_placed S w pattern fields e =
      let bits = spelled_12 i.imm (bits_s w) fields.1 fields.2 (omega arith) in
      same_inst i.op _ _ _ _ _ _ _ _ (omega arith) (omega arith) (omega arith) (complement_spelled 2047 4095 refl i.imm (bits_s w) fields.1 fields.2 bits)
  read_placed B w pattern fields e =
      let high : i.imm ≤ℤ pos 4095 = omega (arith, ints) in
      let bits = spelled_13 i.imm (bits_b w) fields.1 high (omega arith) in
      same_inst i.op _ _ _ _ _ _ _ _ (omega arith) (omega arith) (omega arith) (complement_spelled 4095 8191 refl i.imm (bits_b w) fields.1 high bits)
  read_placed U w pattern fields e =
      let bits = spelled_32 i.imm (bits_u w) fields.2 fields.3 (omega arith) in
      same_inst i.op _ _ _ _ _ _ _ _ (omega arith) (omega arith) (omega arith) (complement_spelled 2147483647 4294967295 refl i.imm (bits_u w) fields.2 fields.3 bits)
  read_placed J w pattern fields e =
      let high : i.imm ≤ℤ pos 1048575 = omega (arith, ints) in
      let bits = spelled_21 i.imm (bits_j w) fields.2 high (omega arith) in
      same_inst i.op _ _ _ _ _ _ _ _ (omega arith) (omega arith) (omega arith) (complement_spelled 1048575 2097151 refl i.imm (bits_j w) fields.2 high bits)
  read_placed Shift w pattern fields e =
      same_inst i.op _ _ _ _ _ _ _ _ (omega arith) (omega arith) (omega arith) (shift_spelled i.imm (field w 20 5) fields.1 fields.2 (omega arith))
  read_placed Fieldless w pattern fields e =
      same_inst i.op _ _ _ _ _ _ _ _ (omega arith) (omega arith) (omega arith) (sym fields.3)

-- what is instruction_in fits the format
pub read_registers : (format : Format) (op : Op) (w : ℕ) → let i = instruction_in format op w in ((i.op ≡ op) × (i.rd < 32) × (i.rs1 < 32) × (i.rs2 < 32))
unfolding instruction_in
read_registers R op w = (refl, omega arith, omega arith, omega arith)
read_registers I op w = (refl, omega arith, omega arith, omega arith)
read_registers S op w = (refl, omega arith, omega arith, omega arith)
read_registers B op w = (refl, omega arith, omega arith, omega arith)
read_registers U op w = (refl, omega arith, omega arith, omega arith)
read_registers J op w = (refl, omega arith, omega arith, omega arith)
read_registers Shift op w = (refl, omega arith, omega arith, omega arith)
read_registers Fieldless op w = (refl, omega arith, omega arith, omega arith)

pub read_fits : (format : Format) (op : Op) (w : ℕ) → FitsFormat format (instruction_in format op w)
unfolding instruction_in FitsFormat
read_fits R op w = refl
read_fits I op w =
    let range = complement_range 2047 4095 refl (bits_i w) (omega arith) in
    (refl, range.0, range.1)
read_fits S op w =
    let range = complement_range 2047 4095 refl (bits_s w) (omega arith) in
    (refl, range.0, range.1)
read_fits B op w =
    let range = complement_range 4095 8191 refl (bits_b w) (omega arith) in
    let imm = complement_word 4095 8191 refl (bits_b w) (omega arith) (omega arith) in
    (refl, range.0, complement_at_most 4095 8191 refl (bits_b w) 4094 (omega arith) (λ h. omega arith), omega (arith, imm))
read_fits U op w =
    let range = complement_range 2147483647 4294967295 refl (bits_u w) (omega arith) in
    let imm = complement_word 2147483647 4294967295 refl (bits_u w) (omega arith) (omega arith) in
    (refl, refl, range.0, range.1, omega (arith, imm))
read_fits J op w =
    let range = complement_range 1048575 2097151 refl (bits_j w) (omega arith) in
    let imm = complement_word 1048575 2097151 refl (bits_j w) (omega arith) (omega arith) in
    (refl, refl, range.0, complement_at_most 1048575 2097151 refl (bits_j w) 1048574 (omega arith) (λ h. omega arith), omega (arith, imm))
read_fits Shift op w = (refl, omega (arith, ints), omega (arith, ints))
read_fits Fieldless op w = (refl, refl, refl, refl)
