-- The texts of instructions are read back, by the style of their operands.
use Rattle.std.proofs.Common.{◌≡◌, ℕ, ◌*◌, ◌^◌, ◌<◌, ◌≤◌, ◌&&◌, ℤ, pos, negsuc, ◌≤ℤ◌, Bool, true, false, List, [], ◌∷◌, ◌++◌, Some, Ok, codes, refl, sym, arith}
use Rattle.std.proofs.lemmas.Bool.{and_from}
use Rattle.std.proofs.lemmas.Int.{ints}
use Rattle.std.specs.Fmt.{digits, signed_decimal}
use Rattle.std.specs.List.{list_all}
use Rattle.rv32_decode.specs.Encoding.{FitsFormat, imm_bits}
use Rattle.rv32_decode.specs.Target.{target_of}
use Rattle.rv32_decode.specs.Words.{signed_number}
use Rattle.rv32_decode.specs.declared.Inst.{Inst}
use Rattle.rv32_decode.specs.declared.table.Format.{Format}
use Rattle.rv32_decode.specs.declared.table.Format.TheVariants.{R, I, S, B, U, J, Shift}
use Rattle.rv32_text.specs.Registers.{register_name}
use Rattle.rv32_text.specs.Text.{instruction_text, memory_operand, operand_texts, target_text, upper_text}
use Rattle.sec_base.specs.Hexadecimal.{hex_digits}
use Rattle.rv32_text.specs.declared.style.Style.{Style}
use Rattle.rv32_text.specs.declared.style.Style.TheVariants.{Registers, Immediate, Offset, Store, Upper, Branch, Jump, Fence, Bare}
use Rattle.rv32_asm.specs.Encoding.{distance, fits_format, immediate_of, is_even}
use Rattle.rv32_asm_syntax.specs.Keywords.{Operand}
use Rattle.rv32_asm_syntax.specs.Keywords.{InstructionKeyword, keyword_of, operands_in}
use Rattle.rv32_asm_syntax.specs.Numbers.{is_between}
use Rattle.rv32_asm_syntax.specs.Reading.{statement_of, with_operands}
use Rattle.rv32_asm_syntax.specs.Statements.{Instructions, instruction}
use Rattle.rv32_asm.proofs.TextImmediates.{between_true, distance_target, even_true, upper_word}
use Rattle.rv32_asm.proofs.TextKeywords.{has_format, is_word}
use Rattle.rv32_asm.proofs.TextLines.{is_plain}
use Rattle.rv32_asm.proofs.TextNumbers.{digits_operand, hex_digits_operand, signed_operand}
use Rattle.rv32_asm.proofs.TextOperands.{is_operand}
use Rattle.rv32_asm.proofs.Readings.{instruction_line, made}
use Rattle.rv32_asm.proofs.TextRegisters.{register_operand}
use Rattle.rv32_asm.proofs.TextStatements.{line_plain}
use Rattle.rv32_asm.proofs.Styles.{branch_read, immediate_read, jump_read, offset_read, place, place_operand, registers_read, store_read, upper_read}

-- what a text at an address is read as, and that it fits there
pub record IsRead (format : Format) (address : ℕ) (i : Inst) (text : List ℕ) : Type 0 where
  pub rd : ℕ
  pub rs1 : ℕ
  pub rs2 : ℕ
  pub value : ℤ
  pub plain : list_all is_plain text ≡ true
  pub means : statement_of text ≡ Ok (Instructions (instruction i.op rd rs1 rs2 value ∷ []))
  pub fits : fits_format format address value ≡ true
  pub same : made i.op rd rs1 rs2 (immediate_of format address value) ≡ i

same_made : (i : Inst) (rd rs1 rs2 : ℕ) (imm : ℤ) → rd ≡ i.rd → rs1 ≡ i.rs1 → rs2 ≡ i.rs2 → imm ≡ i.imm →
    made i.op rd rs1 rs2 imm ≡ i
same_made i rd rs1 rs2 imm a b c d = rw (a, b, c, d) refl

-- what fits in twelve bits or more fits in a word
wide : (z : ℤ) (low high : ℕ) → negsuc low ≤ℤ z → z ≤ℤ pos high → low ≤ 2147483647 → high ≤ 2147483647 →
    (negsuc 2147483647 ≤ℤ z) × (z ≤ℤ pos 2147483647)
wide z low high a b c d = (omega (arith, ints), omega (arith, ints))

far_fits : (far imm low high : ℤ) → far ≡ imm → is_even imm ≡ true → low ≤ℤ imm → imm ≤ℤ high →
    (is_even far && is_between low high far) ≡ true
far_fits far imm low high e even a b = rw e (and_from (is_even imm) (is_between low high imm) even (between_true low high imm a b))

below_target : (i : Inst) (pc : ℕ) → target_of i pc < 2 ^ 32
below_target i pc = omega arith

upper_below : (i : Inst) → imm_bits i 12 20 < 2 ^ 20
upper_below i = omega arith

upper_fits : (n : ℕ) → n < 2 ^ 20 → is_between (pos 0) (pos 1048575) (pos n) ≡ true
upper_fits n below = between_true (pos 0) (pos 1048575) (pos n) (omega (arith, ints)) (omega (arith, ints))

-- the styles with operands
abbrev pub is_spoken : Style → Bool
is_spoken Fence = false
is_spoken Bare = false
is_spoken _ = true

read_line : (format : Format) (address : ℕ) (i : Inst) (name first : List ℕ) (others : List (List ℕ)) (operands : List Operand)
    (initial : ℤ) (rd rs1 rs2 : ℕ) (value : ℤ) → is_word name ≡ true →
    keyword_of name ≡ Some (InstructionKeyword operands (instruction i.op 0 0 0 initial)) → is_operand first ≡ true →
    list_all is_operand others ≡ true →
    with_operands operands (first ∷ others) (instruction i.op 0 0 0 initial) ≡ Some (instruction i.op rd rs1 rs2 value) →
    fits_format format address value ≡ true → made i.op rd rs1 rs2 (immediate_of format address value) ≡ i →
    IsRead format address i (instruction_text name (first ∷ others))
read_line format address i name first others operands initial rd rs1 rs2 value word found operand all read fits same = record {
  rd = rd;
  rs1 = rs1;
  rs2 = rs2;
  value = value;
  plain = line_plain name first others (InstructionKeyword operands (instruction i.op 0 0 0 initial)) word found operand all;
  means = instruction_line name first others operands (instruction i.op 0 0 0 initial) (instruction i.op rd rs1 rs2 value) word found operand all read;
  fits = fits;
  same = same;
}

two : (first second : List ℕ) → is_operand first ≡ true → is_operand second ≡ true →
    list_all is_operand (first ∷ second ∷ []) ≡ true
two first second a b = rw (a, b) refl

one : (first : List ℕ) → is_operand first ≡ true → list_all is_operand (first ∷ []) ≡ true
one first a = rw a refl

module _ (i : Inst) (address : ℕ) (name : List ℕ) (word : is_word name ≡ true) (initial : ℤ)
    (a : i.rd < 32) (b : i.rs1 < 32) (c : i.rs2 < 32) where
  pub styled : (s : Style) (f : Format) → is_spoken s ≡ true → has_format s f ≡ true → FitsFormat f i →
      keyword_of name ≡ Some (InstructionKeyword (operands_in s) (instruction i.op 0 0 0 initial)) →
      IsRead f address i (instruction_text name (operand_texts s i address))
  unfolding FitsFormat memory_operand upper_text target_text
  styled Registers R spoken ok fields found =
      read_line R address i name (register_name i.rd) (register_name i.rs1 ∷ register_name i.rs2 ∷ []) (operands_in Registers)
      initial i.rd i.rs1 i.rs2 initial word found (register_operand i.rd a)
      (two (register_name i.rs1) (register_name i.rs2) (register_operand i.rs1 b) (register_operand i.rs2 c))
      (registers_read i.op i.rd i.rs1 i.rs2 a b c initial) refl
      (same_made i i.rd i.rs1 i.rs2 (pos 0) refl refl refl (sym fields))
  styled Immediate I spoken ok fields found =
      let range = wide i.imm 2047 2047 fields.1 fields.2 (omega arith) (omega arith) in
      read_line I address i name (register_name i.rd) (register_name i.rs1 ∷ signed_decimal i.imm ∷ []) (operands_in Immediate)
      initial i.rd i.rs1 0 i.imm word found (register_operand i.rd a)
      (two (register_name i.rs1) (signed_decimal i.imm) (register_operand i.rs1 b) (signed_operand i.imm range.0 range.1))
      (immediate_read i.op i.rd i.rs1 i.rs2 a b c initial i.imm range.0 range.1)
      (between_true (negsuc 2047) (pos 2047) i.imm fields.1 fields.2)
      (same_made i i.rd i.rs1 0 i.imm refl refl (sym fields.0) refl)
  styled Immediate Shift spoken ok fields found =
      let low : negsuc 2147483647 ≤ℤ i.imm = omega (arith, ints) in
      let high : i.imm ≤ℤ pos 2147483647 = omega (arith, ints) in
      read_line Shift address i name (register_name i.rd) (register_name i.rs1 ∷ signed_decimal i.imm ∷ []) (operands_in Immediate)
      initial i.rd i.rs1 0 i.imm word found (register_operand i.rd a)
      (two (register_name i.rs1) (signed_decimal i.imm) (register_operand i.rs1 b) (signed_operand i.imm low high))
      (immediate_read i.op i.rd i.rs1 i.rs2 a b c initial i.imm low high)
      (between_true (pos 0) (pos 31) i.imm fields.1 fields.2)
      (same_made i i.rd i.rs1 0 i.imm refl refl (sym fields.0) refl)
  styled Offset I spoken ok fields found =
      let range = wide i.imm 2047 2047 fields.1 fields.2 (omega arith) (omega arith) in
      read_line I address i name (register_name i.rd) (place i.imm i.rs1 ∷ []) (operands_in Offset)
      initial i.rd i.rs1 0 i.imm word found (register_operand i.rd a)
      (one (place i.imm i.rs1) (place_operand i.imm i.rs1 range.0 range.1 b))
      (offset_read i.op i.rd i.rs1 i.rs2 a b c initial i.imm range.0 range.1)
      (between_true (negsuc 2047) (pos 2047) i.imm fields.1 fields.2)
      (same_made i i.rd i.rs1 0 i.imm refl refl (sym fields.0) refl)
  styled Store S spoken ok fields found =
      let range = wide i.imm 2047 2047 fields.1 fields.2 (omega arith) (omega arith) in
      read_line S address i name (register_name i.rs2) (place i.imm i.rs1 ∷ []) (operands_in Store)
      initial 0 i.rs1 i.rs2 i.imm word found (register_operand i.rs2 c)
      (one (place i.imm i.rs1) (place_operand i.imm i.rs1 range.0 range.1 b))
      (store_read i.op i.rd i.rs1 i.rs2 a b c initial i.imm range.0 range.1)
      (between_true (negsuc 2047) (pos 2047) i.imm fields.1 fields.2)
      (same_made i 0 i.rs1 i.rs2 i.imm (sym fields.0) refl refl refl)
  styled Upper U spoken ok fields found =
      let n = imm_bits i 12 20 in
      let below = upper_below i in
      let less : n < 2 ^ 32 = omega arith in
      read_line U address i name (register_name i.rd) ((codes "0x" ++ digits 16 false n) ∷ []) (operands_in Upper)
      initial i.rd 0 0 (pos n) word found (register_operand i.rd a)
      (one (codes "0x" ++ digits 16 false n) (digits_operand n less))
      (upper_read i.op i.rd i.rs1 i.rs2 a b c initial n less)
      (upper_fits n below)
      (same_made i i.rd 0 0 (signed_number 32 (n * 2 ^ 12)) refl (sym fields.0) (sym fields.1) (upper_word i.imm fields.4 fields.2 fields.3))
  styled Branch B spoken ok fields found =
      let range = wide i.imm 4095 4094 fields.1 fields.2 (omega arith) (omega arith) in
      let n = target_of i address in
      let less = below_target i address in
      let back = distance_target address i.imm range.0 range.1 in
      read_line B address i name (register_name i.rs1) (register_name i.rs2 ∷ (codes "0x" ++ hex_digits 8 n) ∷ []) (operands_in Branch)
      initial 0 i.rs1 i.rs2 (pos n) word found (register_operand i.rs1 b)
      (two (register_name i.rs2) (codes "0x" ++ hex_digits 8 n) (register_operand i.rs2 c) (hex_digits_operand 8 n less))
      (branch_read i.op i.rd i.rs1 i.rs2 a b c initial n less)
      (far_fits (distance address (pos n)) i.imm (negsuc 4095) (pos 4094) back (even_true i.imm fields.3 range.0) fields.1 fields.2)
      (same_made i 0 i.rs1 i.rs2 (distance address (pos n)) (sym fields.0) refl refl back)
  styled Jump J spoken ok fields found =
      let range = wide i.imm 1048575 1048574 fields.2 fields.3 (omega arith) (omega arith) in
      let n = target_of i address in
      let less = below_target i address in
      let back = distance_target address i.imm range.0 range.1 in
      read_line J address i name (register_name i.rd) ((codes "0x" ++ hex_digits 8 n) ∷ []) (operands_in Jump)
      initial i.rd 0 0 (pos n) word found (register_operand i.rd a)
      (one (codes "0x" ++ hex_digits 8 n) (hex_digits_operand 8 n less))
      (jump_read i.op i.rd i.rs1 i.rs2 a b c initial n less)
      (far_fits (distance address (pos n)) i.imm (negsuc 1048575) (pos 1048574) back (even_true i.imm fields.4 range.0) fields.2 fields.3)
      (same_made i i.rd 0 0 (distance address (pos n)) refl (sym fields.0) (sym fields.1) back)
  styled _ _ spoken ok fields found = cc
