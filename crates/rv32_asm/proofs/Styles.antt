-- The operands of each style are read back.
use Rattle.std.proofs.Common.{◌≡◌, ℕ, ◌<◌, ◌^◌, ◌==◌, ℤ, pos, negsuc, ◌≤ℤ◌, true, false, not, List, [], ◌∷◌, ◌++◌, Option, Some, length, codes, option_and_then, refl, ap, ◌∙◌, arith}
use Rattle.std.proofs.Math.Seq.{take-append_seam, drop-append-add}
use Rattle.std.proofs.lemmas.Bool.{and_from, and_parts}
use Rattle.std.proofs.lemmas.List.Folds.{list_all-append}
use Rattle.std.specs.Fmt.{digits, signed_decimal}
use Rattle.std.specs.List.{after_first, before_first, list_all, position_or_len}
use Rattle.rv32_decode.specs.declared.Op.{Op}
use Rattle.rv32_text.specs.Registers.{register_name}
use Rattle.sec_base.specs.Hexadecimal.{hex_digits}
use Rattle.rv32_text.specs.declared.style.Style.TheVariants.{Registers, Immediate, Offset, Store, Upper, Branch, Jump}
use Rattle.rv32_asm_syntax.specs.Characters.{trim_blanks}
use Rattle.rv32_asm_syntax.specs.Expressions.{Expression, expression_of, number_alone}
use Rattle.rv32_asm_syntax.specs.Keywords.{operands_in}
use Rattle.rv32_asm_syntax.specs.Reading.{enclosed_register, offset_of, memory_operand_of, with_operands}
use Rattle.rv32_asm_syntax.specs.Statements.{instruction}
use Rattle.rv32_asm.proofs.TextNumbers.{digits_read, hex_digits_read, is_figure, signed_figures, signed_operand, signed_read}
use Rattle.rv32_asm.proofs.TextOperands.{is_operand, is_solid, trimmed_solid}
use Rattle.rv32_asm.proofs.TextRegisters.{base_operand, base_read, register_read}

-- ---- places in memory

position_open : (front back : List ℕ) → list_all is_figure front ≡ true →
    position_or_len (λ byte. byte == 40) (front ++ 40 ∷ back) ≡ length front
position_open [] back all = refl
position_open (byte ∷ bytes) back all =
    let parts = and_parts (is_figure byte) (list_all is_figure bytes) all in
    let figure = and_parts (is_solid byte) (not (byte == 40)) parts.0 in
    let rest = position_open bytes back parts.1 in
    rw (figure.1, rest) (omega arith)

before_open : (front back : List ℕ) → list_all is_figure front ≡ true →
    before_first (λ byte. byte == 40) (front ++ 40 ∷ back) ≡ front
before_open front back all = rw (position_open front back all) (take-append_seam front (40 ∷ back))

after_open : (front back : List ℕ) → list_all is_figure front ≡ true →
    after_first (λ byte. byte == 40) (front ++ 40 ∷ back) ≡ back
after_open front back all = rw (position_open front back all) (drop-append-add front (40 ∷ back) 1)

abbrev joined : Option Expression → Option ℕ → Option (Expression × ℕ)
joined offset base = option_and_then (λ o. option_and_then (λ b. Some (o, b)) base) offset

joined_is : (o : Option Expression) (b : Option ℕ) (offset : Expression) (base : ℕ) → o ≡ Some offset → b ≡ Some base →
    joined o b ≡ Some (offset, base)
joined_is o b offset base e f = rw (e, f) refl

offset_full : (text : List ℕ) → is_operand text ≡ true → offset_of text ≡ expression_of text
offset_full [] operand = cc
offset_full (byte ∷ bytes) operand = refl

place_parts : (front back : List ℕ) (offset : Expression) (base : ℕ) → list_all is_figure front ≡ true →
    is_operand front ≡ true → expression_of front ≡ Some offset → enclosed_register back ≡ Some base →
    memory_operand_of (front ++ 40 ∷ back) ≡ Some (offset, base)
place_parts front back offset base all operand e f =
    let text = front ++ 40 ∷ back in
    let before : offset_of (trim_blanks (before_first (λ byte. byte == 40) text)) ≡ Some offset
    = ap (λ t. offset_of (trim_blanks t)) (before_open front back all)
    ∙ (ap offset_of (trimmed_solid front operand) ∙ (offset_full front operand ∙ e)) in
    let after : enclosed_register (after_first (λ byte. byte == 40) text) ≡ Some base
    = ap enclosed_register (after_open front back all) ∙ f in
    joined_is (offset_of (trim_blanks (before_first (λ byte. byte == 40) text)))
    (enclosed_register (after_first (λ byte. byte == 40) text)) offset base before after

-- the text of a place
abbrev pub place : ℤ → ℕ → List ℕ
place imm base = signed_decimal imm ++ (codes "(" ++ (register_name base ++ codes ")"))

pub place_read : (imm : ℤ) (base : ℕ) → negsuc 2147483647 ≤ℤ imm → imm ≤ℤ pos 2147483647 → base < 32 →
    memory_operand_of (place imm base) ≡ Some (number_alone imm, base)
place_read imm base low high below =
    place_parts (signed_decimal imm) (register_name base ++ codes ")") (number_alone imm) base
    (signed_figures imm low high) (signed_operand imm low high) (signed_read imm low high) (base_read base below)

operand_append : (front back : List ℕ) → is_operand front ≡ true → list_all is_solid back ≡ true →
    is_operand (front ++ back) ≡ true
operand_append [] back operand all = cc
operand_append (byte ∷ bytes) back operand all =
    list_all-append is_solid (byte ∷ bytes) back
    ∙ and_from (list_all is_solid (byte ∷ bytes)) (list_all is_solid back) operand all

pub place_operand : (imm : ℤ) (base : ℕ) → negsuc 2147483647 ≤ℤ imm → imm ≤ℤ pos 2147483647 → base < 32 →
    is_operand (place imm base) ≡ true
place_operand imm base low high below =
    operand_append (signed_decimal imm) (codes "(" ++ (register_name base ++ codes ")")) (signed_operand imm low high)
    (base_operand base below)

-- ---- the styles

module _ (op : Op) (rd rs1 rs2 : ℕ) (a : rd < 32) (b : rs1 < 32) (c : rs2 < 32) (initial : ℤ) where
  pub registers_read : with_operands (operands_in Registers)
      (register_name rd ∷ register_name rs1 ∷ register_name rs2 ∷ []) (instruction op 0 0 0 initial)
      ≡ Some (instruction op rd rs1 rs2 initial)
  registers_read = rw (register_read rd a, register_read rs1 b, register_read rs2 c) refl

  module _ (imm : ℤ) (low : negsuc 2147483647 ≤ℤ imm) (high : imm ≤ℤ pos 2147483647) where
    pub immediate_read : with_operands (operands_in Immediate)
        (register_name rd ∷ register_name rs1 ∷ signed_decimal imm ∷ []) (instruction op 0 0 0 initial)
        ≡ Some (instruction op rd rs1 0 imm)
    immediate_read = rw (register_read rd a, register_read rs1 b, signed_read imm low high) refl

    pub offset_read : with_operands (operands_in Offset) (register_name rd ∷ place imm rs1 ∷ [])
        (instruction op 0 0 0 initial)
        ≡ Some (instruction op rd rs1 0 imm)
    offset_read = rw (register_read rd a, place_read imm rs1 low high b) refl

    pub store_read : with_operands (operands_in Store) (register_name rs2 ∷ place imm rs1 ∷ [])
        (instruction op 0 0 0 initial)
        ≡ Some (instruction op 0 rs1 rs2 imm)
    store_read = rw (register_read rs2 c, place_read imm rs1 low high b) refl

  module _ (n : ℕ) (below : n < 2 ^ 32) where
    pub upper_read : with_operands (operands_in Upper) (register_name rd ∷ (codes "0x" ++ digits 16 false n) ∷ [])
        (instruction op 0 0 0 initial)
        ≡ Some (instruction op rd 0 0 (pos n))
    upper_read = rw (register_read rd a, digits_read n below) refl

    pub branch_read : with_operands (operands_in Branch)
        (register_name rs1 ∷ register_name rs2 ∷ (codes "0x" ++ hex_digits 8 n) ∷ []) (instruction op 0 0 0 initial)
        ≡ Some (instruction op 0 rs1 rs2 (pos n))
    branch_read = rw (register_read rs1 b, register_read rs2 c, hex_digits_read 8 n below) refl

    pub jump_read : with_operands (operands_in Jump) (register_name rd ∷ (codes "0x" ++ hex_digits 8 n) ∷ [])
        (instruction op 0 0 0 initial)
        ≡ Some (instruction op rd 0 0 (pos n))
    jump_read = rw (register_read rd a, hex_digits_read 8 n below) refl
