-- What a text's statement says of its line in the two passes.
use Rattle.std.proofs.Common.{◌≡◌, ℕ, ◌+◌, ◌%◌, ◌^◌, ◌<◌, ◌≤◌, ◌&&◌, ℤ, pos, true, false, List, [], ◌∷◌, ◌++◌, Some, Ok, codes, refl, ap, ◌∙◌, arith}
use Rattle.std.proofs.lemmas.Bool.{and_from, eq-eqb, le-leb, le-ltb}
use Rattle.std.proofs.lemmas.List.{append-nil}
use Rattle.std.specs.Int.{to_le_bytes, w32}
use Rattle.std.specs.List.{list_all}
use Rattle.sec_base.specs.declared.width.Width.{Width}
use Rattle.sec_base.specs.declared.width.Width.TheVariants.{Four}
use Rattle.rv32_decode.specs.Encoding.{word_of}
use Rattle.rv32_decode.specs.Table.{ops, row_of, rows}
use Rattle.rv32_decode.specs.declared.Inst.{Inst}
use Rattle.rv32_decode.specs.declared.Op.{Op}
use Rattle.rv32_text.specs.Mnemonics.{mnemonic_of}
use Rattle.rv32_text.specs.Text.{data_text, instruction_text, text_of_word}
use Rattle.sec_base.specs.Hexadecimal.{hex_digits}
use Rattle.rv32_asm.specs.Encoding.{encoded_bytes, encoded_at, fits_at, fits_format, fits_width, immediate_of, is_in_range, misses_label}
use Rattle.rv32_asm_syntax.specs.Expressions.{number_alone}
use Rattle.rv32_asm_syntax.specs.Keywords.{Operand}
use Rattle.rv32_asm_syntax.specs.Keywords.{DataKeyword, InstructionKeyword, directives, keyword_of, keywords, long_pseudoinstructions, pseudoinstructions, row_entries}
use Rattle.rv32_asm.specs.Labels.{Label}
use Rattle.rv32_asm.specs.Law.{IsReadBack}
use Rattle.rv32_asm.specs.Layout.{is_misplaced, size_at}
use Rattle.rv32_asm_syntax.specs.Lines.{labels_of}
use Rattle.rv32_asm.specs.Passes.{Progress, after_line, line_bytes}
use Rattle.rv32_asm_syntax.specs.Reading.{statement_of, statement_with, with_operands}
use Rattle.rv32_asm_syntax.specs.Statements.{Data, Instruction, Instructions, Statement, instruction}
use Rattle.rv32_asm.specs.Values.{immediate_value, modulo}
use Rattle.rv32_asm.proofs.TextImmediates.{value_alone}
use Rattle.rv32_asm.proofs.TextKeywords.{is_word}
use Rattle.rv32_asm.proofs.TextLines.{followed_line, is_plain, plain_labels, plain_line}
use Rattle.rv32_asm.proofs.TextNumbers.{hex_digits_operand, hex_digits_read}
use Rattle.rv32_asm.proofs.TextOperands.{is_operand, operands_read}
use Rattle.rv32_asm.proofs.TextStatements.{line_plain, statement_read}

-- what a statement has to be at an address
pub record IsStatementOf (word address : ℕ) (meaning : Statement) : Type 0 where
  pub placed : is_misplaced address meaning ≡ false
  pub size : size_at address meaning ≡ 4
  pub known : (labels : List Label) → misses_label labels meaning ≡ false
  pub fits : (labels : List Label) → is_in_range labels address meaning ≡ true
  pub bytes : (labels : List Label) → encoded_bytes labels address meaning ≡ to_le_bytes w32 word

passed_text : (size address number : ℕ) (text : List ℕ) (meaning : Statement) (progress : Progress) →
    labels_of text ≡ [] → statement_of text ≡ Ok meaning → is_misplaced address meaning ≡ false →
    size_at address meaning ≡ 4 → address + 4 ≤ size → progress.address ≡ address →
    after_line size number progress text ≡ Ok (record progress { address = address + 4 })
unfolding after_line
passed_text size address number text meaning progress none means placed four inside here =
    rw (none, means, here, placed, four, le-ltb size (address + 4) inside) refl

pub emitted_text : (labels : List Label) (address : ℕ) (text bytes : List ℕ) (meaning : Statement) →
    statement_of text ≡ Ok meaning → misses_label labels meaning ≡ false → is_in_range labels address meaning ≡ true →
    encoded_bytes labels address meaning ≡ bytes → line_bytes labels address text ≡ Ok bytes
unfolding line_bytes
emitted_text labels address text bytes meaning means known fits e = rw (means, known, fits, e) refl

text_read : (size word address : ℕ) (text : List ℕ) (meaning : Statement) → list_all is_plain text ≡ true →
    statement_of text ≡ Ok meaning → address + 4 ≤ size → IsStatementOf word address meaning →
    IsReadBack size text word address
text_read size word address text meaning plain means inside is = record {
  one_line = plain_line text plain;
  followed = λ rest. followed_line text rest plain;
  in_first_pass = λ number progress here. passed_text size address number text meaning progress (plain_labels text plain) means is.placed is.size inside here;
  in_second_pass = λ labels. emitted_text labels address text (to_le_bytes w32 word) meaning means (is.known labels) (is.fits labels) (is.bytes labels);
}

-- the text of a word is read back
abbrev pub IsWordBack : ℕ → ℕ → ℕ → Type 0
IsWordBack size word address = IsReadBack size (text_of_word word address) word address

pub read_back : (size word address : ℕ) (text : List ℕ) (meaning : Statement) → text_of_word word address ≡ text →
    list_all is_plain text ≡ true → statement_of text ≡ Ok meaning → address + 4 ≤ size →
    IsStatementOf word address meaning → IsWordBack size word address
read_back size word address text meaning e plain means inside is =
    rw e (text_read size word address text meaning plain means inside is)

-- ---- instructions

abbrev pub made : Op → ℕ → ℕ → ℕ → ℤ → Inst
made op rd rs1 rs2 imm = record { op = op; rd = rd; rs1 = rs1; rs2 = rs2; imm = imm }

fits_alone : (labels : List Label) (address : ℕ) (op : Op) (rd rs1 rs2 : ℕ) (value : ℤ) →
    fits_at labels address (instruction op rd rs1 rs2 value) ≡ fits_format (row_of op).format address value
unfolding fits_at immediate_value
fits_alone labels address op rd rs1 rs2 value = ap (fits_format (row_of op).format address) (value_alone labels value)

encoded_alone : (labels : List Label) (address : ℕ) (op : Op) (rd rs1 rs2 : ℕ) (value : ℤ) →
    encoded_at labels address (instruction op rd rs1 rs2 value)
    ≡ made op rd rs1 rs2 (immediate_of (row_of op).format address value)
unfolding encoded_at immediate_value
encoded_alone labels address op rd rs1 rs2 value =
    ap (λ v. made op rd rs1 rs2 (immediate_of (row_of op).format address v)) (value_alone labels value)

-- an instruction at an address that is a multiple of 4
pub instruction_is : (word address : ℕ) (op : Op) (rd rs1 rs2 : ℕ) (value : ℤ) → address % 4 ≡ 0 →
    fits_format (row_of op).format address value ≡ true →
    word_of (made op rd rs1 rs2 (immediate_of (row_of op).format address value)) ≡ word →
    IsStatementOf word address (Instructions (instruction op rd rs1 rs2 value ∷ []))
unfolding is_misplaced size_at misses_label is_in_range encoded_bytes
instruction_is word address op rd rs1 rs2 value aligned fits e = record {
  placed = rw (eq-eqb (address % 4) 0 aligned) refl;
  size = refl;
  known = λ labels. refl;
  fits = λ labels. and_from (fits_at labels address (instruction op rd rs1 rs2 value)) true
      (fits_alone labels address op rd rs1 rs2 value ∙ fits) refl;
  bytes = λ labels. ap (λ i. to_le_bytes w32 (word_of i) ++ []) (encoded_alone labels address op rd rs1 rs2 value)
      ∙ ap (λ w. to_le_bytes w32 w ++ []) e;
}

pub instruction_line : (name first : List ℕ) (others : List (List ℕ)) (operands : List Operand) (before after : Instruction) →
    is_word name ≡ true → keyword_of name ≡ Some (InstructionKeyword operands before) → is_operand first ≡ true →
    list_all is_operand others ≡ true → with_operands operands (first ∷ others) before ≡ Some after →
    statement_of (instruction_text name (first ∷ others)) ≡ Ok (Instructions (after ∷ []))
unfolding statement_with
instruction_line name first others operands before after word found operand all read =
    statement_read name first others (InstructionKeyword operands before) word found operand all
    ∙ rw (operands_read first others operand all, read) refl

-- ---- words as data

word_modulo : (word : ℕ) → word < 2 ^ 32 → word % 2 ^ 32 ≡ word
word_modulo word below = omega arith

pub data_is : (word address : ℕ) → word < 2 ^ 32 →
    IsStatementOf word address (Data Four (number_alone (pos word) ∷ []))
unfolding is_misplaced size_at misses_label is_in_range encoded_bytes
data_is word address below = record {
  placed = refl;
  size = refl;
  known = λ labels. refl;
  fits = λ labels. ap (λ v. fits_width Four v && true) (value_alone labels (pos word))
      ∙ rw (le-leb word 4294967295 (omega arith)) refl;
  bytes = λ labels. ap (λ v. to_le_bytes w32 (modulo 32 v) ++ []) (value_alone labels (pos word))
      ∙ ap (λ w. to_le_bytes w32 w ++ []) (word_modulo word below);
}

data_keyword : keyword_of (codes ".word") ≡ Some (DataKeyword Four)
unfolding keyword_of keywords row_entries pseudoinstructions long_pseudoinstructions directives rows ops row_of mnemonic_of
data_keyword = refl

abbrev pub number_text : ℕ → ℕ → List ℕ
number_text count n = codes "0x" ++ hex_digits count n

-- a value in hexadecimal digits
pub data_read : (name : List ℕ) (width : Width) (count n : ℕ) → is_word name ≡ true → keyword_of name ≡ Some (DataKeyword width) → n < 2 ^ 32 →
    statement_of (instruction_text name (number_text count n ∷ [])) ≡ Ok (Data width (number_alone (pos n) ∷ []))
unfolding statement_with
data_read name width count n word found below =
    let operand = hex_digits_operand count n below in
    statement_read name (number_text count n) [] (DataKeyword width) word found operand refl
    ∙ rw (operands_read (number_text count n) [] operand refl, hex_digits_read count n below) refl

data_statement : (word : ℕ) → data_text word ≡ instruction_text (codes ".word") (number_text 8 word ∷ [])
unfolding data_text
data_statement word = rw append-nil refl

pub data_line : (word : ℕ) → word < 2 ^ 32 → statement_of (data_text word) ≡ Ok (Data Four (number_alone (pos word) ∷ []))
data_line word below = ap statement_of (data_statement word) ∙ data_read (codes ".word") Four 8 word refl data_keyword below

pub data_plain : (word : ℕ) → word < 2 ^ 32 → list_all is_plain (data_text word) ≡ true
data_plain word below =
    ap (list_all is_plain) (data_statement word)
    ∙ line_plain (codes ".word") (number_text 8 word) [] (DataKeyword Four) refl data_keyword (hex_digits_operand 8 word below) refl
