-- The four words whose texts are a name alone.
use Rattle.std.proofs.Common.{◌≡◌, ℕ, ◌+◌, ◌%◌, ◌≤◌, ◌==◌, ◌||◌, pos, Bool, true, false, not, [], ◌∷◌, Ok, codes, refl}
use Rattle.rv32_decode.specs.Decoding.{instruction_of, matching_row}
use Rattle.rv32_decode.specs.Encoding.{field_bits, word_of}
use Rattle.rv32_decode.specs.Fields.{instruction_in}
use Rattle.rv32_decode.specs.Table.{ops, row_of, rows}
use Rattle.rv32_decode.specs.declared.Op.{Op}
use Rattle.rv32_decode.specs.declared.Op.TheVariants.{Lui, Auipc, Jal, Jalr, Beq, Bne, Blt, Bge, Bltu, Bgeu, Lb, Lh, Lw, Lbu, Lhu, Sb, Sh, Sw, Addi, Slti, Sltiu, Xori, Ori, Andi, Slli, Srli, Srai, Add, Sub, Sll, Slt, Sltu, Xor, Srl, Sra, Or, And, Mul, Mulh, Mulhsu, Mulhu, Div, Divu, Rem, Remu, Fence, FenceI, Ecall, Ebreak}
use Rattle.rv32_text.specs.Mnemonics.{mnemonic_of}
use Rattle.rv32_text.specs.Style.{style_of}
use Rattle.rv32_text.specs.Text.{text_of, text_of_word}
use Rattle.rv32_text.specs.declared.style.Style.{Style}
use Rattle.rv32_text.specs.declared.style.Style.TheVariants.{Bare}
use Rattle.rv32_asm_syntax.specs.Characters.{trim_blanks}
use Rattle.rv32_asm_syntax.specs.Keywords.{directives, keyword_of, keywords, long_pseudoinstructions, pseudoinstructions, row_entries}
use Rattle.rv32_asm_syntax.specs.Lines.{statement_text, without_comment}
use Rattle.rv32_asm_syntax.specs.Reading.{operands_of, statement_of, statement_with}
use Rattle.rv32_asm_syntax.specs.Statements.{Instructions, instruction}
use Rattle.rv32_asm.proofs.Readings.{IsWordBack, instruction_is, read_back}

abbrev pub is_bare : Style → Bool
is_bare Bare = true
is_bare _ = false

-- the patterns of the rows without fields
pub bare_pattern : (op : Op) →
    (not (is_bare (style_of op)) || (((row_of op).pattern == 0x73) || ((row_of op).pattern == 0x100073))) ≡ true
unfolding style_of row_of
bare_pattern Lui = refl
bare_pattern Auipc = refl
bare_pattern Jal = refl
bare_pattern Jalr = refl
bare_pattern Beq = refl
bare_pattern Bne = refl
bare_pattern Blt = refl
bare_pattern Bge = refl
bare_pattern Bltu = refl
bare_pattern Bgeu = refl
bare_pattern Lb = refl
bare_pattern Lh = refl
bare_pattern Lw = refl
bare_pattern Lbu = refl
bare_pattern Lhu = refl
bare_pattern Sb = refl
bare_pattern Sh = refl
bare_pattern Sw = refl
bare_pattern Addi = refl
bare_pattern Slti = refl
bare_pattern Sltiu = refl
bare_pattern Xori = refl
bare_pattern Ori = refl
bare_pattern Andi = refl
bare_pattern Slli = refl
bare_pattern Srli = refl
bare_pattern Srai = refl
bare_pattern Add = refl
bare_pattern Sub = refl
bare_pattern Sll = refl
bare_pattern Slt = refl
bare_pattern Sltu = refl
bare_pattern Xor = refl
bare_pattern Srl = refl
bare_pattern Sra = refl
bare_pattern Or = refl
bare_pattern And = refl
bare_pattern Mul = refl
bare_pattern Mulh = refl
bare_pattern Mulhsu = refl
bare_pattern Mulhu = refl
bare_pattern Div = refl
bare_pattern Divu = refl
bare_pattern Rem = refl
bare_pattern Remu = refl
bare_pattern Fence = refl
bare_pattern FenceI = refl
bare_pattern Ecall = refl
bare_pattern Ebreak = refl

module _ (size address : ℕ) (aligned : address % 4 ≡ 0) (inside : address + 4 ≤ size) where
  fence_text : text_of_word 0x0ff0000f address ≡ codes "fence"
  unfolding text_of_word instruction_of matching_row rows ops instruction_in text_of mnemonic_of style_of word_of row_of field_bits
  fence_text = refl

  fence_means : statement_of (codes "fence") ≡ Ok (Instructions (instruction Fence 0 0 0 (pos 0xff) ∷ []))
  unfolding statement_of without_comment statement_text trim_blanks statement_with operands_of keyword_of keywords row_entries pseudoinstructions long_pseudoinstructions directives rows ops row_of mnemonic_of style_of
  fence_means = refl

  pub fence_back : IsWordBack size 0x0ff0000f address
  unfolding word_of row_of field_bits
  fence_back =
      read_back size 0x0ff0000f address (codes "fence") (Instructions (instruction Fence 0 0 0 (pos 0xff) ∷ [])) fence_text
      refl fence_means inside
      (instruction_is 0x0ff0000f address Fence 0 0 0 (pos 0xff) aligned refl refl)

  fence_i_text : text_of_word 0x0000100f address ≡ codes "fence.i"
  unfolding text_of_word instruction_of matching_row rows ops instruction_in text_of mnemonic_of style_of word_of row_of field_bits
  fence_i_text = refl

  fence_i_means : statement_of (codes "fence.i") ≡ Ok (Instructions (instruction FenceI 0 0 0 (pos 0) ∷ []))
  unfolding statement_of without_comment statement_text trim_blanks statement_with operands_of keyword_of keywords row_entries pseudoinstructions long_pseudoinstructions directives rows ops row_of mnemonic_of style_of
  fence_i_means = refl

  pub fence_i_back : IsWordBack size 0x0000100f address
  unfolding word_of row_of field_bits
  fence_i_back =
      read_back size 0x0000100f address (codes "fence.i") (Instructions (instruction FenceI 0 0 0 (pos 0) ∷ [])) fence_i_text
      refl fence_i_means inside
      (instruction_is 0x0000100f address FenceI 0 0 0 (pos 0) aligned refl refl)

  ecall_text : text_of_word 0x00000073 address ≡ codes "ecall"
  unfolding text_of_word instruction_of matching_row rows ops instruction_in text_of mnemonic_of style_of word_of row_of field_bits
  ecall_text = refl

  ecall_means : statement_of (codes "ecall") ≡ Ok (Instructions (instruction Ecall 0 0 0 (pos 0) ∷ []))
  unfolding statement_of without_comment statement_text trim_blanks statement_with operands_of keyword_of keywords row_entries pseudoinstructions long_pseudoinstructions directives rows ops row_of mnemonic_of style_of
  ecall_means = refl

  pub ecall_back : IsWordBack size 0x00000073 address
  unfolding word_of row_of field_bits
  ecall_back =
      read_back size 0x00000073 address (codes "ecall") (Instructions (instruction Ecall 0 0 0 (pos 0) ∷ [])) ecall_text
      refl ecall_means inside
      (instruction_is 0x00000073 address Ecall 0 0 0 (pos 0) aligned refl refl)

  ebreak_text : text_of_word 0x00100073 address ≡ codes "ebreak"
  unfolding text_of_word instruction_of matching_row rows ops instruction_in text_of mnemonic_of style_of word_of row_of field_bits
  ebreak_text = refl

  ebreak_means : statement_of (codes "ebreak") ≡ Ok (Instructions (instruction Ebreak 0 0 0 (pos 0) ∷ []))
  unfolding statement_of without_comment statement_text trim_blanks statement_with operands_of keyword_of keywords row_entries pseudoinstructions long_pseudoinstructions directives rows ops row_of mnemonic_of style_of
  ebreak_means = refl

  pub ebreak_back : IsWordBack size 0x00100073 address
  unfolding word_of row_of field_bits
  ebreak_back =
      read_back size 0x00100073 address (codes "ebreak") (Instructions (instruction Ebreak 0 0 0 (pos 0) ∷ [])) ebreak_text
      refl ebreak_means inside
      (instruction_is 0x00100073 address Ebreak 0 0 0 (pos 0) aligned refl refl)
