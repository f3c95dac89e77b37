-- The words of the table's rows are read back.
use Rattle.std.proofs.Common.{◌≡◌, ℕ, ◌&&◌, Bool, true, false, not, Some, List, [], ◌∷◌, refl}
use Rattle.std.specs.List.{list_all}
use Rattle.rv32_decode.specs.Table.{ops, row_of, rows}
use Rattle.rv32_decode.specs.declared.Op.{Op}
use Rattle.rv32_decode.specs.declared.Op.TheVariants.{Lui, Auipc, Jal, Jalr, Beq, Bne, Blt, Bge, Bltu, Bgeu, Lb, Lh, Lw, Lbu, Lhu, Sb, Sh, Sw, Addi, Slti, Sltiu, Xori, Ori, Andi, Slli, Srli, Srai, Add, Sub, Sll, Slt, Sltu, Xor, Srl, Sra, Or, And, Mul, Mulh, Mulhsu, Mulhu, Div, Divu, Rem, Remu, Fence, FenceI, Ecall, Ebreak}
use Rattle.rv32_decode.specs.declared.table.Format.{Format}
use Rattle.rv32_decode.specs.declared.table.Format.TheVariants.{R, I, S, B, U, J, Shift, Fieldless}
use Rattle.rv32_text.specs.Mnemonics.{mnemonic_of}
use Rattle.rv32_text.specs.Style.{style_of}
use Rattle.rv32_text.specs.declared.style.Style.{Style}
use Rattle.rv32_text.specs.declared.style.Style.TheVariants.{Registers, Immediate, Offset, Store, Upper, Branch, Jump, Fence as FenceStyle, Bare}
use Rattle.rv32_asm_syntax.specs.Characters.{is_in_words, is_blank}
use Rattle.rv32_asm_syntax.specs.Keywords.{directives, keyword_of, keywords, long_pseudoinstructions, pseudoinstructions, row_keyword, row_entries}
use Rattle.rv32_asm.proofs.TextLines.{is_plain}

pub keyword_read : (op : Op) → keyword_of (mnemonic_of op) ≡ Some (row_keyword op)
unfolding keyword_of keywords row_entries pseudoinstructions long_pseudoinstructions directives rows ops row_of mnemonic_of
keyword_read Lui = refl
keyword_read Auipc = refl
keyword_read Jal = refl
keyword_read Jalr = refl
keyword_read Beq = refl
keyword_read Bne = refl
keyword_read Blt = refl
keyword_read Bge = refl
keyword_read Bltu = refl
keyword_read Bgeu = refl
keyword_read Lb = refl
keyword_read Lh = refl
keyword_read Lw = refl
keyword_read Lbu = refl
keyword_read Lhu = refl
keyword_read Sb = refl
keyword_read Sh = refl
keyword_read Sw = refl
keyword_read Addi = refl
keyword_read Slti = refl
keyword_read Sltiu = refl
keyword_read Xori = refl
keyword_read Ori = refl
keyword_read Andi = refl
keyword_read Slli = refl
keyword_read Srli = refl
keyword_read Srai = refl
keyword_read Add = refl
keyword_read Sub = refl
keyword_read Sll = refl
keyword_read Slt = refl
keyword_read Sltu = refl
keyword_read Xor = refl
keyword_read Srl = refl
keyword_read Sra = refl
keyword_read Or = refl
keyword_read And = refl
keyword_read Mul = refl
keyword_read Mulh = refl
keyword_read Mulhsu = refl
keyword_read Mulhu = refl
keyword_read Div = refl
keyword_read Divu = refl
keyword_read Rem = refl
keyword_read Remu = refl
keyword_read Fence = refl
keyword_read FenceI = refl
keyword_read Ecall = refl
keyword_read Ebreak = refl

abbrev pub begins_solid : List ℕ → Bool
begins_solid [] = false
begins_solid (byte ∷ bytes) = not (is_blank byte)

abbrev pub is_word : List ℕ → Bool
is_word name = begins_solid name && (list_all is_in_words name && list_all is_plain name)

pub name_is_word : (op : Op) → is_word (mnemonic_of op) ≡ true
unfolding mnemonic_of
name_is_word Lui = refl
name_is_word Auipc = refl
name_is_word Jal = refl
name_is_word Jalr = refl
name_is_word Beq = refl
name_is_word Bne = refl
name_is_word Blt = refl
name_is_word Bge = refl
name_is_word Bltu = refl
name_is_word Bgeu = refl
name_is_word Lb = refl
name_is_word Lh = refl
name_is_word Lw = refl
name_is_word Lbu = refl
name_is_word Lhu = refl
name_is_word Sb = refl
name_is_word Sh = refl
name_is_word Sw = refl
name_is_word Addi = refl
name_is_word Slti = refl
name_is_word Sltiu = refl
name_is_word Xori = refl
name_is_word Ori = refl
name_is_word Andi = refl
name_is_word Slli = refl
name_is_word Srli = refl
name_is_word Srai = refl
name_is_word Add = refl
name_is_word Sub = refl
name_is_word Sll = refl
name_is_word Slt = refl
name_is_word Sltu = refl
name_is_word Xor = refl
name_is_word Srl = refl
name_is_word Sra = refl
name_is_word Or = refl
name_is_word And = refl
name_is_word Mul = refl
name_is_word Mulh = refl
name_is_word Mulhsu = refl
name_is_word Mulhu = refl
name_is_word Div = refl
name_is_word Divu = refl
name_is_word Rem = refl
name_is_word Remu = refl
name_is_word Fence = refl
name_is_word FenceI = refl
name_is_word Ecall = refl
name_is_word Ebreak = refl

-- the formats of a style's rows
abbrev pub has_format : Style → Format → Bool
has_format Registers R = true
has_format Immediate I = true
has_format Immediate Shift = true
has_format Offset I = true
has_format Store S = true
has_format Upper U = true
has_format Branch B = true
has_format Jump J = true
has_format FenceStyle I = true
has_format Bare Fieldless = true
has_format _ _ = false

pub style_format : (op : Op) → has_format (style_of op) (row_of op).format ≡ true
unfolding style_of row_of
style_format Lui = refl
style_format Auipc = refl
style_format Jal = refl
style_format Jalr = refl
style_format Beq = refl
style_format Bne = refl
style_format Blt = refl
style_format Bge = refl
style_format Bltu = refl
style_format Bgeu = refl
style_format Lb = refl
style_format Lh = refl
style_format Lw = refl
style_format Lbu = refl
style_format Lhu = refl
style_format Sb = refl
style_format Sh = refl
style_format Sw = refl
style_format Addi = refl
style_format Slti = refl
style_format Sltiu = refl
style_format Xori = refl
style_format Ori = refl
style_format Andi = refl
style_format Slli = refl
style_format Srli = refl
style_format Srai = refl
style_format Add = refl
style_format Sub = refl
style_format Sll = refl
style_format Slt = refl
style_format Sltu = refl
style_format Xor = refl
style_format Srl = refl
style_format Sra = refl
style_format Or = refl
style_format And = refl
style_format Mul = refl
style_format Mulh = refl
style_format Mulhsu = refl
style_format Mulhu = refl
style_format Div = refl
style_format Divu = refl
style_format Rem = refl
style_format Remu = refl
style_format Fence = refl
style_format FenceI = refl
style_format Ecall = refl
style_format Ebreak = refl
