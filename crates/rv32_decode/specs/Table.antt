-- The instruction table: RV32I 2.1, M 2.0 and Zifencei 2.0, out of the instruction set listings of the RISC-V
-- unprivileged manual (version 20240411). Here M stands before FENCE.
use Rattle.rv32_decode.specs.declared.Op.{Op}
use Rattle.rv32_decode.specs.declared.Op.TheVariants.{Lui, Auipc, Jal, Jalr, Beq, Bne, Blt, Bge, Bltu, Bgeu, Lb, Lh, Lw, Lbu, Lhu, Sb, Sh, Sw, Addi, Slti, Sltiu, Xori, Ori, Andi, Slli, Srli, Srai, Add, Sub, Sll, Slt, Sltu, Xor, Srl, Sra, Or, And, Mul, Mulh, Mulhsu, Mulhu, Div, Divu, Rem, Remu, Fence, FenceI, Ecall, Ebreak}
use Rattle.rv32_decode.specs.declared.table.Format.{Format}
use Rattle.rv32_decode.specs.declared.table.Format.TheVariants.{R, I, S, B, U, J, Shift, Fieldless}
use Rattle.std.specs.Prelude.{ℕ, List, [], ◌∷◌, map}

-- a row: its words are those whose bits under the mask are the pattern
pub record Row : Type 0 where
  pub mask : ℕ
  pub pattern : ℕ
  pub format : Format
  pub op : Op

abbrev row : ℕ → ℕ → Format → Op → Row
row mask pattern format op = record { mask = mask; pattern = pattern; format = format; op = op }

-- the row of a name
unfoldable pub row_of : Op → Row
row_of Lui = row 0x0000007f 0x00000037 U Lui
row_of Auipc = row 0x0000007f 0x00000017 U Auipc
row_of Jal = row 0x0000007f 0x0000006f J Jal
row_of Jalr = row 0x0000707f 0x00000067 I Jalr
row_of Beq = row 0x0000707f 0x00000063 B Beq
row_of Bne = row 0x0000707f 0x00001063 B Bne
row_of Blt = row 0x0000707f 0x00004063 B Blt
row_of Bge = row 0x0000707f 0x00005063 B Bge
row_of Bltu = row 0x0000707f 0x00006063 B Bltu
row_of Bgeu = row 0x0000707f 0x00007063 B Bgeu
row_of Lb = row 0x0000707f 0x00000003 I Lb
row_of Lh = row 0x0000707f 0x00001003 I Lh
row_of Lw = row 0x0000707f 0x00002003 I Lw
row_of Lbu = row 0x0000707f 0x00004003 I Lbu
row_of Lhu = row 0x0000707f 0x00005003 I Lhu
row_of Sb = row 0x0000707f 0x00000023 S Sb
row_of Sh = row 0x0000707f 0x00001023 S Sh
row_of Sw = row 0x0000707f 0x00002023 S Sw
row_of Addi = row 0x0000707f 0x00000013 I Addi
row_of Slti = row 0x0000707f 0x00002013 I Slti
row_of Sltiu = row 0x0000707f 0x00003013 I Sltiu
row_of Xori = row 0x0000707f 0x00004013 I Xori
row_of Ori = row 0x0000707f 0x00006013 I Ori
row_of Andi = row 0x0000707f 0x00007013 I Andi
row_of Slli = row 0xfe00707f 0x00001013 Shift Slli
row_of Srli = row 0xfe00707f 0x00005013 Shift Srli
row_of Srai = row 0xfe00707f 0x40005013 Shift Srai
row_of Add = row 0xfe00707f 0x00000033 R Add
row_of Sub = row 0xfe00707f 0x40000033 R Sub
row_of Sll = row 0xfe00707f 0x00001033 R Sll
row_of Slt = row 0xfe00707f 0x00002033 R Slt
row_of Sltu = row 0xfe00707f 0x00003033 R Sltu
row_of Xor = row 0xfe00707f 0x00004033 R Xor
row_of Srl = row 0xfe00707f 0x00005033 R Srl
row_of Sra = row 0xfe00707f 0x40005033 R Sra
row_of Or = row 0xfe00707f 0x00006033 R Or
row_of And = row 0xfe00707f 0x00007033 R And
row_of Mul = row 0xfe00707f 0x02000033 R Mul
row_of Mulh = row 0xfe00707f 0x02001033 R Mulh
row_of Mulhsu = row 0xfe00707f 0x02002033 R Mulhsu
row_of Mulhu = row 0xfe00707f 0x02003033 R Mulhu
row_of Div = row 0xfe00707f 0x02004033 R Div
row_of Divu = row 0xfe00707f 0x02005033 R Divu
row_of Rem = row 0xfe00707f 0x02006033 R Rem
row_of Remu = row 0xfe00707f 0x02007033 R Remu
row_of Fence = row 0x0000707f 0x0000000f I Fence
row_of FenceI = row 0x0000707f 0x0000100f I FenceI
row_of Ecall = row 0xffffffff 0x00000073 Fieldless Ecall
row_of Ebreak = row 0xffffffff 0x00100073 Fieldless Ebreak

-- the names of the rows, in the order of the table
unfoldable pub ops : List Op
ops =
    Lui
    ∷ Auipc
    ∷ Jal
    ∷ Jalr
    ∷ Beq
    ∷ Bne
    ∷ Blt
    ∷ Bge
    ∷ Bltu
    ∷ Bgeu
    ∷ Lb
    ∷ Lh
    ∷ Lw
    ∷ Lbu
    ∷ Lhu
    ∷ Sb
    ∷ Sh
    ∷ Sw
    ∷ Addi
    ∷ Slti
    ∷ Sltiu
    ∷ Xori
    ∷ Ori
    ∷ Andi
    ∷ Slli
    ∷ Srli
    ∷ Srai
    ∷ Add
    ∷ Sub
    ∷ Sll
    ∷ Slt
    ∷ Sltu
    ∷ Xor
    ∷ Srl
    ∷ Sra
    ∷ Or
    ∷ And
    ∷ Mul
    ∷ Mulh
    ∷ Mulhsu
    ∷ Mulhu
    ∷ Div
    ∷ Divu
    ∷ Rem
    ∷ Remu
    ∷ Fence
    ∷ FenceI
    ∷ Ecall
    ∷ Ebreak
    ∷ []

-- the table
unfoldable pub rows : List Row
rows = map row_of ops
