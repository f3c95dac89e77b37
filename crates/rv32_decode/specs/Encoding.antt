-- The word of an instruction.
use Rattle.rv32_decode.specs.Table.{row_of}
use Rattle.rv32_decode.specs.Words.{field, word_of_signed}
use Rattle.rv32_decode.specs.declared.Inst.{Inst}
use Rattle.rv32_decode.specs.declared.table.Format.{Format}
use Rattle.rv32_decode.specs.declared.table.Format.TheVariants.{R, I, S, B, U, J, Shift, Fieldless}
use Rattle.std.specs.Prelude.{◌≡◌, ℕ, pos, neg_ℤ, ◌+◌, ◌*◌, ◌^◌, ◌<◌, ◌≤ℤ◌}

-- the `count` bits of an instruction's immediate from bit `low` on, in two's complement
abbrev pub imm_bits : Inst → ℕ → ℕ → ℕ
imm_bits i low count = field (word_of_signed i.imm) low count

-- the bits of an instruction's fields, in their places in a word
unfoldable pub field_bits : Format → Inst → ℕ
field_bits R i = i.rd * 2 ^ 7 + i.rs1 * 2 ^ 15 + i.rs2 * 2 ^ 20
field_bits I i = i.rd * 2 ^ 7 + i.rs1 * 2 ^ 15 + imm_bits i 0 12 * 2 ^ 20
field_bits S i = imm_bits i 0 5 * 2 ^ 7 + i.rs1 * 2 ^ 15 + i.rs2 * 2 ^ 20 + imm_bits i 5 7 * 2 ^ 25
field_bits B i =
    imm_bits i 11 1 * 2 ^ 7 + imm_bits i 1 4 * 2 ^ 8 + i.rs1 * 2 ^ 15 + i.rs2 * 2 ^ 20 + imm_bits i 5 6 * 2 ^ 25
    + imm_bits i 12 1 * 2 ^ 31
field_bits U i = i.rd * 2 ^ 7 + imm_bits i 12 20 * 2 ^ 12
field_bits J i =
    i.rd * 2 ^ 7 + imm_bits i 12 8 * 2 ^ 12 + imm_bits i 11 1 * 2 ^ 20 + imm_bits i 1 10 * 2 ^ 21
    + imm_bits i 20 1 * 2 ^ 31
field_bits Shift i = i.rd * 2 ^ 7 + i.rs1 * 2 ^ 15 + imm_bits i 0 5 * 2 ^ 20
field_bits Fieldless i = 0

-- the encoding of an instruction
unfoldable pub word_of : Inst → ℕ
word_of i = (row_of i.op).pattern + field_bits (row_of i.op).format i

-- which fields a format has, and what its immediate can be
unfoldable pub FitsFormat : Format → Inst → Type 0
FitsFormat R i = i.imm ≡ pos 0
FitsFormat I i = (i.rs2 ≡ 0) × (neg_ℤ (pos 2048) ≤ℤ i.imm) × (i.imm ≤ℤ pos 2047)
FitsFormat S i = (i.rd ≡ 0) × (neg_ℤ (pos 2048) ≤ℤ i.imm) × (i.imm ≤ℤ pos 2047)
FitsFormat B i = (i.rd ≡ 0) × (neg_ℤ (pos 4096) ≤ℤ i.imm) × (i.imm ≤ℤ pos 4094) × (imm_bits i 0 1 ≡ 0)
FitsFormat U i =
    (i.rs1 ≡ 0) × (i.rs2 ≡ 0) × (neg_ℤ (pos 2147483648) ≤ℤ i.imm) × (i.imm ≤ℤ pos 2147483647)
    × (imm_bits i 0 12 ≡ 0)
FitsFormat J i =
    (i.rs1 ≡ 0) × (i.rs2 ≡ 0) × (neg_ℤ (pos 1048576) ≤ℤ i.imm) × (i.imm ≤ℤ pos 1048574)
    × (imm_bits i 0 1 ≡ 0)
FitsFormat Shift i = (i.rs2 ≡ 0) × (pos 0 ≤ℤ i.imm) × (i.imm ≤ℤ pos 31)
FitsFormat Fieldless i = (i.rd ≡ 0) × (i.rs1 ≡ 0) × (i.rs2 ≡ 0) × (i.imm ≡ pos 0)

-- a well-formed instruction
pub record IsInst (i : Inst) : Type 0 where
  pub rd : i.rd < 32
  pub rs1 : i.rs1 < 32
  pub rs2 : i.rs2 < 32
  pub format : FitsFormat (row_of i.op).format i
