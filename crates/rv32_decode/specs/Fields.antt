-- The fields of a word: the RISC-V unprivileged manual (version 20240411), sections 2.2 to 2.4.
use Rattle.rv32_decode.specs.Words.{field, signed_number}
use Rattle.rv32_decode.specs.declared.Inst.{Inst}
use Rattle.rv32_decode.specs.declared.Op.{Op}
use Rattle.rv32_decode.specs.declared.table.Format.{Format}
use Rattle.rv32_decode.specs.declared.table.Format.TheVariants.{R, I, S, B, U, J, Shift, Fieldless}
use Rattle.std.specs.Prelude.{ℕ, ℤ, pos, ◌+◌, ◌*◌, ◌^◌}

-- the fields that every format has at the same place, section 2.2
abbrev pub rd_of : ℕ → ℕ
rd_of word = field word 7 5

-- rs1, bits 15 to 19 (RV32I 2.1, section 2.2).
abbrev pub rs1_of : ℕ → ℕ
rs1_of word = field word 15 5

-- rs2, bits 20 to 24 (RV32I 2.1, section 2.2).
abbrev pub rs2_of : ℕ → ℕ
rs2_of word = field word 20 5

-- the immediates, section 2.3
abbrev pub imm_u : ℕ → ℤ
imm_u word = signed_number 32 (field word 12 20 * 2 ^ 12)

-- The immediate of the I format (RV32I 2.1, section 2.3).
abbrev pub imm_i : ℕ → ℤ
imm_i word = signed_number 12 (field word 20 12)

-- The immediate of the S format (RV32I 2.1, section 2.3).
abbrev pub imm_s : ℕ → ℤ
imm_s word = signed_number 12 (field word 25 7 * 2 ^ 5 + field word 7 5)

-- The immediate of the B format, a multiple of 2 (RV32I 2.1, section 2.3).
abbrev pub imm_b : ℕ → ℤ
imm_b word =
    signed_number 13 (field word 31 1 * 2 ^ 12 + field word 7 1 * 2 ^ 11 + field word 25 6 * 2 ^ 5 + field word 8 4 * 2)

-- The immediate of the J format, a multiple of 2 (RV32I 2.1, section 2.3).
abbrev pub imm_j : ℕ → ℤ
imm_j word =
    signed_number 21 (field word 31 1 * 2 ^ 20 + field word 12 8 * 2 ^ 12 + field word 20 1 * 2 ^ 11 + field word 21 10 * 2)

-- the shift of SLLI, SRLI and SRAI, section 2.4.1
abbrev pub shift_of : ℕ → ℤ
shift_of word = pos (field word 20 5)

-- the instruction that a word spells in a row's format; the fields that the format lacks are 0
unfoldable pub instruction_in : Format → Op → ℕ → Inst
instruction_in R op word = record { op = op; rd = rd_of word; rs1 = rs1_of word; rs2 = rs2_of word; imm = pos 0 }
instruction_in I op word = record { op = op; rd = rd_of word; rs1 = rs1_of word; rs2 = 0; imm = imm_i word }
instruction_in S op word = record { op = op; rd = 0; rs1 = rs1_of word; rs2 = rs2_of word; imm = imm_s word }
instruction_in B op word = record { op = op; rd = 0; rs1 = rs1_of word; rs2 = rs2_of word; imm = imm_b word }
instruction_in U op word = record { op = op; rd = rd_of word; rs1 = 0; rs2 = 0; imm = imm_u word }
instruction_in J op word = record { op = op; rd = rd_of word; rs1 = 0; rs2 = 0; imm = imm_j word }
instruction_in Shift op word = record { op = op; rd = rd_of word; rs1 = rs1_of word; rs2 = 0; imm = shift_of word }
instruction_in Fieldless op word = record { op = op; rd = 0; rs1 = 0; rs2 = 0; imm = pos 0 }
