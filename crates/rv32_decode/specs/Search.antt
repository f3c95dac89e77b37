-- The table searched by the fields that a row fixes in its words: opcode, funct3 and funct7, or the whole word. No
-- public contract speaks of it.
use Rattle.rv32_decode.specs.Fields.{instruction_in}
use Rattle.rv32_decode.specs.Table.{Row, row_of, rows}
use Rattle.rv32_decode.specs.Words.{field}
use Rattle.rv32_decode.specs.declared.Inst.{Inst}
use Rattle.rv32_decode.specs.declared.Op.{Op}
use Rattle.rv32_decode.specs.declared.table.Format.{Format}
use Rattle.rv32_decode.specs.declared.table.Format.TheVariants.{R, I, S, B, U, J, Shift, Fieldless}
use Rattle.std.specs.Prelude.{ℕ, ◌%◌, ◌^◌, ◌==◌, ◌&&◌, Bool, Option, find, option_map}

-- whether the fields are those of the pattern, as far as the format fixes them
abbrev pub are_fixed : ℕ → ℕ → ℕ → ℕ → Format → ℕ → Bool
are_fixed opcode funct3 funct7 word R pattern =
    (opcode == pattern % 2 ^ 7) && ((funct3 == field pattern 12 3) && (funct7 == field pattern 25 7))
are_fixed opcode funct3 funct7 word I pattern = (opcode == pattern % 2 ^ 7) && (funct3 == field pattern 12 3)
are_fixed opcode funct3 funct7 word S pattern = (opcode == pattern % 2 ^ 7) && (funct3 == field pattern 12 3)
are_fixed opcode funct3 funct7 word B pattern = (opcode == pattern % 2 ^ 7) && (funct3 == field pattern 12 3)
are_fixed opcode funct3 funct7 word U pattern = opcode == pattern % 2 ^ 7
are_fixed opcode funct3 funct7 word J pattern = opcode == pattern % 2 ^ 7
are_fixed opcode funct3 funct7 word Shift pattern =
    (opcode == pattern % 2 ^ 7) && ((funct3 == field pattern 12 3) && (funct7 == field pattern 25 7))
are_fixed opcode funct3 funct7 word Fieldless pattern = (opcode == pattern % 2 ^ 7) && (word == pattern)

-- The row of the table that a word matches.
unfoldable pub row_at : ℕ → ℕ → ℕ → ℕ → Option Row
row_at opcode funct3 funct7 word = find (λ r. are_fixed opcode funct3 funct7 word r.format r.pattern) rows

-- The instruction whose row a word matches.
unfoldable pub op_at : ℕ → ℕ → ℕ → ℕ → Option Op
op_at opcode funct3 funct7 word = option_map (λ r. r.op) (row_at opcode funct3 funct7 word)

-- the instruction of a word in the row of a name
abbrev pub instruction_named : ℕ → Op → Inst
instruction_named word op = instruction_in (row_of op).format op word
