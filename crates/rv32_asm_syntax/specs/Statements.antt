-- What a statement is, apart from how it is spelled.
use Rattle.std.specs.Prelude.{ℕ, ℤ, List}
use Rattle.sec_base.specs.declared.width.Width.{Width}
use Rattle.rv32_decode.specs.declared.Op.{Op}
use Rattle.rv32_asm_syntax.specs.Expressions.{Expression, number_alone}

-- what stands for an instruction's immediate: an expression, or the upper part or the lower part of its value, which
-- LUI and ADDI put together again
pub data Immediate : Type 0 where
  Whole : Expression → Immediate
  Upper : Expression → Immediate
  Lower : Expression → Immediate

-- an instruction whose immediate is yet to be worked out
pub record Instruction : Type 0 where
  pub op : Op
  pub rd : ℕ
  pub rs1 : ℕ
  pub rs2 : ℕ
  pub immediate : Immediate

-- An instruction whose immediate is a number without a label.
abbrev pub instruction : Op → ℕ → ℕ → ℕ → ℤ → Instruction
instruction op rd rs1 rs2 number =
    record { op = op; rd = rd; rs1 = rs1; rs2 = rs2; immediate = Whole (number_alone number) }

-- What the statement of a line puts into the program.
pub data Statement : Type 0 where
  -- one instruction after another
  Instructions : List Instruction → Statement
  -- a number of this width for each value
  Data : Width → List Expression → Statement
  -- these bytes
  Bytes : List ℕ → Statement
  -- so many zeros
  Zeros : ℤ → Statement
  -- zeros up to a multiple of so many bytes
  Aligned : ℤ → Statement
  -- no bytes
  Nothing : Statement
