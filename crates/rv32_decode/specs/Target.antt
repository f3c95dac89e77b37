-- Where branches and jumps lead.
use Rattle.rv32_decode.specs.Words.{word_of_signed}
use Rattle.rv32_decode.specs.declared.Inst.{Inst}
use Rattle.std.specs.Prelude.{ℕ, ◌+◌, ◌%◌, ◌^◌}

-- the address that a branch or JAL at `pc` leads to
abbrev pub target_of : Inst → ℕ → ℕ
target_of i pc = (pc + word_of_signed i.imm) % 2 ^ 32
