-- The code's tables of words: what their rows say, for contracts inside the crate alone.
use Rattle.std.specs.Prelude.{ℕ, pos, neg_ℤ, ◌^◌, List, Bool, ◌&&◌, Option, find, int_le, map, nat_lt, option_map}
use Rattle.std.specs.Borrow.{Bor}
use Rattle.std.specs.Str.{bytes_eq}
use Rattle.rv32_decode.specs.declared.Op.{Op}
use Rattle.rv32_text.specs.Mnemonics.{mnemonic_of}
use Rattle.rv32_asm_syntax.specs.declared.keywords.Keyword as code
use Rattle.rv32_asm_syntax.specs.declared.keywords.Pseudoinstruction.{Pseudoinstruction}
use Rattle.rv32_asm_syntax.specs.Keywords.{Keyword, InstructionKeyword, row_keyword}
use Rattle.rv32_asm_syntax.specs.Seen.{seen_keyword, seen_operand}
use Rattle.rv32_asm_syntax.specs.Statements.{instruction}

-- what a word stands for in a list of words
abbrev pub keyword_in : List (List ℕ × Keyword) → List ℕ → Option Keyword
keyword_in entries word = option_map (λ entry. entry.1) (find (λ entry. bytes_eq entry.0 word) entries)

-- The mnemonic of an instruction, and its keyword.
abbrev pub row_entry : Op → List ℕ × Keyword
row_entry op = ((mnemonic_of op), row_keyword op)

-- The name of a pseudoinstruction, and its keyword.
abbrev pub pseudoinstruction_entry : Pseudoinstruction → List ℕ × Keyword
pseudoinstruction_entry p = (p.name.now, InstructionKeyword (map seen_operand p.operands.now) (instruction p.op p.rd p.rs1 0 p.number))

-- its registers are registers, and its number is small
abbrev pub has_registers : Pseudoinstruction → Bool
has_registers p =
    nat_lt p.rd 32
    && (nat_lt p.rs1 32 && (int_le (neg_ℤ (pos (2 ^ 32))) p.number && int_le p.number (pos (2 ^ 32))))

-- A row of the code's table, as definitions see it.
abbrev pub entry : Bor (List ℕ) × code.Keyword → List ℕ × Keyword
entry row = (row.0.now, seen_keyword row.1)
