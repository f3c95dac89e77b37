-- The code's types as the definitions see them. (An enum, or a `Copy` struct with a lifetime, has no model of its own.)
use Rattle.std.specs.Prelude.{List, map, ℕ, Option, option_map}
use Rattle.std.specs.Borrow.{Bor}
use Rattle.rv32_asm_syntax.specs.declared.lines.Quoting.{Quoting}
use Rattle.rv32_asm_syntax.specs.declared.lines.Quoting.TheVariants as quoting
use Rattle.rv32_asm_syntax.specs.declared.statements.Expression.{Expression}
use Rattle.rv32_asm_syntax.specs.declared.statements.Immediate.{Immediate}
use Rattle.rv32_asm_syntax.specs.declared.statements.Immediate.TheVariants.{Whole, Upper, Lower}
use Rattle.rv32_asm_syntax.specs.declared.statements.Instruction.{Instruction}
use Rattle.rv32_asm_syntax.specs.declared.statements.Statement.{Statement}
use Rattle.rv32_asm_syntax.specs.declared.statements.Statement.TheVariants.{Instructions, Data, Bytes, Zeros, Aligned, Nothing}
use Rattle.rv32_asm_syntax.specs.declared.keywords.Keyword.{Keyword}
use Rattle.rv32_asm_syntax.specs.declared.keywords.Keyword.TheVariants as word
use Rattle.rv32_asm_syntax.specs.declared.keywords.Operand.{Operand}
use Rattle.rv32_asm_syntax.specs.declared.keywords.Operand.TheVariants as operand
use Rattle.rv32_asm_syntax.specs.Expressions as spec
use Rattle.rv32_asm_syntax.specs.Keywords as words
use Rattle.rv32_asm_syntax.specs.Lines as lines
use Rattle.rv32_asm_syntax.specs.Statements as meant

-- The code's state of quoting, as definitions see it.
abbrev pub seen_quoting : Quoting → lines.Quoting
seen_quoting quoting.Outside = lines.Outside
seen_quoting quoting.Inside = lines.Inside
seen_quoting quoting.Escaped = lines.Escaped

-- the name, where there is one
abbrev pub seen_name : Option (Bor (List ℕ)) → Option (List ℕ)
seen_name label = option_map (λ text. text.now) label

-- The code's value of an operand, as definitions see it.
abbrev pub seen_expression : Expression → spec.Expression
seen_expression e = record { label = seen_name e.label; number = e.number }

-- The code's values, as definitions see them.
abbrev pub seen_expressions : List Expression → List spec.Expression
seen_expressions es = map seen_expression es

-- An offset and its base register, as definitions see them.
abbrev pub seen_memory_operand : Expression × ℕ → spec.Expression × ℕ
seen_memory_operand p = (seen_expression p.0, p.1)

-- The code's immediate, as definitions see it.
abbrev pub seen_immediate : Immediate → meant.Immediate
seen_immediate (Whole e) = meant.Whole (seen_expression e)
seen_immediate (Upper e) = meant.Upper (seen_expression e)
seen_immediate (Lower e) = meant.Lower (seen_expression e)

-- The code's instruction of a text, as definitions see it.
abbrev pub seen_instruction : Instruction → meant.Instruction
seen_instruction i = record { op = i.op; rd = i.rd; rs1 = i.rs1; rs2 = i.rs2; immediate = seen_immediate i.immediate }

-- The code's instructions of a text, as definitions see them.
abbrev pub seen_instructions : List Instruction → List meant.Instruction
seen_instructions is = map seen_instruction is

-- The code's statement, as definitions see it.
abbrev pub seen_statement : Statement → meant.Statement
seen_statement (Instructions is) = meant.Instructions (seen_instructions is.items)
seen_statement (Data width es) = meant.Data width (seen_expressions es.items)
seen_statement (Bytes bytes) = meant.Bytes bytes.items
seen_statement (Zeros number) = meant.Zeros number
seen_statement (Aligned number) = meant.Aligned number
seen_statement Nothing = meant.Nothing

-- The code's kind of operand, as definitions see it.
abbrev pub seen_operand : Operand → words.Operand
seen_operand operand.Rd = words.Rd
seen_operand operand.Rs1 = words.Rs1
seen_operand operand.Rs2 = words.Rs2
seen_operand operand.Value = words.Value
seen_operand operand.Memory = words.Memory

-- The code's keyword, as definitions see it.
abbrev pub seen_keyword : Keyword → words.Keyword
seen_keyword (word.Instruction operands i) = words.InstructionKeyword (map seen_operand operands.now) (seen_instruction i)
seen_keyword word.LoadImmediate = words.LoadImmediateKeyword
seen_keyword word.LoadAddress = words.LoadAddressKeyword
seen_keyword (word.Data width) = words.DataKeyword width
seen_keyword word.Ascii = words.AsciiKeyword
seen_keyword word.Asciz = words.AscizKeyword
seen_keyword word.Space = words.SpaceKeyword
seen_keyword word.Align = words.AlignKeyword
seen_keyword word.Text = words.TextKeyword
seen_keyword word.Globl = words.GloblKeyword
