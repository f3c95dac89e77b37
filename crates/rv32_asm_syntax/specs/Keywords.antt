-- The words that a statement begins with, and which operands stand behind them.
use Rattle.std.specs.Prelude.{ℕ, ℤ, pos, neg_ℤ, List, [], ◌∷◌, ◌++◌, Option, option_map, find, map, codes}
use Rattle.std.specs.Str.{bytes_eq}
use Rattle.sec_base.specs.declared.width.Width.{Width}
use Rattle.sec_base.specs.declared.width.Width.TheVariants.{One, Two, Four}
use Rattle.rv32_decode.specs.Table.{rows}
use Rattle.rv32_decode.specs.declared.Op.{Op}
use Rattle.rv32_decode.specs.declared.Op.TheVariants.{Jal, Jalr, Beq, Bne, Addi, Sltiu, Xori, Sub, Sltu, Fence}
use Rattle.rv32_text.specs.Mnemonics.{mnemonic_of}
use Rattle.rv32_text.specs.Style.{style_of}
use Rattle.rv32_text.specs.declared.style.Style.{Style}
use Rattle.rv32_text.specs.declared.style.Style.TheVariants.{Registers, Immediate, Offset, Store, Upper, Branch, Jump, Fence, Bare}
use Rattle.rv32_asm_syntax.specs.Statements.{Instruction, instruction}

-- A register for a field of an instruction, an expression for its immediate, or a memory operand, as `4(sp)`, for its
-- immediate and its first register.
pub data Operand : Type 0 where
  Rd : Operand
  Rs1 : Operand
  Rs2 : Operand
  Value : Operand
  Memory : Operand

-- what a word at the front of a statement stands for
pub data Keyword : Type 0 where
  -- an instruction, or a pseudoinstruction for one: its operands, and the fields that they leave as they are
  InstructionKeyword : List Operand → Instruction → Keyword
  LoadImmediateKeyword : Keyword
  LoadAddressKeyword : Keyword
  DataKeyword : Width → Keyword
  AsciiKeyword : Keyword
  AscizKeyword : Keyword
  SpaceKeyword : Keyword
  AlignKeyword : Keyword
  TextKeyword : Keyword
  GloblKeyword : Keyword

-- the operands of the table's rows
abbrev pub operands_in : Style → List Operand
operands_in Registers = Rd ∷ Rs1 ∷ Rs2 ∷ []
operands_in Immediate = Rd ∷ Rs1 ∷ Value ∷ []
operands_in Offset = Rd ∷ Memory ∷ []
operands_in Store = Rs2 ∷ Memory ∷ []
operands_in Upper = Rd ∷ Value ∷ []
operands_in Branch = Rs1 ∷ Rs2 ∷ Value ∷ []
operands_in Jump = Rd ∷ Value ∷ []
operands_in Fence = []
operands_in Bare = []

-- `fence` is a fence of all that comes before it and all that comes after it (RISC-V unprivileged manual, section 2.7)
abbrev pub immediate_without_operands : Op → ℤ
immediate_without_operands Fence = pos 0x0ff
immediate_without_operands _ = pos 0

-- The keyword that a row of the instruction table is written with.
abbrev pub row_keyword : Op → Keyword
row_keyword op =
    InstructionKeyword (operands_in (style_of op)) (instruction op 0 0 0 (immediate_without_operands op))

-- the names of the table's rows
unfoldable pub row_entries : List (List ℕ × Keyword)
row_entries = map (λ row. ((mnemonic_of row.op), row_keyword row.op)) rows

-- pseudoinstructions for one instruction: the word, its operands, and the row with rd, rs1, rs2 and the immediate
unfoldable pub pseudoinstructions : List (List ℕ × Keyword)
pseudoinstructions =
    (codes "nop", InstructionKeyword [] (instruction Addi 0 0 0 (pos 0)))
    ∷ (codes "mv", InstructionKeyword (Rd ∷ Rs1 ∷ []) (instruction Addi 0 0 0 (pos 0)))
    ∷ (codes "j", InstructionKeyword (Value ∷ []) (instruction Jal 0 0 0 (pos 0)))
    ∷ (codes "call", InstructionKeyword (Value ∷ []) (instruction Jal 1 0 0 (pos 0)))
    ∷ (codes "jr", InstructionKeyword (Rs1 ∷ []) (instruction Jalr 0 0 0 (pos 0)))
    ∷ (codes "ret", InstructionKeyword [] (instruction Jalr 0 1 0 (pos 0)))
    ∷ (codes "beqz", InstructionKeyword (Rs1 ∷ Value ∷ []) (instruction Beq 0 0 0 (pos 0)))
    ∷ (codes "bnez", InstructionKeyword (Rs1 ∷ Value ∷ []) (instruction Bne 0 0 0 (pos 0)))
    ∷ (codes "not", InstructionKeyword (Rd ∷ Rs1 ∷ []) (instruction Xori 0 0 0 (neg_ℤ (pos 1))))
    ∷ (codes "neg", InstructionKeyword (Rd ∷ Rs2 ∷ []) (instruction Sub 0 0 0 (pos 0)))
    ∷ (codes "seqz", InstructionKeyword (Rd ∷ Rs1 ∷ []) (instruction Sltiu 0 0 0 (pos 1)))
    ∷ (codes "snez", InstructionKeyword (Rd ∷ Rs2 ∷ []) (instruction Sltu 0 0 0 (pos 0)))
    ∷ []

-- pseudoinstructions for one instruction or two
unfoldable pub long_pseudoinstructions : List (List ℕ × Keyword)
long_pseudoinstructions = (codes "li", LoadImmediateKeyword) ∷ (codes "la", LoadAddressKeyword) ∷ []

-- The directives of the language.
unfoldable pub directives : List (List ℕ × Keyword)
directives =
    (codes ".word", DataKeyword Four)
    ∷ (codes ".half", DataKeyword Two)
    ∷ (codes ".byte", DataKeyword One)
    ∷ (codes ".ascii", AsciiKeyword)
    ∷ (codes ".asciz", AscizKeyword)
    ∷ (codes ".space", SpaceKeyword)
    ∷ (codes ".align", AlignKeyword)
    ∷ (codes ".text", TextKeyword)
    ∷ (codes ".globl", GloblKeyword)
    ∷ []

-- All words that a statement can begin with.
unfoldable pub keywords : List (List ℕ × Keyword)
keywords = row_entries ++ (pseudoinstructions ++ (long_pseudoinstructions ++ directives))

-- what a word stands for
unfoldable pub keyword_of : List ℕ → Option Keyword
keyword_of word = option_map (λ entry. entry.1) (find (λ entry. bytes_eq entry.0 word) keywords)
