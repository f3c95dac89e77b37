-- The statement of a line: its word, and the operands behind it.
use Rattle.std.specs.Prelude.{ℕ, ℤ, pos, neg_ℤ, ◌-◌, List, [], ◌∷◌, ◌++◌, ◌==◌, Option, Some, None, option_map, option_and_then, find, Result, Ok, Err, ok_or, length, map, take, drop, take_while, nat_eq, if◌then◌else◌}
use Rattle.std.specs.List.{prefix_len, slice_split, ends_with, before_first, after_first}
use Rattle.sec_base.specs.declared.width.Width.{Width}
use Rattle.rv32_decode.specs.declared.Op.TheVariants.{Lui, Addi}
use Rattle.rv32_asm_syntax.specs.declared.fault.AsmFault.{AsmFault}
use Rattle.rv32_asm_syntax.specs.declared.fault.AsmFault.TheVariants as fault
use Rattle.rv32_asm_syntax.specs.Characters.{tab, line_feed, digit_0, letter_n, letter_t, quotation_mark, left_parenthesis, right_parenthesis, comma, backslash, is_in_words, is_name, skip_blanks, is_empty, trim_blanks}
use Rattle.rv32_asm_syntax.specs.Lines.{Outside, has_non_ascii, statement_text, without_comment}
use Rattle.rv32_asm_syntax.specs.Registers.{register_of}
use Rattle.rv32_asm_syntax.specs.Numbers.{number_of, is_between}
use Rattle.rv32_asm_syntax.specs.Expressions.{Expression, expression_of, number_alone}
use Rattle.rv32_asm_syntax.specs.Statements.{Instruction, instruction, Whole, Upper, Lower, Statement, Instructions, Data, Bytes, Zeros, Aligned, Nothing}
use Rattle.rv32_asm_syntax.specs.Keywords.{Operand, Rd, Rs1, Rs2, Value, Memory, Keyword, InstructionKeyword, LoadImmediateKeyword, LoadAddressKeyword, DataKeyword, AsciiKeyword, AscizKeyword, SpaceKeyword, AlignKeyword, TextKeyword, GloblKeyword, keyword_of}

-- one step after another, where each may find another form than its own
infixl 10 ◌>>=◌
-- One reading after another: the first that fails ends both.
abbrev pub ◌>>=◌ : {A B : Type 0} → Option A → (A → Option B) → Option B
o >>= f = option_and_then f o

-- ---- operands

-- operands are parted by commas
unfoldable pub operands_of : List ℕ → List (List ℕ)
operands_of [] = []
operands_of (byte ∷ bytes) = map trim_blanks (slice_split (λ each. each == comma) (byte ∷ bytes))

-- what stands before the parentheses of a memory operand, where nothing is 0
abbrev pub offset_of : List ℕ → Option Expression
offset_of [] = Some (number_alone (pos 0))
offset_of (byte ∷ bytes) = expression_of (byte ∷ bytes)

-- the register whose name the right parenthesis ends
abbrev pub enclosed_register : List ℕ → Option ℕ
enclosed_register text =
    if ends_with nat_eq text (right_parenthesis ∷ []) then register_of (trim_blanks (take (length text - 1) text)) else None

-- a memory operand: an offset, and a register in parentheses
abbrev pub memory_operand_of : List ℕ → Option (Expression × ℕ)
memory_operand_of text = do
  offset ← offset_of (trim_blanks (before_first (λ byte. byte == left_parenthesis) text))
  base ← enclosed_register (after_first (λ byte. byte == left_parenthesis) text)
  Some (offset, base)

-- an instruction with the field that the text of an operand gives
abbrev pub with_operand : Operand → List ℕ → Instruction → Option Instruction
with_operand Rd text i = option_map (λ number. record i { rd = number }) (register_of text)
with_operand Rs1 text i = option_map (λ number. record i { rs1 = number }) (register_of text)
with_operand Rs2 text i = option_map (λ number. record i { rs2 = number }) (register_of text)
with_operand Value text i = option_map (λ value. record i { immediate = Whole value }) (expression_of text)
with_operand Memory text i =
    option_map (λ given. record i { immediate = Whole given.0; rs1 = given.1 }) (memory_operand_of text)

-- an instruction with the fields that the texts of its operands give, of which there are as many as it takes
abbrev pub with_operands : List Operand → List (List ℕ) → Instruction → Option Instruction
with_operands [] [] i = Some i
with_operands [] (text ∷ texts) i = None
with_operands (operand ∷ operands) [] i = None
with_operands (operand ∷ operands) (text ∷ texts) i = with_operand operand text i >>= with_operands operands texts

-- each text is an expression
abbrev pub expressions_of : List (List ℕ) → Option (List Expression)
expressions_of [] = Some []
expressions_of (text ∷ texts) = do
  value ← expression_of text
  values ← expressions_of texts
  Some (value ∷ values)

-- ---- strings

-- the characters that stand behind a backslash, each with the byte that they mean together
abbrev pub escapes : List (ℕ × ℕ)
escapes =
    (letter_n, line_feed)
    ∷ (letter_t, tab)
    ∷ (digit_0, 0)
    ∷ (backslash, backslash)
    ∷ (quotation_mark, quotation_mark)
    ∷ []

-- The byte that a letter after a backslash stands for.
abbrev pub escape_of : ℕ → Option ℕ
escape_of byte = option_map (λ escape. escape.1) (find (λ escape. escape.0 == byte) escapes)

-- the bytes of a string whose quotation mark was opened, and which ends the text
abbrev pub string_after : List ℕ → Option (List ℕ)
string_after [] = None
string_after (byte ∷ []) = if byte == quotation_mark then Some [] else None
string_after (byte ∷ next ∷ bytes) =
    if byte == quotation_mark then None
    else if byte == backslash then (do
      meant ← escape_of next
      rest ← string_after bytes
      Some (meant ∷ rest))
    else option_map (λ rest. byte ∷ rest) (string_after (next ∷ bytes))

-- the bytes of a string in quotation marks
unfoldable pub string_of : List ℕ → Option (List ℕ)
string_of [] = None
string_of (byte ∷ bytes) = if byte == quotation_mark then string_after bytes else None

-- ---- statements

-- the value put into a register by its upper and its lower part
abbrev pub pair : ℕ → Expression → List Instruction
pair rd value =
    record (instruction Lui rd 0 0 (pos 0)) { immediate = Upper value }
    ∷ record (instruction Addi rd rd 0 (pos 0)) { immediate = Lower value }
    ∷ []

-- a number put into a register, by one instruction where ADDI can
abbrev pub number_load : ℕ → ℤ → List Instruction
number_load rd number =
    if is_between (neg_ℤ (pos 2048)) (pos 2047) number then instruction Addi rd 0 0 number ∷ []
    else pair rd (number_alone number)

-- `li rd, number`: loads a number, by one or two instructions.
abbrev pub li_of : List (List ℕ) → Option Statement
li_of (register ∷ number ∷ []) = do
  rd ← register_of register
  n ← number_of number
  Some (Instructions (number_load rd n))
li_of _ = None

-- `la rd, value`: loads an address, always by two instructions.
abbrev pub la_of : List (List ℕ) → Option Statement
la_of (register ∷ value ∷ []) = do
  rd ← register_of register
  e ← expression_of value
  Some (Instructions (pair rd e))
la_of _ = None

-- one or more values
abbrev pub data_of : Width → List (List ℕ) → Option Statement
data_of width [] = None
data_of width texts = option_map (Data width) (expressions_of texts)

-- `.globl name`: accepted and without effect.
abbrev pub globl_of : List ℕ → Option Statement
globl_of text = if is_name text then Some Nothing else None

-- the statement of a word with the text behind it, where that has its form
unfoldable pub statement_with : Keyword → List ℕ → Option Statement
statement_with (InstructionKeyword operands i) text =
    option_map (λ each. Instructions (each ∷ [])) (with_operands operands (operands_of text) i)
statement_with LoadImmediateKeyword text = li_of (operands_of text)
statement_with LoadAddressKeyword text = la_of (operands_of text)
statement_with (DataKeyword width) text = data_of width (operands_of text)
statement_with AsciiKeyword text = option_map Bytes (string_of text)
statement_with AscizKeyword text = option_map (λ bytes. Bytes (bytes ++ 0 ∷ [])) (string_of text)
statement_with SpaceKeyword text = option_map Zeros (number_of text)
statement_with AlignKeyword text = option_map Aligned (number_of text)
statement_with TextKeyword text = if is_empty text then Some Nothing else None
statement_with GloblKeyword text = globl_of text

-- the statement of a word, if it is one, with the text behind it
abbrev pub statement_from : Option Keyword → List ℕ → Result Statement AsmFault
statement_from None text = Err fault.Unknown
statement_from (Some keyword) text = ok_or (statement_with keyword text) fault.Operand

-- the statement that a text is, which begins with its word
abbrev pub statement_in : List ℕ → Result Statement AsmFault
statement_in [] = Ok Nothing
statement_in (byte ∷ bytes) = let text = byte ∷ bytes in
    statement_from
    (keyword_of (take_while is_in_words text))
    (skip_blanks (drop (prefix_len is_in_words text) text))

-- the statement of a line, or what is wrong with it: a byte above 7f outside strings and comments, or a word that
-- begins no statement, and then operands of another number or form
unfoldable pub statement_of : List ℕ → Result Statement AsmFault
statement_of line =
    if has_non_ascii Outside (without_comment line) then Err fault.Unknown else statement_in (statement_text line)
