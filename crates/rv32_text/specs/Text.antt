-- The text of instructions and of words, in this project's assembly language; where a branch or a jump leads is written
-- as an address.
use Rattle.rv32_decode.specs.Decoding.{instruction_of}
use Rattle.rv32_decode.specs.Encoding.{imm_bits, word_of}
use Rattle.rv32_decode.specs.Target.{target_of}
use Rattle.rv32_decode.specs.declared.Inst.{Inst}
use Rattle.rv32_text.specs.Mnemonics.{mnemonic_of}
use Rattle.rv32_text.specs.Registers.{register_name}
use Rattle.rv32_text.specs.Style.{style_of}
use Rattle.rv32_text.specs.declared.style.Style.{Style}
use Rattle.rv32_text.specs.declared.style.Style.TheVariants.{Registers, Immediate, Offset, Store, Upper, Branch, Jump, Fence, Bare}
use Rattle.sec_base.specs.Hexadecimal.{hex_digits}
use Rattle.std.specs.Fmt.{digits, signed_decimal}
use Rattle.std.specs.Prelude.{ℕ, ◌==◌, ◌||◌, Bool, false, not, List, [], ◌∷◌, ◌++◌, Option, Some, None, codes, if◌then◌else◌}

-- a word as data
unfoldable pub data_text : ℕ → List ℕ
data_text word = codes ".word 0x" ++ hex_digits 8 word

-- a memory operand, as `4(sp)`
unfoldable pub memory_operand : Inst → List ℕ
memory_operand i = signed_decimal i.imm ++ (codes "(" ++ (register_name i.rs1 ++ codes ")"))

-- the address that a branch or a jump leads to, in eight digits
unfoldable pub target_text : Inst → ℕ → List ℕ
target_text i pc = codes "0x" ++ hex_digits 8 (target_of i pc)

-- the upper 20 bits of an immediate
unfoldable pub upper_text : Inst → List ℕ
upper_text i = codes "0x" ++ digits 16 false (imm_bits i 12 20)

-- the operands of an instruction that stands at `pc`
abbrev pub operand_texts : Style → Inst → ℕ → List (List ℕ)
operand_texts Registers i pc = register_name i.rd ∷ register_name i.rs1 ∷ register_name i.rs2 ∷ []
operand_texts Immediate i pc = register_name i.rd ∷ register_name i.rs1 ∷ signed_decimal i.imm ∷ []
operand_texts Offset i pc = register_name i.rd ∷ memory_operand i ∷ []
operand_texts Store i pc = register_name i.rs2 ∷ memory_operand i ∷ []
operand_texts Upper i pc = register_name i.rd ∷ upper_text i ∷ []
operand_texts Branch i pc = register_name i.rs1 ∷ register_name i.rs2 ∷ target_text i pc ∷ []
operand_texts Jump i pc = register_name i.rd ∷ target_text i pc ∷ []
operand_texts Fence i pc = []
operand_texts Bare i pc = []

-- operands after the first, each after a comma and a blank
abbrev pub more_operands : List (List ℕ) → List ℕ
more_operands [] = []
more_operands (operand ∷ operands) = codes ", " ++ (operand ++ more_operands operands)

-- a mnemonic and its operands
abbrev pub instruction_text : List ℕ → List (List ℕ) → List ℕ
instruction_text mnemonic [] = mnemonic
instruction_text mnemonic (operand ∷ operands) = mnemonic ++ (codes " " ++ (operand ++ more_operands operands))

-- FENCE and FENCE.I with other fields than those that `fence` and `fence.i` stand for
abbrev pub is_unnamed_fence : Style → ℕ → Bool
is_unnamed_fence Fence word = not ((word == 0x0ff0000f) || (word == 0x0000100f))
is_unnamed_fence _ word = false

-- the text of an instruction that stands at `pc`
unfoldable pub text_of : Inst → ℕ → List ℕ
text_of i pc =
    if is_unnamed_fence (style_of i.op) (word_of i) then data_text (word_of i)
    else instruction_text (mnemonic_of i.op) (operand_texts (style_of i.op) i pc)

-- The text of a word: its instruction's, or `.word` where it is none.
abbrev pub text_or_data : Option Inst → ℕ → ℕ → List ℕ
text_or_data (Some i) word pc = text_of i pc
text_or_data None word pc = data_text word

-- the text of a word that stands at `pc`: its instruction's, or the word as data
unfoldable pub text_of_word : ℕ → ℕ → List ℕ
text_of_word word pc = text_or_data (instruction_of word) word pc
