-- The names and numbers of the faults.
use Rattle.std.specs.Prelude.{ℕ, List, codes}
use Rattle.rv32_asm_syntax.specs.declared.fault.AsmFault.{AsmFault}
use Rattle.rv32_asm_syntax.specs.declared.fault.AsmFault.TheVariants.{Unknown, Operand, Range, Twice, Missing, Large}

-- the word that stands for a fault in texts
abbrev pub asm_fault_name : AsmFault → List ℕ
asm_fault_name Unknown = codes "Unknown"
asm_fault_name Operand = codes "Operand"
asm_fault_name Range = codes "Range"
asm_fault_name Twice = codes "Twice"
asm_fault_name Missing = codes "Missing"
asm_fault_name Large = codes "Large"

-- its number
abbrev pub asm_fault_code : AsmFault → ℕ
asm_fault_code Unknown = 1
asm_fault_code Operand = 2
asm_fault_code Range = 3
asm_fault_code Twice = 4
asm_fault_code Missing = 5
asm_fault_code Large = 6
