-- The names and numbers of the faults.
use Rattle.std.specs.Prelude.{ℕ, List, codes}
use Rattle.adversary_script.specs.declared.fault.ScriptFault.{ScriptFault}
use Rattle.adversary_script.specs.declared.fault.ScriptFault.TheVariants.{Word, Number, Place, Span, Register}

-- the word that stands for a fault in texts
abbrev pub script_fault_name : ScriptFault → List ℕ
script_fault_name Word = codes "Word"
script_fault_name Number = codes "Number"
script_fault_name Place = codes "Place"
script_fault_name Span = codes "Span"
script_fault_name Register = codes "Register"

-- its number
abbrev pub script_fault_code : ScriptFault → ℕ
script_fault_code Word = 1
script_fault_code Number = 2
script_fault_code Place = 3
script_fault_code Span = 4
script_fault_code Register = 5
