-- The names and numbers of the faults of a state file.
use Rattle.std.specs.Prelude.{ℕ, List, codes}
use Rattle.sealed_state.specs.declared.state_fault.StateFault.{StateFault}
use Rattle.sealed_state.specs.declared.state_fault.StateFault.TheVariants.{Length, Kind, Tag, Number}

-- the word that stands for a fault in texts
abbrev pub state_fault_name : StateFault → List ℕ
state_fault_name Length = codes "Length"
state_fault_name Kind = codes "Kind"
state_fault_name Tag = codes "Tag"
state_fault_name Number = codes "Number"

-- its number, in the order in which they are tested
abbrev pub state_fault_code : StateFault → ℕ
state_fault_code Length = 1
state_fault_code Kind = 2
state_fault_code Tag = 3
state_fault_code Number = 4
