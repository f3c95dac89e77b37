-- The names and numbers of the refusals.
use Rattle.std.specs.Prelude.{ℕ, List, codes}
use Rattle.bus_trace.specs.declared.fault.TraceFault.{TraceFault}
use Rattle.bus_trace.specs.declared.fault.TraceFault.TheVariants.{Short, Magic, Kind, Place, Rest}

-- the word that stands for a refusal in texts
abbrev pub trace_fault_name : TraceFault → List ℕ
trace_fault_name Short = codes "Short"
trace_fault_name Magic = codes "Magic"
trace_fault_name Kind = codes "Kind"
trace_fault_name Place = codes "Place"
trace_fault_name Rest = codes "Rest"

-- its number
abbrev pub trace_fault_code : TraceFault → ℕ
trace_fault_code Short = 1
trace_fault_code Magic = 2
trace_fault_code Kind = 3
trace_fault_code Place = 4
trace_fault_code Rest = 5
