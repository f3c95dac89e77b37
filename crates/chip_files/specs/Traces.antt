-- The trace that a file is: for a memory of one shape each file is just one, or is refused for just one reason.
use Rattle.std.specs.Prelude.{ℕ, List, Result}
use Rattle.sec_base.specs.Geometry.{GeometryView}
use Rattle.bus_trace.specs.Reading.{read_trace}
use Rattle.bus_trace.specs.declared.trace.Trace.{Trace}
use Rattle.chip_files.specs.declared.refusal.Refusal.{Refusal}
use Rattle.chip_files.specs.declared.refusal.Refusal.TheVariants.{Trace as trace_refused}
use Rattle.chip_files.specs.Program.{or_refusal}

-- how many bytes of a trace are read at most
abbrev pub trace_limit : ℕ
trace_limit = 67108864

-- the trace that a file is for a memory of this geometry, or why it is refused
abbrev pub trace_in : GeometryView → List ℕ → Result Trace Refusal
trace_in geometry file = or_refusal trace_refused (read_trace geometry file)
