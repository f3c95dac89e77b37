-- What the trace of a run tells.
use Rattle.std.specs.Prelude.{◌≡◌, ℕ, List, [], Option, Some, None}
use Rattle.attest_report.specs.ToldEnding.{ending_and_code}
use Rattle.bus_model.specs.Access.{CameBy}
use Rattle.bus_model.specs.BusHistory.{new_history}
use Rattle.bus_trace.specs.Entry.{accesses_of}
use Rattle.bus_trace.specs.Format.{IsInForm}
use Rattle.bus_trace.specs.Judge.{IsVerdict}
use Rattle.bus_trace.specs.declared.entry.Entry.{Entry}
use Rattle.bus_trace.specs.declared.trace.Trace.{Trace}
use Rattle.bus_trace.specs.declared.verdict.Verdict.TheVariants.{Follows}
use Rattle.chip_run.specs.Run.{KeepsAccesses, RunsProtected, Terms}
use Rattle.chip_run.specs.declared.RunRecord.{RunRecord}
use Rattle.chip_device.specs.declared.run_bus.RunBus.{RunBus}
use Rattle.chip_device.specs.Buses.{WentOver, run_history}
use Rattle.chip_device.specs.Printed.{gathered}

-- The trace of a run that printed this. Its entries are what the bus was asked and answered, as far as its history and the
-- run's instructions tell, and their writes are the run's messages.
pub record IsTraceOf (terms : Terms) (run : RunRecord) (bus : RunBus) (printed : List ℕ) (trace : Trace) : Type 0 where
  pub came : CameBy (new_history terms.geometry) (accesses_of trace.entries) (run_history bus)
  pub keeps : KeepsAccesses terms (run_history bus) (accesses_of trace.entries) run
  pub output : trace.output ≡ printed
  pub retired : trace.retired ≡ run.retired
  pub ending : ending_and_code run.ending ≡ Some (trace.ending, trace.code)
  pub in_form : IsInForm terms.geometry trace
  -- a judge of the run's terms finds no difference in it, unless the run hands out evidence
  pub follows : run.evidence ≡ None → IsVerdict terms.start terms.budget trace Follows

-- a run whose ending reports tell has a trace, and no other one has
abbrev pub IsTold : Terms → RunRecord → RunBus → List ℕ → Option Trace → Type 0
IsTold terms run bus printed None = ending_and_code run.ending ≡ None
IsTold terms run bus printed (Some trace) = IsTraceOf terms run bus printed trace

-- a run on these terms, over a bus that was new and whose writes are the run's messages, in order; and its trace, if it has one
pub record RunsTraced (terms : Terms) (run : RunRecord) (bus : RunBus) (trace : Option Trace) : Type 0 where
  pub printed : List ℕ
  pub runs : RunsProtected terms (gathered []) (gathered printed) (new_history terms.geometry) (run_history bus) run
  pub accesses : WentOver terms run bus
  pub told : IsTold terms run bus printed trace

-- the trace of this ending, if it is told, and of what was printed, retired and kept: for a private call alone
abbrev pub trace_by : Option (ℕ × ℕ) → ℕ → List ℕ → List Entry → Option Trace
trace_by None retired printed entries = None
trace_by (Some told) retired printed entries = Some (record {
  output = printed;
  ending = told.0;
  code = told.1;
  retired = retired;
  entries = entries;
})
