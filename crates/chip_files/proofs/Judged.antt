-- The files of a trace that is judged.
use Rattle.std.proofs.Common.{◌≡◌, ◌≤◌, ℕ, List, [], ◌∷◌, length, Err, refl, ap, inr}
use Rattle.std.specs.Result.{result_err}
use Rattle.sec_base.specs.Files.{FilesState, HasBytes}
use Rattle.sec_base.specs.Geometry.{GeometryView}
use Rattle.sec_base.specs.Program.{Program}
use Rattle.bus_trace.specs.Reading.{read_trace}
use Rattle.bus_trace.specs.declared.fault.TraceError.{TraceError}
use Rattle.bus_trace.specs.declared.fault.TraceError.TheVariants.{Fault as TraceFaulty, NoMemory as trace_no_memory}
use Rattle.bus_trace.specs.declared.fault.TraceFault.{TraceFault}
use Rattle.bus_trace.specs.declared.trace.Trace.{Trace}
use Rattle.chip_words.specs.Request.{JudgeAsked}
use Rattle.chip_files.specs.declared.refusal.Refusal.TheVariants.{Trace as trace_refused}
use Rattle.chip_files.specs.Program.{or_refusal}
use Rattle.chip_files.specs.Traces.{trace_in, trace_limit}
use Rattle.chip_files.specs.Needs.{AreAccepted, execution_needs, judge_needs, trace_need}
use Rattle.chip_files.specs.Causes.{Asks}
use Rattle.chip_files.specs.Stop.{IsStoppedBy, trace_stop_of}
use Rattle.chip_files.specs.Taken.{IsInput, IsProgram, IsTraceFile, ReadsExecution, ReadsJudged}
use Rattle.chip_files.proofs.Accepted.{input_accepted, program_accepted}
use Rattle.chip_files.proofs.Takings.{accepted_before, asks_more, both_accepted, runs_out_here, stops_here}

-- a file was read, and is no trace
pub no_trace : (error : TraceError) (geometry : GeometryView) (name bytes : List ℕ) (old new : FilesState) → HasBytes old.held name bytes → length bytes ≤ trace_limit → Asks (trace_need geometry name ∷ []) old new →
    ((fault : TraceFault) → error ≡ TraceFaulty fault → read_trace geometry bytes ≡ Err fault) → IsStoppedBy (trace_stop_of error) (trace_need geometry name ∷ []) old new
no_trace (TraceFaulty fault) geometry name bytes old new told within asked refused =
    let same : trace_in geometry bytes ≡ Err (trace_refused fault) = ap (or_refusal trace_refused) (refused fault refl) in
    stops_here (trace_refused fault) (trace_need geometry name) old new asked
    (record { bytes = bytes; told = told; within = within; fault = ap result_err same })
no_trace trace_no_memory geometry name bytes old new told within asked refused = runs_out_here (trace_need geometry name) old new (inr asked)

-- the files of what was read are accepted

pub all_judged_accepted : (judge : JudgeAsked) (files : FilesState) (program : Program) (input : List ℕ) (trace : Trace) → IsProgram files judge.execution.file program →
    IsInput files judge.execution.input input → IsTraceFile files judge.execution.file.geometry judge.trace trace → AreAccepted files (judge_needs judge)
all_judged_accepted judge files program input trace program_is input_is trace_is =
    both_accepted (execution_needs judge.execution) (trace_need judge.execution.file.geometry judge.trace ∷ []) files
    (program_accepted judge.execution.file program files program_is, input_accepted judge.execution.input input files input_is) ((trace_is.bytes, trace_is.accepted), tt)

pub judged_accepted : (judge : JudgeAsked) (files files' : FilesState) (program : Program) (input : List ℕ) (trace : Trace) → ReadsJudged judge files files' program input trace → AreAccepted files (judge_needs judge)
judged_accepted judge files files' program input trace reads =
    all_judged_accepted judge files program input trace reads.program_is reads.input_is reads.trace_is

-- an execution's files were read, and then the trace that is judged
pub reads_judged : (judge : JudgeAsked) (old mid new : FilesState) (program : Program) (input : List ℕ) (trace : Trace) → mid.held ≡ old.held → ReadsExecution judge.execution old mid program input →
    IsTraceFile mid judge.execution.file.geometry judge.trace trace → Asks (trace_need judge.execution.file.geometry judge.trace ∷ []) mid new → ReadsJudged judge old new program input trace
reads_judged judge old mid new program input trace same reads trace_is asked = record {
  program_is = reads.program_is;
  input_is = reads.input_is;
  trace_is = record {
    bytes = trace_is.bytes;
    accepted = accepted_before (trace_need judge.execution.file.geometry judge.trace) trace_is.bytes old mid same trace_is.accepted;
    is = trace_is.is;
  };
  asked = asks_more (execution_needs judge.execution) (trace_need judge.execution.file.geometry judge.trace ∷ []) old mid new reads.asked asked;
}
