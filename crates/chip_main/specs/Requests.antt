-- What was done for a request.
use Rattle.std.specs.Prelude.{◌≡◌, List, [], ◌++◌, ℕ, Option, Result, Ok, Err}
use Rattle.adversary_script.specs.declared.script.ScriptLine.{ScriptLine}
use Rattle.sec_base.specs.Files.{FilesState}
use Rattle.sec_base.specs.Geometry.{memory_size}
use Rattle.sec_base.specs.Program.{IsImageOf, Program}
use Rattle.sec_base.specs.Sink.{SinkState, IsWritten}
use Rattle.sec_base.specs.declared.image.Image.{Image}
use Rattle.attest_report.specs.declared.report.Signed.{Signed}
use Rattle.bus_model.specs.BusHistory.{new_history}
use Rattle.bus_trace.specs.declared.trace.Trace.{Trace}
use Rattle.bus_trace.specs.declared.verdict.Difference.{Difference}
use Rattle.plain_machine.specs.declared.PlainRecord.{PlainRecord}
use Rattle.chip_run.specs.Run.{RunsProtected}
use Rattle.chip_run.specs.declared.RunRecord.{RunRecord}
use Rattle.chip_words.specs.Defaults.{side_run}
use Rattle.chip_words.specs.Request.{Asked, ExecutionAsked, FileAsked, JudgeAsked, PairAsked, ReportAsked, RunAsked, WordsFault, to_assemble, to_bench, to_disassemble, to_judge, to_measure, to_pair, to_run, to_run_plain, to_trace, to_verify}
use Rattle.chip_words.specs.Texts.{report_text, summary_text}
use Rattle.chip_files.specs.Causes.{AsksNothing}
use Rattle.chip_files.specs.Taken.{ReadsExecution, ReadsJudged, ReadsPair, ReadsProgram, ReadsReport, ReadsRun}
use Rattle.chip_files.specs.Verdict.{HasOtherTag, IsMadeBy}
use Rattle.chip_device.specs.declared.run_bus.RunBus.{RunBus}
use Rattle.chip_device.specs.Buses.{IsBusOf, LiesByScript, WentOver, run_history}
use Rattle.chip_device.specs.Device.{opening, terms_of}
use Rattle.chip_device.specs.Generated.{RunsGenerated}
use Rattle.chip_device.specs.Judged.{IsJudged}
use Rattle.chip_device.specs.Paired.{RunsBeside}
use Rattle.chip_device.specs.Traced.{RunsTraced}
use Rattle.plain_machine.specs.PlainRun.{RunsPlain}
use Rattle.chip_main.specs.declared.second.Second.{Second}
use Rattle.chip_main.specs.Status.{Telling}
use Rattle.chip_main.specs.Texts.{elf_file, listing, measurement_line, trace_file, verdict_line}

-- One statement for each kind of request: for a run on protected memory, for one on the plain machine, for a text of a
-- file's program, for the check of a report, for the run of a generated program, for a run's trace, for the judgement of a
-- trace, and for two programs that share the core. No statement holds where the words are no request.
abbrev pub ByCommand : Result Asked WordsFault → (RunAsked → Type 0) → (ExecutionAsked → Type 0)
    → (FileAsked → (Image → List ℕ) → Type 0) → (ReportAsked → Type 0) → (ℕ → Type 0)
    → (RunAsked → Type 0) → (JudgeAsked → Type 0) → (PairAsked → Type 0) → Type 0
ByCommand (Err fault) run plain writes verify bench trace judge pair = ⊥
ByCommand (Ok (to_run asked)) run plain writes verify bench trace judge pair = run asked
ByCommand (Ok (to_run_plain execution)) run plain writes verify bench trace judge pair = plain execution
ByCommand (Ok (to_assemble file)) run plain writes verify bench trace judge pair = writes file elf_file
ByCommand (Ok (to_disassemble file)) run plain writes verify bench trace judge pair = writes file listing
ByCommand (Ok (to_measure file)) run plain writes verify bench trace judge pair = writes file measurement_line
ByCommand (Ok (to_verify report)) run plain writes verify bench trace judge pair = verify report
ByCommand (Ok (to_bench number)) run plain writes verify bench trace judge pair = bench number
ByCommand (Ok (to_trace asked)) run plain writes verify bench trace judge pair = trace asked
ByCommand (Ok (to_judge asked)) run plain writes verify bench trace judge pair = judge asked
ByCommand (Ok (to_pair asked)) run plain writes verify bench trace judge pair = pair asked

-- the run's program and input are those that the request names, and its terms are the request's; its bus was new, and
-- is that of just the script that the request names, or honest where it names none; the writes of its bus are its messages,
-- in order
pub record RunsRequested (asked : RunAsked) (files files' : FilesState) (out out' : SinkState) (run : RunRecord) (bus : RunBus) : Type 0 where
  pub program : Program
  pub script : Option (List ScriptLine)
  pub input : List ℕ
  pub reads : ReadsRun asked files files' program script input
  pub bus_is : IsBusOf script bus
  pub runs : RunsProtected (terms_of asked program input) out out'
      (new_history asked.execution.file.geometry) (run_history bus) run
  pub accesses : WentOver (terms_of asked program input) run bus

-- the program and the input that the request names ran on the plain machine, and gave this record
abbrev pub PlainlyRuns : ExecutionAsked → FilesState → FilesState → SinkState → SinkState → PlainRecord → Type 0
PlainlyRuns execution files files' out out' run =
    (program : Program) × (input : List ℕ) × ReadsExecution execution files files' program input
    × RunsPlain (opening execution.file.geometry program input) execution.steps out out' run

-- a text of the file's program was written, as far as the answer says
pub record Writes (file : FileAsked) (text : Image → List ℕ) (files files' : FilesState) (out out' : SinkState) (telling : Telling) : Type 0 where
  pub program : Program
  pub takes : ReadsProgram file files files' program
  pub image : Image
  pub is_image : IsImageOf (memory_size file.geometry) program image
  pub written : IsWritten (text image) out out' telling

-- the file is a report that the device of the request's key made, and what it says was written, as far as the answer
-- says
pub record WritesReport (asked : ReportAsked) (files files' : FilesState) (out out' : SinkState) (telling : Telling)
    : Type 0 where
  pub text : List ℕ
  pub reads : ReadsReport asked files files' text
  pub signed : Signed
  pub made : IsMadeBy asked.device_key text signed
  pub written : IsWritten (report_text signed) out out' telling

-- the file is a report that the device of the request's key did not make
abbrev pub FindsOtherTag : ReportAsked → FilesState → FilesState → Type 0
FindsOtherTag asked files files' =
    (text : List ℕ) × ReadsReport asked files files' text × HasOtherTag asked.device_key text

-- the generated program of the number ran, and its summary was written, as far as the answer says; no file was asked for
pub record Summarizes (number : ℕ) (files files' : FilesState) (out out' : SinkState) (run : RunRecord) (bus : RunBus) (telling : Telling)
    : Type 0 where
  pub asked : AsksNothing files files'
  pub printed : List ℕ
  pub runs : RunsGenerated number printed run bus
  pub written : IsWritten (summary_text number run.ending run.retired printed) out out' telling

-- the run's program, script and input are those that the request names, and its terms are the request's; its bus was new
-- and follows just that script; and its trace, where it has one, was written, as far as the answer says
pub record Traces (asked : RunAsked) (files files' : FilesState) (out out' : SinkState) (run : RunRecord) (bus : RunBus) (telling : Telling)
    : Type 0 where
  pub program : Program
  pub script : Option (List ScriptLine)
  pub input : List ℕ
  pub reads : ReadsRun asked files files' program script input
  pub bus_is : IsBusOf script bus
  pub trace : Option Trace
  pub traced : RunsTraced (terms_of asked program input) run bus trace
  pub written : IsWritten (trace_file trace) out out' telling

-- the program, the input and the trace are those that the request names, and the verdict on that trace was written, as far
-- as the answer says
pub record Judges (judge : JudgeAsked) (files files' : FilesState) (out out' : SinkState) (difference : Option Difference) (telling : Telling)
    : Type 0 where
  pub program : Program
  pub input : List ℕ
  pub trace : Trace
  pub reads : ReadsJudged judge files files' program input trace
  pub verdict : IsJudged (opening judge.execution.file.geometry program input) judge.execution.steps trace difference
  pub written : IsWritten (verdict_line difference) out out' telling

-- Two programs shared the core. Both are those that the request names, and so are the scripts of their adversaries; the order
-- of turns was read, and nothing below says that it was kept. Each has the terms of a run that names no option, but for its key,
-- and no input. Each bus was new and follows just its own script; each program has the theorem of a run, and
-- without evidence comes to what it comes to alone. What the first one printed was written, and then what the second one did, as
-- far as the answer says.
pub record Pairs (asked : PairAsked) (files files' : FilesState) (out out' : SinkState) (run : RunRecord) (bus : RunBus) (second : Second) (telling : Telling)
    : Type 0 where
  pub program : Program
  pub second_program : Program
  pub order : List ℕ
  pub script : Option (List ScriptLine)
  pub second_script : Option (List ScriptLine)
  pub reads : ReadsPair asked files files' program second_program order script second_script
  pub bus_is : IsBusOf script bus
  pub second_bus_is : IsBusOf second_script second.bus
  pub printed : List ℕ
  pub second_printed : List ℕ
  pub runs : RunsBeside (terms_of (side_run asked.first) program []) printed run bus second.first_stop
  pub second_runs : RunsBeside (terms_of (side_run asked.second) second_program []) second_printed second.run second.bus second.second_stop
  pub second_lies : second.lies ≡ (run_history second.bus).lies
  pub second_by_script : LiesByScript second.bus
  pub written : IsWritten (printed ++ second_printed) out out' telling

-- the request is for a run on protected memory, and that was done
abbrev pub RunsRequest : Result Asked WordsFault → FilesState → FilesState → SinkState → SinkState → RunRecord → RunBus → Type 0
RunsRequest request files files' out out' run bus =
    ByCommand request (λ asked. RunsRequested asked files files' out out' run bus) (λ _. ⊥) (λ _ _. ⊥) (λ _. ⊥) (λ _. ⊥)
    (λ _. ⊥) (λ _. ⊥) (λ _. ⊥)

-- the request is for a run on the plain machine, and it ran
abbrev pub PlainlyRunsRequest : Result Asked WordsFault → FilesState → FilesState → SinkState → SinkState → PlainRecord → Type 0
PlainlyRunsRequest request files files' out out' run =
    ByCommand request (λ _. ⊥) (λ execution. PlainlyRuns execution files files' out out' run) (λ _ _. ⊥) (λ _. ⊥)
    (λ _. ⊥) (λ _. ⊥) (λ _. ⊥) (λ _. ⊥)

-- the request is for a text or a report's check; a text was written as far as the answer says
abbrev pub WritesRequest : Result Asked WordsFault → FilesState → FilesState → SinkState → SinkState → Telling → Type 0
WritesRequest request files files' out out' telling = ByCommand request (λ _. ⊥) (λ _. ⊥)
    (λ file text. Writes file text files files' out out' telling)
    (λ asked. WritesReport asked files files' out out' telling) (λ _. ⊥) (λ _. ⊥) (λ _. ⊥) (λ _. ⊥)

-- the request is for the check of a report, and the tag of the report differs
abbrev pub OtherTagRequest : Result Asked WordsFault → FilesState → FilesState → Type 0
OtherTagRequest request files files' =
    ByCommand request (λ _. ⊥) (λ _. ⊥) (λ _ _. ⊥) (λ asked. FindsOtherTag asked files files') (λ _. ⊥) (λ _. ⊥) (λ _. ⊥)
    (λ _. ⊥)

-- the request is for a generated program; its summary was written as far as the answer says
abbrev pub SummarizesRequest : Result Asked WordsFault → FilesState → FilesState → SinkState → SinkState → RunRecord → RunBus → Telling → Type 0
SummarizesRequest request files files' out out' run bus telling = ByCommand request (λ _. ⊥) (λ _. ⊥) (λ _ _. ⊥) (λ _. ⊥)
    (λ number. Summarizes number files files' out out' run bus telling) (λ _. ⊥) (λ _. ⊥) (λ _. ⊥)

-- the request is for a run's trace, which was written as far as the answer says
abbrev pub TracesRequest : Result Asked WordsFault → FilesState → FilesState → SinkState → SinkState → RunRecord → RunBus → Telling → Type 0
TracesRequest request files files' out out' run bus telling = ByCommand request (λ _. ⊥) (λ _. ⊥) (λ _ _. ⊥) (λ _. ⊥) (λ _. ⊥)
    (λ asked. Traces asked files files' out out' run bus telling) (λ _. ⊥) (λ _. ⊥)

-- the request is for the judgement of a trace; the verdict, with its difference where it has one, was written as far as the
-- answer says
abbrev pub JudgesRequest : Result Asked WordsFault → FilesState → FilesState → SinkState → SinkState → Option Difference → Telling → Type 0
JudgesRequest request files files' out out' difference telling = ByCommand request (λ _. ⊥) (λ _. ⊥) (λ _ _. ⊥) (λ _. ⊥) (λ _. ⊥)
    (λ _. ⊥) (λ judge. Judges judge files files' out out' difference telling) (λ _. ⊥)

-- the request is for two programs that share the core, and they ran; what they printed was written as far as the answer says
abbrev pub PairsRequest : Result Asked WordsFault → FilesState → FilesState → SinkState → SinkState → RunRecord → RunBus → Second → Telling → Type 0
PairsRequest request files files' out out' run bus second telling = ByCommand request (λ _. ⊥) (λ _. ⊥) (λ _ _. ⊥) (λ _. ⊥) (λ _. ⊥)
    (λ _. ⊥) (λ _. ⊥) (λ asked. Pairs asked files files' out out' run bus second telling)

-- the request is for two programs that share the core
abbrev pub AsksPair : Result Asked WordsFault → Type 0
AsksPair request = ByCommand request (λ _. ⊥) (λ _. ⊥) (λ _ _. ⊥) (λ _. ⊥) (λ _. ⊥) (λ _. ⊥) (λ _. ⊥) (λ _. Unit {0})
