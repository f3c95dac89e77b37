-- What is due where nothing fails.
use Rattle.std.specs.Prelude.{◌≡◌, ◌⊎◌, List, [], ◌∷◌, ℕ, Option, Some, None, IsSome, Ok}
use Rattle.adversary_script.specs.declared.script.ScriptLine.{ScriptLine}
use Rattle.attest_report.specs.declared.refusal.ReportError.{ReportError}
use Rattle.attest_report.specs.declared.refusal.ReportError.TheVariants.{Length, Digit, Version, Tag}
use Rattle.sec_base.specs.Count.{Rose}
use Rattle.sec_base.specs.Files.{FilesState}
use Rattle.sec_base.specs.Sink.{Gains, SinkState}
use Rattle.bus_trace.specs.declared.trace.Trace.{Trace}
use Rattle.bus_trace.specs.declared.verdict.Difference.{Difference}
use Rattle.chip_run.specs.declared.RunRecord.{RunRecord}
use Rattle.rv32_core.specs.Machine.{plain}
use Rattle.rv32_core.specs.Follows.{IsWhole, ending_at}
use Rattle.chip_words.specs.Defaults.{side_run}
use Rattle.chip_words.specs.Request.{Asked, ExecutionAsked, FileAsked, JudgeAsked, PairAsked, RunAsked, SideAsked, asked_program, to_assemble, to_bench, to_disassemble, to_judge, to_measure, to_pair, to_run, to_run_plain, to_trace, to_verify}
use Rattle.chip_main.specs.declared.Done.{Done}
use Rattle.chip_main.specs.declared.second.Second.{Second}
use Rattle.chip_main.specs.World.{World}
use Rattle.sec_base.specs.Program.{Program}
use Rattle.chip_files.specs.Taken.{IsInput, IsOrderOf, IsProgram, IsScript, IsTraceFile, Tell}
use Rattle.chip_device.specs.declared.run_bus.RunBus.{RunBus}
use Rattle.chip_device.specs.Device.{opening}
use Rattle.chip_device.specs.Judged.{IsJudged}
use Rattle.chip_main.specs.Answer.{IsPairAnd, IsRunAnd}
use Rattle.chip_main.specs.Requests.{Traces}
use Rattle.chip_main.specs.Status.{code_of, ending_status, found_status, joint_status}
use Rattle.chip_main.specs.Texts.{verdict_line}
use Rattle.chip_main.specs.declared.status.Status.{Status}
use Rattle.chip_main.specs.declared.status.Status.TheVariants.{Done as done_status, Refused, Spent, NoMemory, TagDiffers, JudgedNo}

-- the program is that of this file, and there is none where no file is of a program
abbrev pub IsProgramOf : FilesState → Option FileAsked → Program → Type 0
IsProgramOf files None program = ⊥
IsProgramOf files (Some file) program = IsProgram files file program

-- the name of a request's input, where it has one
abbrev pub asked_input : Asked → Option (List ℕ)
asked_input (to_run asked) = asked.execution.input
asked_input (to_run_plain execution) = execution.input
asked_input (to_assemble file) = None
asked_input (to_disassemble file) = None
asked_input (to_measure file) = None
asked_input (to_verify report) = None
asked_input (to_bench number) = None
asked_input (to_trace asked) = asked.execution.input
asked_input (to_judge judge) = judge.execution.input
asked_input (to_pair pair) = None

-- the script is that of the file that a run names, and there is none where none is named
abbrev pub IsAskedScript : FilesState → Asked → Option (List ScriptLine) → Type 0
IsAskedScript files (to_run asked) script = IsScript files asked.execution.file.geometry asked.script script
IsAskedScript files (to_run_plain execution) script = script ≡ None
IsAskedScript files (to_assemble file) script = script ≡ None
IsAskedScript files (to_disassemble file) script = script ≡ None
IsAskedScript files (to_measure file) script = script ≡ None
IsAskedScript files (to_verify report) script = script ≡ None
IsAskedScript files (to_bench number) script = script ≡ None
IsAskedScript files (to_trace asked) script = IsScript files asked.execution.file.geometry asked.script script
IsAskedScript files (to_judge judge) script = script ≡ None
IsAskedScript files (to_pair pair) script = script ≡ None

-- the file that is to be judged is a trace
abbrev pub HasAskedTrace : FilesState → Asked → Type 0
HasAskedTrace files (to_run asked) = Unit {0}
HasAskedTrace files (to_run_plain execution) = Unit {0}
HasAskedTrace files (to_assemble file) = Unit {0}
HasAskedTrace files (to_disassemble file) = Unit {0}
HasAskedTrace files (to_measure file) = Unit {0}
HasAskedTrace files (to_verify report) = Unit {0}
HasAskedTrace files (to_bench number) = Unit {0}
HasAskedTrace files (to_trace asked) = Unit {0}
HasAskedTrace files (to_judge judge) =
    (trace : Trace) × IsTraceFile files judge.execution.file.geometry judge.trace trace
HasAskedTrace files (to_pair pair) = Unit {0}

-- the files tell all that a request for a program needs, in its form: this program, this script and this input, and a trace
-- where one is judged
pub record Ready (asked : Asked) (files : FilesState) (program : Program) (script : Option (List ScriptLine)) (input : List ℕ) : Type 0 where
  pub tells : Tell files
  pub program_is : IsProgramOf files (asked_program asked) program
  pub script_is : IsAskedScript files asked script
  pub input_is : IsInput files (asked_input asked) input
  pub trace_is : HasAskedTrace files asked

-- no write of what a request tells of itself failed; of a text, of a generated program, or of a verdict, nothing is told
abbrev pub NoteFaultless : Asked → SinkState → SinkState → Type 0
NoteFaultless (to_run asked) old new = ¬ (Rose old.faults new.faults)
NoteFaultless (to_run_plain execution) old new = ¬ (Rose old.faults new.faults)
NoteFaultless (to_assemble file) old new = Unit {0}
NoteFaultless (to_disassemble file) old new = Unit {0}
NoteFaultless (to_measure file) old new = Unit {0}
NoteFaultless (to_verify report) old new = ¬ (Rose old.faults new.faults)
NoteFaultless (to_bench number) old new = Unit {0}
NoteFaultless (to_trace asked) old new = ¬ (Rose old.faults new.faults)
NoteFaultless (to_judge judge) old new = Unit {0}
NoteFaultless (to_pair pair) old new = ¬ (Rose old.faults new.faults)

-- no read failed, no write did whose failure the status tells, and no answer of the bus was false; of a pair, of the first one's
pub record Faultless (asked : Asked) (old new : World) (done : Done) : Type 0 where
  pub files : ¬ (Rose old.files.faults new.files.faults)
  pub out : ¬ (Rose old.out.faults new.out.faults)
  pub note : NoteFaultless asked old.note new.note
  pub bus : done.lies ≡ 0

-- the status of the plain machine's run over the whole budget
abbrev pub plain_status : ExecutionAsked → Program → List ℕ → Status
plain_status execution program input =
    ending_status (ending_at (plain (opening execution.file.geometry program input) execution.steps) execution.steps)

-- The status that is due, or that of no memory; of a run on protected memory, that of a page that was used up; and of a
-- judgement, that of either verdict.
abbrev pub whole_statuses : Asked → Program → List ℕ → List Status
whole_statuses (to_run asked) program input = plain_status asked.execution program input ∷ Spent ∷ NoMemory ∷ []
whole_statuses (to_run_plain execution) program input = plain_status execution program input ∷ NoMemory ∷ []
whole_statuses (to_assemble file) program input = done_status ∷ NoMemory ∷ []
whole_statuses (to_disassemble file) program input = done_status ∷ NoMemory ∷ []
whole_statuses (to_measure file) program input = done_status ∷ NoMemory ∷ []
whole_statuses (to_verify report) program input = []
whole_statuses (to_bench number) program input = []
whole_statuses (to_trace asked) program input = plain_status asked.execution program input ∷ Spent ∷ NoMemory ∷ []
whole_statuses (to_judge judge) program input = done_status ∷ JudgedNo ∷ NoMemory ∷ []
whole_statuses (to_pair pair) program input = []

-- the status that is due of a report with this verdict
abbrev pub verdict_status : Option ReportError → Status
verdict_status None = done_status
verdict_status (Some Tag) = TagDiffers
verdict_status (Some Length) = Refused
verdict_status (Some Digit) = Refused
verdict_status (Some Version) = Refused

-- the run is the plain machine's over the whole budget, and has its status
abbrev pub RanWhole : ExecutionAsked → Program → List ℕ → Done → Type 0
RanWhole execution program input done = IsRunAnd done (λ run bus.
    IsWhole (opening execution.file.geometry program input) execution.steps run.retired run.ending
    × (done.status ≡ code_of (ending_status run.ending)))

-- the run's trace was written whole, and it has one
pub record WroteTrace (asked : RunAsked) (old new : World) (run : RunRecord) (bus : RunBus) : Type 0 where
  pub traces : Traces asked old.files new.files old.out new.out run bus (Ok tt)
  pub there : IsSome traces.trace

-- the run is the plain machine's over the whole budget, and has its status, or a page of it was used up; and its trace was
-- written whole
pub record TracedWhole (asked : RunAsked) (program : Program) (input : List ℕ) (old new : World) (done : Done) : Type 0 where
  pub wrote : IsRunAnd done (WroteTrace asked old new)
  pub ran : (done.status ≡ code_of Spent) ⊎ RanWhole asked.execution program input done

-- the verdict on this trace was written whole, and the status is that of this verdict
pub record JudgedWhole (judge : JudgeAsked) (program : Program) (input : List ℕ) (trace : Trace) (old new : World) (done : Done)
    : Type 0 where
  pub difference : Option Difference
  pub verdict : IsJudged (opening judge.execution.file.geometry program input) judge.execution.steps trace difference
  pub written : Gains old.out (verdict_line difference) new.out
  pub status_is : done.status ≡ code_of (found_status difference)

-- the files tell all that one of two programs needs, in its form: this program, and its script
pub record ReadySide (side : SideAsked) (files : FilesState) (program : Program) : Type 0 where
  pub program_is : IsProgram files (side_run side).execution.file program
  pub script : Option (List ScriptLine)
  pub script_is : IsScript files (side_run side).execution.file.geometry side.script script

-- the files tell all that two programs need that are to share the core, in its form: these programs, and the order of their turns
pub record ReadyPair (asked : PairAsked) (files : FilesState) (first second : Program) : Type 0 where
  pub tells : Tell files
  pub first_ready : ReadySide asked.first files first
  pub second_ready : ReadySide asked.second files second
  pub order : List ℕ
  pub order_is : IsOrderOf files asked.order order

-- how many answers of the second one's bus were false: none where there is no second one
abbrev pub second_lies : Option Second → ℕ
second_lies None = 0
second_lies (Some second) = second.lies

-- the run of one of two programs is the plain machine's over the whole budget, on no input
abbrev pub RanSideWhole : SideAsked → Program → RunRecord → Type 0
RanSideWhole side program run = IsWhole (opening (side_run side).execution.file.geometry program [])
    (side_run side).execution.steps run.retired run.ending

-- both runs are the plain machine's over the whole budget, and the status is that of the two
pub record PairedWhole (asked : PairAsked) (first second : Program) (done : Done) (run : RunRecord) (bus : RunBus) (beside : Second)
    : Type 0 where
  pub first_whole : RanSideWhole asked.first first run
  pub second_whole : RanSideWhole asked.second second beside.run
  pub status_is : done.status ≡ code_of (joint_status (ending_status run.ending) (ending_status beside.run.ending))

-- the same of a call's pair
abbrev pub PairWhole : PairAsked → Program → Program → Done → Type 0
PairWhole asked first second done = IsPairAnd done (PairedWhole asked first second done)
