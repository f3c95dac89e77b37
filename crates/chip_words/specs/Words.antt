-- What the library's values say: requests and errors as the clauses see them.
use Rattle.std.specs.Prelude.{◌≡◌, List, map, option_map, Result, Ok, Err, ⊤}
use Rattle.std.specs.Borrow.{Bor}
use Rattle.clap.specs.Walk.{Text}
use Rattle.chip_words.specs.Request.{Asked, ExecutionAsked, FileAsked, JudgeAsked, PairAsked, ReportAsked, RunAsked, SideAsked, WordsFault, to_assemble, to_bench, to_disassemble, to_judge, to_measure, to_pair, to_run, to_run_plain, to_trace, to_verify, wrong_value, not_taken}
use Rattle.chip_words.specs.declared.fault.ValueFault.{ValueFault}
use Rattle.chip_words.specs.declared.fault.WordsError.{WordsError}
use Rattle.chip_words.specs.declared.fault.WordsError.TheVariants.{Usage, WrongValue, NoMemory}
use Rattle.chip_words.specs.declared.request.Execution.{Execution}
use Rattle.chip_words.specs.declared.request.JudgedTrace.{JudgedTrace}
use Rattle.chip_words.specs.declared.request.PairRun.{PairRun}
use Rattle.chip_words.specs.declared.request.ProgramFile.{ProgramFile}
use Rattle.chip_words.specs.declared.request.ProtectedRun.{ProtectedRun}
use Rattle.chip_words.specs.declared.request.ReportFile.{ReportFile}
use Rattle.chip_words.specs.declared.request.Request.{Request}
use Rattle.chip_words.specs.declared.request.Request.TheVariants.{Run, Plain, Asm, Dis, Measure, Verify, Bench, Trace, Judge, Pair}
use Rattle.chip_words.specs.declared.request.SideRun.{SideRun}

-- what the words point to
abbrev pub texts : List (Bor Text) → List Text
texts words = map (λ word. word.now) words

-- a program's file as the clauses see it
abbrev pub file_asked : ProgramFile → FileAsked
file_asked file = record { name = file.name.now; form = file.form; geometry = file.geometry }

-- what to execute as the clauses see it: the program, its input and the limit of steps
abbrev pub execution_asked : Execution → ExecutionAsked
execution_asked execution = record {
  file = file_asked execution.file;
  input = option_map (λ text. text.now) execution.input;
  steps = execution.steps;
}

-- a run on protected memory as the clauses see it: what to execute, the script and the terms
abbrev pub run_asked : ProtectedRun → RunAsked
run_asked run = record {
  execution = execution_asked run.execution;
  script = option_map (λ text. text.now) run.script;
  terms = run.terms;
}

-- the judgement of a trace as the clauses see it: what to execute, and the trace's file
abbrev pub judge_asked : JudgedTrace → JudgeAsked
judge_asked judge =
    record { execution = execution_asked judge.execution; trace = judge.trace.now }

-- one of two programs that share the core as the clauses see it: its file, its script and its device key
abbrev pub side_asked : SideRun → SideAsked
side_asked side = record {
  name = side.name.now;
  script = option_map (λ text. text.now) side.script;
  device_key = side.device_key;
}

-- two programs that share the core as the clauses see them, and the file of their turns
abbrev pub pair_asked : PairRun → PairAsked
pair_asked pair = record {
  first = side_asked pair.first;
  second = side_asked pair.second;
  order = option_map (λ text. text.now) pair.order;
}

-- the check of a report as the clauses see it: the file and the device key
abbrev pub report_asked : ReportFile → ReportAsked
report_asked report = record { name = report.name.now; device_key = report.device_key }

-- what the request asks for
abbrev pub asked : Request → Asked
asked (Run run) = to_run (run_asked run)
asked (Plain execution) = to_run_plain (execution_asked execution)
asked (Asm file) = to_assemble (file_asked file)
asked (Dis file) = to_disassemble (file_asked file)
asked (Measure file) = to_measure (file_asked file)
asked (Verify report) = to_verify (report_asked report)
asked (Bench number) = to_bench number
asked (Trace run) = to_trace (run_asked run)
asked (Judge judge) = to_judge (judge_asked judge)
asked (Pair pair) = to_pair (pair_asked pair)

-- what the values of a command come to
abbrev pub answer_asked : Result Request ValueFault → Result Asked WordsFault
answer_asked (Ok request) = Ok (asked request)
answer_asked (Err fault) = Err (wrong_value fault)

-- the error says why the words ask for nothing, unless there was no memory
abbrev pub Explains : WordsError → Result Asked WordsFault → Type 0
Explains (Usage text) request = request ≡ Err not_taken
Explains (WrongValue fault) request = request ≡ Err (wrong_value fault)
Explains NoMemory request = ⊤

-- the error is of words that `clap` doesn't take, and then this holds; or there was no memory
abbrev pub IfUsage : WordsError → Type 0 → Type 0
IfUsage (Usage text) P = P
IfUsage (WrongValue fault) P = ⊥
IfUsage NoMemory P = ⊤
