-- The files that a request needs, in order.
use Rattle.std.specs.Prelude.{◌≡◌, ◌<◌, ◌≤◌, ◌≢◌, ◌⊎◌, List, [], ◌∷◌, ◌++◌, ℕ, length, map, Option, Some, None, Result, Ok, Err}
use Rattle.std.specs.Result.{result_err}
use Rattle.sec_base.specs.Files.{FilesState, HasBytes}
use Rattle.chip_words.specs.Defaults.{side_run}
use Rattle.chip_words.specs.Request.{Asked, ExecutionAsked, FileAsked, JudgeAsked, PairAsked, ReportAsked, RunAsked, WordsFault, to_assemble, to_disassemble, to_judge, to_measure, to_pair, to_run, to_run_plain, to_trace, to_verify, to_bench}
use Rattle.chip_files.specs.declared.refusal.Refusal.{Refusal}
use Rattle.chip_files.specs.Program.{fault_in, limit_of, script_in, script_limit}
use Rattle.chip_files.specs.Orders.{order_fault, order_limit}
use Rattle.chip_files.specs.Traces.{trace_in, trace_limit}
use Rattle.chip_files.specs.Verdict.{form_fault, report_limit, verdict_of}
use Rattle.sec_base.specs.Geometry.{GeometryView, one}

-- a file's name, how many bytes of it are read at most, and what is wrong with bytes that don't have its form
pub record Need : Type 0 where
  pub name : List ℕ
  pub limit : ℕ
  pub fault : List ℕ → Option Refusal

-- a program has its form, and fits the memory
abbrev pub program_need : FileAsked → Need
program_need file = record { name = file.name; limit = limit_of file.form; fault = fault_in file }

-- a script has its form, and fits a memory of this geometry
abbrev pub script_need : GeometryView → List ℕ → Need
script_need geometry name =
    record { name = name; limit = script_limit; fault = λ bytes. result_err (script_in geometry bytes) }

-- the adversary's script is needed where the request names one
abbrev pub script_needs : GeometryView → Option (List ℕ) → List Need
script_needs geometry None = []
script_needs geometry (Some name) = script_need geometry name ∷ []

-- no longer input is read
abbrev pub input_limit : ℕ
input_limit = 1048576

-- any bytes are an input
abbrev pub input_need : List ℕ → Need
input_need name = record { name = name; limit = input_limit; fault = λ bytes. None }

-- the input is needed where the request names one
abbrev pub input_needs : Option (List ℕ) → List Need
input_needs None = []
input_needs (Some name) = input_need name ∷ []

-- a report has its form
abbrev pub report_need : ReportAsked → Need
report_need asked =
    record { name = asked.name; limit = report_limit; fault = λ bytes. form_fault (verdict_of asked.device_key bytes) }

-- a trace has its form, and fits a memory of this geometry
abbrev pub trace_need : GeometryView → List ℕ → Need
trace_need geometry name =
    record { name = name; limit = trace_limit; fault = λ bytes. result_err (trace_in geometry bytes) }

-- an order of turns names a side in each byte
abbrev pub order_need : List ℕ → Need
order_need name = record { name = name; limit = order_limit; fault = order_fault }

-- the order of turns is needed where the request names one
abbrev pub order_needs : Option (List ℕ) → List Need
order_needs None = []
order_needs (Some name) = order_need name ∷ []

-- a program, and then its input, where one is named
abbrev pub execution_needs : ExecutionAsked → List Need
execution_needs execution = program_need execution.file ∷ input_needs execution.input

-- a program, then the script of the adversary, where one is named, and then the program's input
abbrev pub run_needs : RunAsked → List Need
run_needs asked = program_need asked.execution.file
    ∷ (script_needs asked.execution.file.geometry asked.script ++ input_needs asked.execution.input)

-- a program, then its input, where one is named, and then the trace that is judged
abbrev pub judge_needs : JudgeAsked → List Need
judge_needs asked =
    execution_needs asked.execution ++ trace_need asked.execution.file.geometry asked.trace ∷ []

-- two programs, then the order of their turns, and then what an adversary does to the memory of the first one and of the second
-- one, each where one is named
abbrev pub pair_needs : PairAsked → List Need
pair_needs pair = program_need (side_run pair.first).execution.file ∷ program_need (side_run pair.second).execution.file
    ∷ (order_needs pair.order ++ script_needs (one 4) pair.first.script ++ script_needs (one 4) pair.second.script)

-- the files that a request needs: a generated program needs none
abbrev pub asked_needs : Asked → List Need
asked_needs (to_run asked) = run_needs asked
asked_needs (to_run_plain execution) = execution_needs execution
asked_needs (to_assemble file) = program_need file ∷ []
asked_needs (to_disassemble file) = program_need file ∷ []
asked_needs (to_measure file) = program_need file ∷ []
asked_needs (to_verify report) = report_need report ∷ []
asked_needs (to_bench number) = []
asked_needs (to_trace asked) = run_needs asked
asked_needs (to_judge asked) = judge_needs asked
asked_needs (to_pair pair) = pair_needs pair

-- words that are no request need nothing
abbrev pub needs_of : Result Asked WordsFault → List Need
needs_of (Err fault) = []
needs_of (Ok asked) = asked_needs asked

-- the names of these files, in order
abbrev pub names : List Need → List (List ℕ)
names needs = map (λ need. need.name) needs

-- ---- files that are accepted, and others

-- these are the file's bytes, where the files tell them; they are within the limit and have their form
pub record IsAccepted (files : FilesState) (need : Need) (bytes : List ℕ) : Type 0 where
  pub told : HasBytes files.held need.name bytes
  pub within : length bytes ≤ need.limit
  pub formed : need.fault bytes ≡ None

-- each of these files has bytes that are within its limit and have its form
abbrev pub AreAccepted : FilesState → List Need → Type 0
AreAccepted files [] = Unit {0}
AreAccepted files (need ∷ needs) = ((bytes : List ℕ) × IsAccepted files need bytes) × AreAccepted files needs

-- the files tell that the name has these bytes
abbrev pub HasTold : Option (List ℕ → Option (List ℕ)) → List ℕ → List ℕ → Type 0
HasTold None name bytes = ⊥
HasTold (Some held) name bytes = held name ≡ Some bytes

-- the bytes are more than the limit, or don't have their form
abbrev pub IsUnfit : Need → List ℕ → Type 0
IsUnfit need bytes = (need.limit < length bytes) ⊎ (need.fault bytes ≢ None)
