-- The programs, scripts, inputs, traces and orders that files are, and what was read for a request.
use Rattle.std.specs.Prelude.{◌≡◌, List, [], ◌∷◌, ℕ, Option, Some, None, IsSome, Ok}
use Rattle.adversary_script.specs.declared.script.ScriptLine.{ScriptLine}
use Rattle.bus_trace.specs.declared.trace.Trace.{Trace}
use Rattle.sec_base.specs.Files.{FilesState}
use Rattle.sec_base.specs.Program.{Program}
use Rattle.chip_words.specs.Defaults.{side_run}
use Rattle.chip_words.specs.Request.{ExecutionAsked, FileAsked, JudgeAsked, PairAsked, ReportAsked, RunAsked}
use Rattle.chip_files.specs.Program.{program_of_file, script_in}
use Rattle.chip_files.specs.Traces.{trace_in}
use Rattle.chip_files.specs.Needs.{IsAccepted, execution_needs, input_need, judge_needs, order_need, pair_needs, program_need, report_need, run_needs, script_need, trace_need}
use Rattle.chip_files.specs.Causes.{Asks}
use Rattle.sec_base.specs.Geometry.{GeometryView, one}

-- the files tell their bytes
abbrev pub Tell : FilesState → Type 0
Tell files = IsSome files.held

-- the file can be accepted, and its bytes are this program
pub record IsProgram (files : FilesState) (file : FileAsked) (program : Program) : Type 0 where
  pub bytes : List ℕ
  pub accepted : IsAccepted files (program_need file) bytes
  pub is : program_of_file file bytes ≡ Ok program

-- the file can be accepted, and its bytes are this script
pub record IsScriptFile (files : FilesState) (geometry : GeometryView) (name : List ℕ) (script : List ScriptLine) : Type 0 where
  pub bytes : List ℕ
  pub accepted : IsAccepted files (script_need geometry name) bytes
  pub is : script_in geometry bytes ≡ Ok script

-- the script is the named file's, and there is none where none is named
abbrev pub IsScript : FilesState → GeometryView → Option (List ℕ) → Option (List ScriptLine) → Type 0
IsScript files geometry None None = Unit {0}
IsScript files geometry (Some name) (Some script) = IsScriptFile files geometry name script
IsScript files geometry None (Some script) = ⊥
IsScript files geometry (Some name) None = ⊥

-- the input is the named file's bytes, and nothing where none is named
abbrev pub IsInput : FilesState → Option (List ℕ) → List ℕ → Type 0
IsInput files None input = input ≡ []
IsInput files (Some name) input = IsAccepted files (input_need name) input

-- the file can be accepted, and its bytes are this trace
pub record IsTraceFile (files : FilesState) (geometry : GeometryView) (name : List ℕ) (trace : Trace) : Type 0 where
  pub bytes : List ℕ
  pub accepted : IsAccepted files (trace_need geometry name) bytes
  pub is : trace_in geometry bytes ≡ Ok trace

-- the order is the named file's bytes, and empty where none is named
abbrev pub IsOrderOf : FilesState → Option (List ℕ) → List ℕ → Type 0
IsOrderOf files None order = order ≡ []
IsOrderOf files (Some name) order = IsAccepted files (order_need name) order

-- a program and its input were read and accepted
pub record ReadsExecution (execution : ExecutionAsked) (old new : FilesState) (program : Program) (input : List ℕ) : Type 0 where
  pub program_is : IsProgram old execution.file program
  pub input_is : IsInput old execution.input input
  pub asked : Asks (execution_needs execution) old new

-- a program, the script of the adversary and the program's input were read and accepted, in this order
pub record ReadsRun (run : RunAsked) (old new : FilesState) (program : Program) (script : Option (List ScriptLine)) (input : List ℕ) : Type 0 where
  pub program_is : IsProgram old run.execution.file program
  pub script_is : IsScript old run.execution.file.geometry run.script script
  pub input_is : IsInput old run.execution.input input
  pub asked : Asks (run_needs run) old new

-- a program, its input and the trace that is judged were read and accepted, in this order
pub record ReadsJudged (judge : JudgeAsked) (old new : FilesState) (program : Program) (input : List ℕ) (trace : Trace) : Type 0 where
  pub program_is : IsProgram old judge.execution.file program
  pub input_is : IsInput old judge.execution.input input
  pub trace_is : IsTraceFile old judge.execution.file.geometry judge.trace trace
  pub asked : Asks (judge_needs judge) old new

-- two programs, the order of their turns and the scripts of their adversaries were read and accepted, in this order
pub record ReadsPair (pair : PairAsked) (old new : FilesState) (first second : Program) (order : List ℕ)
    (script1 script2 : Option (List ScriptLine)) : Type 0 where
  pub first_is : IsProgram old (side_run pair.first).execution.file first
  pub second_is : IsProgram old (side_run pair.second).execution.file second
  pub order_is : IsOrderOf old pair.order order
  pub first_script_is : IsScript old (one 4) pair.first.script script1
  pub second_script_is : IsScript old (one 4) pair.second.script script2
  pub asked : Asks (pair_needs pair) old new

-- a program was read and accepted
pub record ReadsProgram (file : FileAsked) (old new : FilesState) (program : Program) : Type 0 where
  pub program_is : IsProgram old file program
  pub asked : Asks (program_need file ∷ []) old new

-- a text that has the form of a report was read
pub record ReadsReport (report : ReportAsked) (old new : FilesState) (text : List ℕ) : Type 0 where
  pub accepted : IsAccepted old (report_need report) text
  pub asked : Asks (report_need report ∷ []) old new
