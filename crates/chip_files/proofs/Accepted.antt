-- The files of what was read are accepted.
use Rattle.std.proofs.Common.{List, ℕ, Option, Some, None}
use Rattle.adversary_script.specs.declared.script.ScriptLine.{ScriptLine}
use Rattle.sec_base.specs.Files.{FilesState}
use Rattle.sec_base.specs.Program.{Program}
use Rattle.chip_words.specs.Request.{ExecutionAsked, FileAsked, RunAsked}
use Rattle.chip_files.specs.Needs.{AreAccepted, IsAccepted, execution_needs, input_needs, program_need, run_needs, script_needs}
use Rattle.chip_files.specs.Taken.{IsInput, IsProgram, IsScript, ReadsExecution, ReadsRun}
use Rattle.chip_files.proofs.Takings.{both_accepted}
use Rattle.sec_base.specs.Geometry.{GeometryView}

pub input_accepted : (file : Option (List ℕ)) (input : List ℕ) (files : FilesState) → IsInput files file input → AreAccepted files (input_needs file)
input_accepted None input files is = tt
input_accepted (Some file) input files is = ((input, is), tt)

pub program_accepted : (file : FileAsked) (program : Program) (files : FilesState) → IsProgram files file program → (bytes : List ℕ) × IsAccepted files (program_need file) bytes
program_accepted file program files is = (is.bytes, is.accepted)

pub execution_accepted : (execution : ExecutionAsked) (files files' : FilesState) (program : Program) (input : List ℕ) → ReadsExecution execution files files' program input → AreAccepted files (execution_needs execution)
execution_accepted execution files files' program input takes =
    (program_accepted execution.file program files takes.program_is, input_accepted execution.input input files takes.input_is)

pub script_accepted : (file : Option (List ℕ)) (geometry : GeometryView) (script : Option (List ScriptLine)) (files : FilesState) → IsScript files geometry file script → AreAccepted files (script_needs geometry file)
script_accepted None geometry None files is = tt
script_accepted None geometry (Some script) files is = absurd is
script_accepted (Some file) geometry None files is = absurd is
script_accepted (Some file) geometry (Some script) files is = ((is.bytes, is.accepted), tt)

-- the files of a run on protected memory
pub all_accepted : (asked : RunAsked) (files : FilesState) (program : Program) (script : Option (List ScriptLine)) (input : List ℕ) → IsProgram files asked.execution.file program → IsScript files asked.execution.file.geometry asked.script script →
    IsInput files asked.execution.input input → AreAccepted files (run_needs asked)
all_accepted asked files program script input program_is script_is input_is = (
  program_accepted asked.execution.file program files program_is,
  both_accepted (script_needs asked.execution.file.geometry asked.script) (input_needs asked.execution.input) files
      (script_accepted asked.script asked.execution.file.geometry script files script_is) (input_accepted asked.execution.input input files input_is),
)

pub run_accepted : (asked : RunAsked) (files files' : FilesState) (program : Program) (script : Option (List ScriptLine)) (input : List ℕ) → ReadsRun asked files files' program script input → AreAccepted files (run_needs asked)
run_accepted asked files files' program script input reads =
    all_accepted asked files program script input reads.program_is reads.script_is reads.input_is
