-- The files of two programs are accepted.
use Rattle.std.proofs.Common.{List, ℕ, Option, Some, None, ◌++◌}
use Rattle.adversary_script.specs.declared.script.ScriptLine.{ScriptLine}
use Rattle.sec_base.specs.Files.{FilesState}
use Rattle.sec_base.specs.Geometry.{one}
use Rattle.sec_base.specs.Program.{Program}
use Rattle.chip_words.specs.Defaults.{side_run}
use Rattle.chip_words.specs.Request.{PairAsked}
use Rattle.chip_files.specs.Needs.{AreAccepted, order_needs, pair_needs, script_needs}
use Rattle.chip_files.specs.Taken.{IsOrderOf, IsProgram, IsScript, ReadsPair}
use Rattle.chip_files.proofs.Accepted.{program_accepted, script_accepted}
use Rattle.chip_files.proofs.Takings.{both_accepted}

pub order_accepted : (name : Option (List ℕ)) (order : List ℕ) (files : FilesState) → IsOrderOf files name order → AreAccepted files (order_needs name)
order_accepted None order files is = tt
order_accepted (Some name) order files is = ((order, is), tt)

pub all_pair_accepted : (pair : PairAsked) (files : FilesState) (first second : Program) (order : List ℕ) (script1 script2 : Option (List ScriptLine)) →
    IsProgram files (side_run pair.first).execution.file first → IsProgram files (side_run pair.second).execution.file second → IsOrderOf files pair.order order →
    IsScript files (one 4) pair.first.script script1 → IsScript files (one 4) pair.second.script script2 → AreAccepted files (pair_needs pair)
all_pair_accepted pair files first second order script1 script2 first_is second_is order_is script1_is script2_is = (
  program_accepted (side_run pair.first).execution.file first files first_is,
  (
    program_accepted (side_run pair.second).execution.file second files second_is,
    both_accepted (order_needs pair.order ++ script_needs (one 4) pair.first.script) (script_needs (one 4) pair.second.script) files
        (both_accepted (order_needs pair.order) (script_needs (one 4) pair.first.script) files
        (order_accepted pair.order order files order_is)
        (script_accepted pair.first.script (one 4) script1 files script1_is))
        (script_accepted pair.second.script (one 4) script2 files script2_is),
  ),
)

pub pair_accepted : (pair : PairAsked) (files files' : FilesState) (first second : Program) (order : List ℕ) (script1 script2 : Option (List ScriptLine)) →
    ReadsPair pair files files' first second order script1 script2 → AreAccepted files (pair_needs pair)
pair_accepted pair files files' first second order script1 script2 reads =
    all_pair_accepted pair files first second order script1 script2 reads.first_is reads.second_is reads.order_is reads.first_script_is reads.second_script_is
