-- What a call owes, whatever it came to.
use Rattle.std.specs.Prelude.{◌≡◌, ◌⊎◌, ◌∷◌, ◌++◌, [], List, ℕ, Option, None, Result, Ok, Err, IsErr}
use Rattle.sec_base.specs.Count.{Rose}
use Rattle.adversary_script.specs.declared.script.ScriptLine.{ScriptLine}
use Rattle.sec_base.specs.Program.{Program}
use Rattle.bus_trace.specs.declared.trace.Trace.{Trace}
use Rattle.chip_words.specs.Request.{Asked, ExecutionAsked, FileAsked, JudgeAsked, PairAsked, ReportAsked, RunAsked, WordsFault, to_assemble, to_bench, to_disassemble, to_judge, to_measure, to_pair, to_run, to_run_plain, to_trace, to_verify}
use Rattle.workload_gen.specs.Workload.{workload_of}
use Rattle.chip_files.specs.Needs.{Need, HasTold, IsAccepted, IsUnfit, needs_of, report_need}
use Rattle.chip_files.specs.Causes.{AsksNothing, Stops}
use Rattle.chip_files.specs.Taken.{IsTraceFile, Tell}
use Rattle.chip_files.specs.Verdict.{verdict_of}
use Rattle.chip_files.specs.declared.refusal.Refusal.TheVariants.{Unread}
use Rattle.chip_device.specs.Generated.{generated_execution}
use Rattle.chip_main.specs.World.{World}
use Rattle.chip_main.specs.Requests.{OtherTagRequest}
use Rattle.chip_main.specs.Endings.{IsTrapped, IsOutOfSteps, EndedTampered, EndedSpent, EndedWithEvidence}
use Rattle.chip_main.specs.Texts.{elf_file, listing, measurement_line}
use Rattle.chip_main.specs.Status.{IsOneOf, IsResult, IsStatus, code_of}
use Rattle.chip_main.specs.Answer.{Ended, FileRefused, FoundNo, GivesPair, GivesPlainRun, GivesReport, GivesRun, GivesSummary, GivesText, GivesTraced, GivesVerdict, IsDone, RanAnd, Undone}
use Rattle.chip_main.specs.Whole.{Faultless, JudgedWhole, PairWhole, RanWhole, Ready, ReadyPair, TracedWhole, second_lies, verdict_status, whole_statuses}
use Rattle.chip_main.specs.declared.Done.{Done}
use Rattle.chip_main.specs.declared.status.Status.TheVariants as status

-- What each status says. WriteFault and NoMemory come of all ten commands, Refused and ReadFault of the nine that read
-- files.
pub record SaysStatus (request : Result Asked WordsFault) (old new : World) (answer : Done) : Type 0 where
  pub statuses : IsStatus answer.status
  pub done : answer.status ≡ code_of status.Done → IsDone request old new answer
  pub trapped : answer.status ≡ code_of status.Trapped → Ended IsTrapped request old new answer
  pub usage : answer.status ≡ code_of status.Usage → IsErr request
  pub refused : answer.status ≡ code_of status.Refused → FileRefused request old.files new.files
  pub out_of_steps : answer.status ≡ code_of status.OutOfSteps → Ended IsOutOfSteps request old new answer
  pub tampered : answer.status ≡ code_of status.Tampered → RanAnd EndedTampered request answer
  pub spent : answer.status ≡ code_of status.Spent → RanAnd EndedSpent request answer
  pub evidence : answer.status ≡ code_of status.Evidence → RanAnd EndedWithEvidence request answer
  pub tag_differs : answer.status ≡ code_of status.TagDiffers → OtherTagRequest request old.files new.files
  pub judged_no : answer.status ≡ code_of status.JudgedNo → FoundNo request old new
  pub read_fault : answer.status ≡ code_of status.ReadFault → Stops Unread (needs_of request) old.files new.files
  pub write_fault : answer.status ≡ code_of status.WriteFault →
      Rose old.out.faults new.out.faults ⊎ Rose old.note.faults new.note.faults
  -- a result comes only where no count of faults rose
  pub faultless : IsResult answer.status → (new.files.faults ≡ old.files.faults) × (new.out.faults ≡ old.out.faults)
      × (new.note.faults ≡ old.note.faults)

-- What each command gives. A run on protected memory is of the request's program and input, over a bus that follows the
-- request's script, or is honest where there is none. Without evidence it follows the plain machine, and ended as
-- tampering at the first false answer of its bus, if there was one, which is about a place that the script may change;
-- evidence is of the first false answer. A run on the plain machine follows it; or the request's ELF file, listing or
-- measurement is written. What a report says is written where the device of the request's key made it, and else it is
-- told that its tag differs. A generated program runs as a requested one does, over an honest bus, and its summary is
-- written. For a trace a program runs as it does for a run, its trace is written where the run has one, and its record is
-- told; of a trace that is judged the verdict is written. Two programs that share the core each run over a bus of their own, and
-- without evidence each comes to what it comes to alone; what they print is written, and both records are told. Or nothing was
-- done, since there was a refusal or no memory.
-- Words that are no request, or have a value that doesn't have its form, are refused, and nothing is asked of the files.
pub record GivesAsked (request : Result Asked WordsFault) (old new : World) (answer : Done) : Type 0 where
  pub none : (fault : WordsFault) → request ≡ Err fault →
      AsksNothing old.files new.files × Undone (Err fault) old new answer
  pub run : (asked : RunAsked) → request ≡ Ok (to_run asked) → GivesRun asked old new answer
  pub plain : (execution : ExecutionAsked) → request ≡ Ok (to_run_plain execution) →
      GivesPlainRun execution old new answer
  pub asm : (file : FileAsked) → request ≡ Ok (to_assemble file) →
      GivesText (to_assemble file) file elf_file old new answer
  pub dis : (file : FileAsked) → request ≡ Ok (to_disassemble file) →
      GivesText (to_disassemble file) file listing old new answer
  pub measure : (file : FileAsked) → request ≡ Ok (to_measure file) →
      GivesText (to_measure file) file measurement_line old new answer
  pub verify : (asked : ReportAsked) → request ≡ Ok (to_verify asked) → GivesReport asked old new answer
  pub bench : (number : ℕ) → request ≡ Ok (to_bench number) → GivesSummary number old new answer
  pub trace : (asked : RunAsked) → request ≡ Ok (to_trace asked) → GivesTraced asked old new answer
  pub judge : (asked : JudgeAsked) → request ≡ Ok (to_judge asked) → GivesVerdict asked old new answer
  pub pair : (asked : PairAsked) → request ≡ Ok (to_pair asked) → GivesPair asked old new answer

-- What is due by what the files tell.
pub record GivesDue (request : Result Asked WordsFault) (old new : World) (answer : Done) : Type 0 where
  -- where one of them is over its limit or doesn't have its form, the request is refused
  pub unfit : (before after : List Need) (need : Need) (bytes : List ℕ) → needs_of request ≡ before ++ need ∷ after →
      HasTold old.files.held need.name bytes → IsUnfit need bytes →
      IsOneOf (status.Refused ∷ status.ReadFault ∷ status.NoMemory ∷ []) answer.status
  -- where all have their form, and nothing fails, what was asked for is done whole; or there was no memory, or a page
  -- of the run was used up
  pub whole : (asked : Asked) (program : Program) (script : Option (List ScriptLine)) (input : List ℕ) →
      request ≡ Ok asked → Ready asked old.files program script input → Faultless asked old new answer →
      IsOneOf (whole_statuses asked program input) answer.status
  pub whole_run : (asked : RunAsked) (program : Program) (script : Option (List ScriptLine)) (input : List ℕ) →
      request ≡ Ok (to_run asked) → Ready (to_run asked) old.files program script input → Faultless (to_run asked) old new answer →
      IsOneOf (status.Spent ∷ status.NoMemory ∷ []) answer.status ⊎ RanWhole asked.execution program input answer
  -- a report that has its form is one that the device made, or its tag differs
  pub whole_report : (asked : ReportAsked) (text : List ℕ) → request ≡ Ok (to_verify asked) → Tell old.files →
      IsAccepted old.files (report_need asked) text → Faultless (to_verify asked) old new answer →
      IsOneOf (verdict_status (verdict_of asked.device_key text) ∷ status.NoMemory ∷ []) answer.status
  -- a generated program runs as it does on the plain machine, or there was no memory
  pub whole_bench : (number : ℕ) (program : Program) → request ≡ Ok (to_bench number) →
      workload_of number ≡ Ok program → Faultless (to_bench number) old new answer →
      (answer.status ≡ code_of status.NoMemory) ⊎ RanWhole generated_execution program [] answer
  -- for a trace a program runs as it does for a run, and its trace is written whole
  pub whole_trace : (asked : RunAsked) (program : Program) (script : Option (List ScriptLine)) (input : List ℕ) →
      request ≡ Ok (to_trace asked) → Ready (to_trace asked) old.files program script input → Faultless (to_trace asked) old new answer →
      (answer.status ≡ code_of status.NoMemory) ⊎ TracedWhole asked program input old new answer
  -- a trace has the verdict on it, which is written whole
  pub whole_judgement : (asked : JudgeAsked) (program : Program) (input : List ℕ) (trace : Trace) →
      request ≡ Ok (to_judge asked) → Ready (to_judge asked) old.files program None input →
      IsTraceFile old.files asked.execution.file.geometry asked.trace trace → Faultless (to_judge asked) old new answer →
      (answer.status ≡ code_of status.NoMemory) ⊎ JudgedWhole asked program input trace old new answer
  -- two programs that share the core run as they do on the plain machine, or there was no memory
  pub whole_pair : (asked : PairAsked) (first second : Program) → request ≡ Ok (to_pair asked) → ReadyPair asked old.files first second →
      Faultless (to_pair asked) old new answer → second_lies answer.second ≡ 0 →
      (answer.status ≡ code_of status.NoMemory) ⊎ PairWhole asked first second answer
