-- The status of the process.
use Rattle.std.specs.Prelude.{◌≡◌, ℕ, List, map, Contains, Option, Some, None, Result, Ok, Err, ◌≢◌}
use Rattle.sec_base.specs.declared.evidence.Evidence.{Evidence}
use Rattle.sec_base.specs.declared.ending.Ending.{Ending}
use Rattle.sec_base.specs.declared.ending.Ending.TheVariants as ending
use Rattle.sec_base.specs.declared.sink.SinkStop.{SinkStop}
use Rattle.sec_base.specs.declared.sink.SinkStop.TheVariants as sink
use Rattle.bus_trace.specs.declared.verdict.Difference.{Difference}
use Rattle.chip_run.specs.declared.RunRecord.{RunRecord}
use Rattle.chip_files.specs.declared.refusal.Refusal.{Refusal}
use Rattle.chip_files.specs.declared.refusal.Refusal.TheVariants as refusal
use Rattle.chip_main.specs.declared.status.Status.{Status}
use Rattle.chip_main.specs.declared.status.Status.TheVariants.{Done, Trapped, Usage, Refused, OutOfSteps, Tampered, Spent, Evidence as evidence, ReadFault, WriteFault, NoMemory, TagDiffers, JudgedNo}

-- its number
abbrev pub code_of : Status → ℕ
code_of Done = 0
code_of Trapped = 1
code_of Usage = 2
code_of Refused = 3
code_of OutOfSteps = 4
code_of Tampered = 5
code_of Spent = 6
code_of evidence = 7
code_of ReadFault = 8
code_of WriteFault = 9
code_of NoMemory = 10
code_of TagDiffers = 11
code_of JudgedNo = 13

-- the number is one of a status
abbrev pub IsStatus : ℕ → Type 0
IsStatus number = (status : Status) × (number ≡ code_of status)

-- the number is one of these statuses'
abbrev pub IsOneOf : List Status → ℕ → Type 0
IsOneOf statuses number = Contains (map code_of statuses) number

-- the number is that of a result, and no stop's
abbrev pub IsResult : ℕ → Type 0
IsResult number = (number ≢ code_of Usage) × (number ≢ code_of Refused) × (number ≢ code_of ReadFault)
    × (number ≢ code_of WriteFault) × (number ≢ code_of NoMemory)

-- the status of an ending of a run without evidence
abbrev pub ending_status : Ending → Status
ending_status (ending.Halted exit) = Done
ending_status (ending.Trapped cause pc) = Trapped
ending_status ending.OutOfSteps = OutOfSteps
ending_status (ending.Tampered place) = Tampered
ending_status (ending.Spent page) = Spent
ending_status ending.WriteFault = WriteFault
ending_status ending.NoMemory = NoMemory

-- evidence goes before all endings but a write fault and one out of memory
abbrev pub evidence_status : Ending → Status
evidence_status ending.WriteFault = WriteFault
evidence_status ending.NoMemory = NoMemory
evidence_status _ = evidence

-- the status of an ending, with evidence or without
abbrev pub status_with : Option Evidence → Ending → Status
status_with None ending = ending_status ending
status_with (Some found) ending = evidence_status ending

-- the status of a run on protected memory whose record was written whole
abbrev pub run_status : RunRecord → Status
run_status run = status_with run.evidence run.ending

-- a run that could not be told is a write fault; being out of memory goes before
abbrev pub untold_ending_status : Ending → Status
untold_ending_status ending.NoMemory = NoMemory
untold_ending_status _ = WriteFault

-- the status of a refusal: of the words, of a read that failed, or of a file
abbrev pub refusal_status : Refusal → Status
refusal_status (refusal.Usage text) = Usage
refusal_status (refusal.WrongValue fault) = Usage
refusal_status refusal.Unread = ReadFault
refusal_status refusal.TooLong = Refused
refusal_status (refusal.Elf fault) = Refused
refusal_status (refusal.Asm line fault) = Refused
refusal_status (refusal.Script line fault) = Refused
refusal_status (refusal.Report fault) = Refused
refusal_status (refusal.Trace fault) = Refused
refusal_status (refusal.Order error) = Refused

-- the answer of a call that writes a text
abbrev pub Telling : Type 0
Telling = Result (Unit {0}) SinkStop

-- of a run that is told by a text, as far as it was written
abbrev pub told_status : RunRecord → Telling → Status
told_status run (Ok _) = run_status run
told_status run (Err sink.Failed) = untold_ending_status run.ending
told_status run (Err sink.NoMemory) = NoMemory

-- of a run whose record could not be told, and of which something else was written so far
abbrev pub untold_told_status : RunRecord → Telling → Status
untold_told_status run (Ok _) = untold_ending_status run.ending
untold_told_status run (Err sink.Failed) = untold_ending_status run.ending
untold_told_status run (Err sink.NoMemory) = NoMemory

-- the first status, unless that is `Done`: then the second
abbrev pub first_undone : Status → Status → Status
first_undone Done second = second
first_undone first second = first

-- of two programs that shared the core, by the status of each: out of memory where either is; else the first one's, unless that
-- is `Done`, and then the second one's
abbrev pub joint_status : Status → Status → Status
joint_status first NoMemory = NoMemory
joint_status first second = first_undone first second

-- the same of their runs, where their records were written whole
abbrev pub pair_status : RunRecord → RunRecord → Status
pair_status first second = joint_status (run_status first) (run_status second)

-- where something of two programs could not be written, that is a write fault; being out of memory goes before
abbrev pub untold_pair_status : RunRecord → RunRecord → Status
untold_pair_status first second = joint_status (untold_ending_status first.ending) (untold_ending_status second.ending)

-- of two programs whose records were written whole, and what they printed so far
abbrev pub told_pair_status : RunRecord → RunRecord → Telling → Status
told_pair_status first second (Ok _) = pair_status first second
told_pair_status first second (Err sink.Failed) = untold_pair_status first second
told_pair_status first second (Err sink.NoMemory) = NoMemory

-- the same, where their records could not be written
abbrev pub untold_told_pair_status : RunRecord → RunRecord → Telling → Status
untold_told_pair_status first second (Ok _) = untold_pair_status first second
untold_told_pair_status first second (Err sink.Failed) = untold_pair_status first second
untold_told_pair_status first second (Err sink.NoMemory) = NoMemory

-- of a command that is only for a text on `out`
abbrev pub text_status : Telling → Status
text_status (Ok _) = Done
text_status (Err sink.Failed) = WriteFault
text_status (Err sink.NoMemory) = NoMemory

-- the status of what a judge found, where that was written
abbrev pub found_status : Option Difference → Status
found_status None = Done
found_status (Some difference) = JudgedNo

-- of a judgement, as far as its line was written
abbrev pub judged_status : Option Difference → Telling → Status
judged_status difference (Ok _) = found_status difference
judged_status difference (Err sink.Failed) = WriteFault
judged_status difference (Err sink.NoMemory) = NoMemory
