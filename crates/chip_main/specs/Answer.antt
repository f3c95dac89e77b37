-- What an answer says of what was done and told.
use Rattle.std.specs.Prelude.{◌≡◌, ◌≢◌, ◌⊎◌, List, [], ◌∷◌, ℕ, Option, Some, None, Result, Ok, Err, IsTrue}
use Rattle.sec_base.specs.Count.{Rose}
use Rattle.sec_base.specs.Files.{FilesState}
use Rattle.sec_base.specs.Sink.{SinkState, Gains, GainsFront, IsSilent}
use Rattle.sec_base.specs.declared.ending.Ending.{Ending}
use Rattle.sec_base.specs.declared.ending.Ending.TheVariants.{Tampered, NoMemory}
use Rattle.sec_base.specs.declared.image.Image.{Image}
use Rattle.sec_base.specs.declared.place.Place.{Place}
use Rattle.bus_adversary.specs.ChangedPlaces.{script_may_change}
use Rattle.bus_trace.specs.declared.verdict.Difference.{Difference}
use Rattle.plain_machine.specs.declared.PlainRecord.{PlainRecord}
use Rattle.chip_run.specs.declared.RunRecord.{RunRecord}
use Rattle.chip_words.specs.Defaults.{side_run}
use Rattle.chip_words.specs.Request.{Asked, ExecutionAsked, FileAsked, JudgeAsked, PairAsked, ReportAsked, RunAsked, WordsFault, to_bench, to_judge, to_pair, to_run, to_run_plain, to_trace, to_verify}
use Rattle.chip_words.specs.Texts.{plain_text, record_text, tag_differs_line}
use Rattle.chip_files.specs.declared.refusal.Refusal.{Refusal}
use Rattle.chip_files.specs.Needs.{needs_of}
use Rattle.chip_files.specs.Causes.{IsRefused, RunsOut, Stops}
use Rattle.chip_device.specs.declared.run_bus.RunBus.{RunBus}
use Rattle.chip_device.specs.Buses.{bus_script}
use Rattle.chip_device.specs.Generated.{generated_run}
use Rattle.chip_main.specs.declared.Done.{Done}
use Rattle.chip_main.specs.declared.second.Second.{Second}
use Rattle.chip_main.specs.World.{World}
use Rattle.chip_main.specs.Endings.{EndedWithoutEvidence, IsHalted}
use Rattle.chip_main.specs.Requests.{ByCommand, FindsOtherTag, Judges, JudgesRequest, Pairs, PlainlyRuns, RunsRequested, Summarizes, Traces, Writes, WritesReport, WritesRequest}
use Rattle.chip_main.specs.Status.{IsOneOf, Telling, code_of, ending_status, judged_status, refusal_status, run_status, text_status, told_pair_status, told_status}
use Rattle.chip_main.specs.declared.status.Status.{Status}
use Rattle.chip_main.specs.declared.status.Status.TheVariants as status
use Rattle.chip_main.specs.Texts.{pair_text, refusal_text}

-- ---- a run and its bus

-- both are there, and this holds of them
abbrev pub AreBothAnd : Option RunRecord → Option RunBus → (RunRecord → RunBus → Type 0) → Type 0
AreBothAnd None bus P = ⊥
AreBothAnd (Some run) None P = ⊥
AreBothAnd (Some run) (Some bus) P = P run bus

-- the same of a call's run and bus
abbrev pub IsRunAnd : Done → (RunRecord → RunBus → Type 0) → Type 0
IsRunAnd done P = AreBothAnd done.run done.bus P

-- both programs of a pair ran, and this holds of the first one's run and bus and of the second one
abbrev pub ArePairAnd : Option RunRecord → Option RunBus → Option Second → (RunRecord → RunBus → Second → Type 0) → Type 0
ArePairAnd run bus None P = ⊥
ArePairAnd run bus (Some second) P = AreBothAnd run bus (λ first first_bus. P first first_bus second)

-- the same of a call's pair
abbrev pub IsPairAnd : Done → (RunRecord → RunBus → Second → Type 0) → Type 0
IsPairAnd done P = ArePairAnd done.run done.bus done.second P

-- it halted, without evidence
abbrev pub Halts : RunRecord → RunBus → Type 0
Halts run bus = EndedWithoutEvidence IsHalted run bus

-- What the status of a pair says: it is of the first one, unless that halted; then of the second one. Each is a run that names no
-- option, but for its key and its script.
abbrev pub IsOfPair : (RunAsked → RunRecord → RunBus → Type 0) → PairAsked → RunRecord → RunBus → Second → Type 0
IsOfPair P asked run bus second =
    (¬ Halts run bus × P (side_run asked.first) run bus) ⊎ (Halts run bus × P (side_run asked.second) second.run second.bus)

-- ---- why each status comes

-- the request's program ran on the plain machine, and ended so
abbrev pub PlainlyEnded : (Ending → Type 0) → ExecutionAsked → World → World → Type 0
PlainlyEnded P execution old new =
    (run : PlainRecord) × PlainlyRuns execution old.files new.files old.out new.out run × P run.ending

-- as the request says, a run on protected memory ended so without evidence, or one on the plain machine ended so; of a pair,
-- the one that its status is of
abbrev pub Ended : (Ending → Type 0) → Result Asked WordsFault → World → World → Done → Type 0
Ended P request old new done = ByCommand request (λ _. IsRunAnd done (EndedWithoutEvidence P))
    (λ execution. PlainlyEnded P execution old new) (λ _ _. ⊥) (λ _. ⊥) (λ _. IsRunAnd done (EndedWithoutEvidence P))
    (λ _. IsRunAnd done (EndedWithoutEvidence P)) (λ _. ⊥)
    (λ asked. IsPairAnd done (IsOfPair (λ _. EndedWithoutEvidence P) asked))

-- a run halted, of a pair both did, or the request's text was written whole, or the request's trace follows, and that was
-- written whole
abbrev pub IsDone : Result Asked WordsFault → World → World → Done → Type 0
IsDone request old new done = Ended IsHalted request old new done
    ⊎ WritesRequest request old.files new.files old.out new.out (Ok tt)
    ⊎ JudgesRequest request old.files new.files old.out new.out None (Ok tt)

-- the request's trace differs first so, and that was written whole
abbrev pub FoundNo : Result Asked WordsFault → World → World → Type 0
FoundNo request old new =
    (difference : Difference) × JudgesRequest request old.files new.files old.out new.out (Some difference) (Ok tt)

-- the request is for a run on protected memory, of a generated program, for a trace or of a pair too, and this holds of what it
-- asks, of that run and of its bus; of a pair, of the run that its status is of
abbrev pub RanAnd : (RunAsked → RunRecord → RunBus → Type 0) → Result Asked WordsFault → Done → Type 0
RanAnd P request done = ByCommand request (λ asked. IsRunAnd done (P asked)) (λ _. ⊥) (λ _ _. ⊥) (λ _. ⊥)
    (λ _. IsRunAnd done (P generated_run)) (λ asked. IsRunAnd done (P asked)) (λ _. ⊥)
    (λ asked. IsPairAnd done (IsOfPair P asked))

-- one of the files was refused, for its length or its form
abbrev pub FileRefused : Result Asked WordsFault → FilesState → FilesState → Type 0
FileRefused request old new =
    (refusal : Refusal) × (refusal_status refusal ≡ status.Refused) × Stops refusal (needs_of request) old new

-- ---- how far it was told

-- the sink gained a text; or a front part of it, where a write failed or there was no memory
abbrev pub GainsText : SinkState → List ℕ → SinkState → ℕ → Type 0
GainsText old text new number =
    Gains old text new ⊎ (GainsFront old text new × (Rose old.faults new.faults ⊎ (number ≡ code_of status.NoMemory)))

-- A run that ended so was told by a text, with the status that it has then; or by a front part of it, where a write
-- failed or there was no memory.
abbrev pub TellsEnding : List ℕ → Status → Ending → ℕ → SinkState → SinkState → Type 0
TellsEnding text whole ending number old new = (Gains old text new × (number ≡ code_of whole))
    ⊎ (GainsFront old text new
    × (((number ≡ code_of status.WriteFault) × (ending ≢ NoMemory) × Rose old.faults new.faults)
    ⊎ (number ≡ code_of status.NoMemory)))

-- A result was told by a text, with its status; or by a front part of it, where a write failed or there was no memory.
abbrev pub TellsResult : List ℕ → Status → ℕ → SinkState → SinkState → Type 0
TellsResult text whole number old new = (Gains old text new × (number ≡ code_of whole))
    ⊎ (GainsFront old text new
    × (((number ≡ code_of status.WriteFault) × Rose old.faults new.faults) ⊎ (number ≡ code_of status.NoMemory)))

-- a run's record was told, with so many lies
abbrev pub TellsRun : ℕ → RunRecord → ℕ → SinkState → SinkState → Type 0
TellsRun number run lies old new = TellsEnding
    (record_text run.ending run.retired lies run.made run.evidence run.report) (run_status run) run.ending number old new

-- the record of a run whose trace was written so far was told, with so many lies
abbrev pub TellsTraced : ℕ → RunRecord → Telling → ℕ → SinkState → SinkState → Type 0
TellsTraced number run telling lies old new = TellsEnding
    (record_text run.ending run.retired lies run.made run.evidence run.report) (told_status run telling) run.ending number
    old new

-- The records of two programs that shared the core were told, with so many lies of each bus, and with the status that they have
-- then, where what they printed was written so far; or a front part of that, where a write failed or there was no memory.
abbrev pub TellsPair : ℕ → RunRecord → ℕ → RunRecord → ℕ → Telling → SinkState → SinkState → Type 0
TellsPair number first lies second second_lies telling old new =
    (Gains old (pair_text first lies second second_lies) new × (number ≡ code_of (told_pair_status first second telling)))
    ⊎ (GainsFront old (pair_text first lies second second_lies) new
    × (((number ≡ code_of status.WriteFault) × (first.ending ≢ NoMemory) × (second.ending ≢ NoMemory) × Rose old.faults new.faults)
    ⊎ (number ≡ code_of status.NoMemory)))

-- a plain run's record was written; a prefix of it where a write failed or out of memory
abbrev pub TellsPlain : ℕ → PlainRecord → SinkState → SinkState → Type 0
TellsPlain number run old new =
    TellsEnding (plain_text run.ending run.retired) (ending_status run.ending) run.ending number old new

-- ---- what each command gives

-- a refusal with its cause, its text and its status, or that of no memory
pub record TellsRefusal (request : Result Asked WordsFault) (old new : World) (number : ℕ) : Type 0 where
  pub refusal : Refusal
  pub cause : IsRefused refusal request old.files new.files
  pub text : GainsText old.note (refusal_text refusal) new.note number
  pub status_is : (number ≡ code_of (refusal_status refusal)) ⊎ (number ≡ code_of status.NoMemory)

-- there was no memory, and nothing was told
pub record LacksMemory (request : Result Asked WordsFault) (old new : World) (number : ℕ) : Type 0 where
  pub runs_out : RunsOut (needs_of request) old.files new.files
  pub silent : IsSilent old.note new.note
  pub status_is : number ≡ code_of status.NoMemory

-- the statuses where nothing was done
abbrev pub undone_statuses : Result Asked WordsFault → List Status
undone_statuses (Err fault) = status.Usage ∷ status.NoMemory ∷ []
undone_statuses (Ok asked) = status.Refused ∷ status.ReadFault ∷ status.NoMemory ∷ []

-- nothing was done: there was a refusal, or no memory; and nothing was printed
pub record Undone (request : Result Asked WordsFault) (old new : World) (done : Done) : Type 0 where
  pub told : TellsRefusal request old new done.status ⊎ LacksMemory request old new done.status
  pub status_is : IsOneOf (undone_statuses request) done.status
  pub no_run : done.run ≡ None
  pub silent : IsSilent old.out new.out

-- without evidence, tampering is of a place that the action of some line of the bus's script may change
abbrev pub TampersByScript : RunRecord → RunBus → Type 0
TampersByScript run bus = (place : Place) → run.evidence ≡ None → run.ending ≡ Tampered place →
    IsTrue (script_may_change (bus_script bus) place)

-- the request's program ran on protected memory, and that was told
pub record RanAndTold (asked : RunAsked) (old new : World) (done : Done) (run : RunRecord) (bus : RunBus) : Type 0 where
  pub runs : RunsRequested asked old.files new.files old.out new.out run bus
  pub by_script : TampersByScript run bus
  pub tells : TellsRun done.status run done.lies old.note new.note

-- the request's program ran on the plain machine, and that was told
pub record PlainlyRan (execution : ExecutionAsked) (old new : World) (done : Done) : Type 0 where
  pub run : PlainRecord
  pub runs : PlainlyRuns execution old.files new.files old.out new.out run
  pub tells : TellsPlain done.status run old.note new.note
  pub no_run : done.run ≡ None

-- a text of the file's program was written as far as the status says, and nothing is told of that
pub record Delivers (file : FileAsked) (text : Image → List ℕ) (old new : World) (done : Done) : Type 0 where
  pub telling : Telling
  pub writes : Writes file text old.files new.files old.out new.out telling
  pub status_is : done.status ≡ code_of (text_status telling)
  pub no_run : done.run ≡ None
  pub silent : IsSilent old.note new.note

-- what the report says was written as far as the status says, and nothing is told of that
pub record DeliversReport (asked : ReportAsked) (old new : World) (done : Done) : Type 0 where
  pub telling : Telling
  pub writes : WritesReport asked old.files new.files old.out new.out telling
  pub status_is : done.status ≡ code_of (text_status telling)
  pub no_run : done.run ≡ None
  pub silent : IsSilent old.note new.note

-- the report has another tag, and that was told; or a front part of it, where a write failed or there was no memory
pub record TellsOtherTag (asked : ReportAsked) (old new : World) (done : Done) : Type 0 where
  pub finds : FindsOtherTag asked old.files new.files
  pub tells : TellsResult tag_differs_line status.TagDiffers done.status old.note new.note
  pub no_run : done.run ≡ None
  pub silent : IsSilent old.out new.out

-- the generated program of the number ran, its summary was written as far as the status says, and nothing is told of that
pub record DeliversSummary (number : ℕ) (old new : World) (done : Done) (run : RunRecord) (bus : RunBus) : Type 0 where
  pub telling : Telling
  pub summarizes : Summarizes number old.files new.files old.out new.out run bus telling
  pub status_is : done.status ≡ code_of (told_status run telling)
  pub silent : IsSilent old.note new.note

-- the request's program ran on protected memory, its trace was written as far as the status says, and its record was told
pub record TracedAndTold (asked : RunAsked) (old new : World) (done : Done) (run : RunRecord) (bus : RunBus) : Type 0 where
  pub telling : Telling
  pub traces : Traces asked old.files new.files old.out new.out run bus telling
  pub by_script : TampersByScript run bus
  pub tells : TellsTraced done.status run telling done.lies old.note new.note

-- the verdict on the request's trace was written as far as the status says, and nothing is told of that
pub record DeliversVerdict (judge : JudgeAsked) (old new : World) (done : Done) : Type 0 where
  pub difference : Option Difference
  pub telling : Telling
  pub judges : Judges judge old.files new.files old.out new.out difference telling
  pub status_is : done.status ≡ code_of (judged_status difference telling)
  pub no_run : done.run ≡ None
  pub silent : IsSilent old.note new.note

-- the request's two programs shared the core, what they printed was written as far as the status says, and their records were told
pub record PairedAndTold (asked : PairAsked) (old new : World) (done : Done) (run : RunRecord) (bus : RunBus) (second : Second)
    : Type 0 where
  pub telling : Telling
  pub pairs : Pairs asked old.files new.files old.out new.out run bus second telling
  pub by_script : TampersByScript run bus
  pub second_by_script : TampersByScript second.run second.bus
  pub tells : TellsPair done.status run done.lies second.run second.lies telling old.note new.note

-- what each command gives, or nothing was done
abbrev pub GivesRun : RunAsked → World → World → Done → Type 0
GivesRun asked old new done =
    IsRunAnd done (RanAndTold asked old new done) ⊎ Undone (Ok (to_run asked)) old new done

-- the program ran on the plain machine and its record was written, or nothing was done
abbrev pub GivesPlainRun : ExecutionAsked → World → World → Done → Type 0
GivesPlainRun execution old new done =
    PlainlyRan execution old new done ⊎ Undone (Ok (to_run_plain execution)) old new done

-- the text that was asked for of the file's program was written, or nothing was done
abbrev pub GivesText : Asked → FileAsked → (Image → List ℕ) → World → World → Done → Type 0
GivesText asked file text old new done = Delivers file text old new done ⊎ Undone (Ok asked) old new done

-- what the report says was written, or that its tag differs, or nothing was done
abbrev pub GivesReport : ReportAsked → World → World → Done → Type 0
GivesReport asked old new done = DeliversReport asked old new done ⊎ TellsOtherTag asked old new done
    ⊎ Undone (Ok (to_verify asked)) old new done

-- the generated program of this number ran and its summary was written, or nothing was done
abbrev pub GivesSummary : ℕ → World → World → Done → Type 0
GivesSummary number old new done =
    IsRunAnd done (DeliversSummary number old new done) ⊎ Undone (Ok (to_bench number)) old new done

-- the program ran on protected memory and its trace was written, where it has one, or nothing was done
abbrev pub GivesTraced : RunAsked → World → World → Done → Type 0
GivesTraced asked old new done =
    IsRunAnd done (TracedAndTold asked old new done) ⊎ Undone (Ok (to_trace asked)) old new done

-- the trace was judged and the verdict was written, or nothing was done
abbrev pub GivesVerdict : JudgeAsked → World → World → Done → Type 0
GivesVerdict judge old new done =
    DeliversVerdict judge old new done ⊎ Undone (Ok (to_judge judge)) old new done

-- the two programs shared the core, or nothing was done
abbrev pub GivesPair : PairAsked → World → World → Done → Type 0
GivesPair asked old new done =
    IsPairAnd done (PairedAndTold asked old new done) ⊎ Undone (Ok (to_pair asked)) old new done
