-- What was asked of the files, and what each request came to.
use Rattle.std.proofs.Common.{◌≡◌, ◌≢◌, ◌⊎◌, inl, inr, List, [], ◌∷◌, ◌++◌, ℕ, length, Option, Some, None, Result, Ok, Err, IfSome, refl, sym, ap, ◌∙◌, subst, arith, append-nil, append_assoc}
use Rattle.sec_base.specs.Files.{FilesState, HasBytes}
use Rattle.sec_base.specs.Sink.{SinkState}
use Rattle.sec_base.specs.declared.image.Image.{Image}
use Rattle.sec_base.specs.declared.sink.SinkStop.TheVariants.{Failed, NoMemory as no_memory}
use Rattle.bus_trace.specs.declared.verdict.Difference.{Difference}
use Rattle.plain_machine.specs.declared.PlainRecord.{PlainRecord}
use Rattle.chip_run.specs.declared.RunRecord.{RunRecord}
use Rattle.chip_words.specs.declared.fault.ValueFault.{ValueFault}
use Rattle.chip_words.specs.Request.{Asked, ExecutionAsked, FileAsked, JudgeAsked, PairAsked, ReportAsked, RunAsked, WordsFault, to_assemble, to_bench, to_disassemble, to_judge, to_measure, to_pair, to_run, to_run_plain, to_trace, to_verify}
use Rattle.chip_files.specs.declared.refusal.Refusal.{Refusal}
use Rattle.chip_files.specs.declared.refusal.Refusal.TheVariants.{Usage, WrongValue, Unread, TooLong, Elf, Asm, Script, Report, Trace as trace_refused, Order as order_refused}
use Rattle.chip_files.specs.Taken.{ReadsReport}
use Rattle.chip_device.specs.declared.run_bus.RunBus.{RunBus}
use Rattle.chip_main.specs.declared.course.Course.{Course}
use Rattle.chip_main.specs.declared.course.Course.TheVariants.{Refused, NoMemory, Ran, RanPlain, Written, OtherTag, RanGenerated, RanTraced, Judged, RanPair}
use Rattle.chip_main.specs.declared.Done.{Done}
use Rattle.chip_main.specs.declared.second.Second.{Second}
use Rattle.chip_main.specs.World.{World}
use Rattle.chip_words.specs.Texts.{tag_differs_line}
use Rattle.chip_files.specs.Needs.{Need, AreAccepted, HasTold, IsAccepted, IsUnfit, asked_needs, names, needs_of, program_need}
use Rattle.chip_files.specs.Causes.{Asks, AsksFront, AsksNothing, IsRefused, RunsOut, Stops}
use Rattle.chip_device.specs.Buses.{LiesByScript, lies_of, run_history}
use Rattle.chip_main.specs.Texts.{elf_file, listing, measurement_line}
use Rattle.chip_main.specs.Requests.{JudgesRequest, OtherTagRequest, PairsRequest, PlainlyRunsRequest, RunsRequest, TracesRequest, Writes, WritesRequest}
use Rattle.chip_main.specs.Status.{IsOneOf, code_of, Telling}
use Rattle.chip_main.specs.declared.status.Status.{Status}
use Rattle.chip_main.specs.declared.status.Status.TheVariants as status
use Rattle.chip_main.specs.Answer.{AreBothAnd, ArePairAnd, Delivers, DeliversReport, DeliversSummary, DeliversVerdict, GivesPair, GivesPlainRun, GivesReport, GivesRun, GivesSummary, GivesText, GivesTraced, GivesVerdict, LacksMemory, PairedAndTold, PlainlyRan, RanAndTold, TellsOtherTag, TellsPair, TellsPlain, TellsRefusal, TellsResult, TracedAndTold, Undone, undone_statuses}
use Rattle.chip_main.specs.Course.{CameAbout, Outcome, TellsCourse, course_bus, course_run, course_second, status_of}
use Rattle.chip_files.proofs.Accepted.{execution_accepted, program_accepted, run_accepted}
use Rattle.chip_files.proofs.Judged.{judged_accepted}
use Rattle.chip_files.proofs.Paired.{pair_accepted}
use Rattle.chip_files.proofs.Takings.{asks_more}
use Rattle.chip_main.proofs.Outcomes.{benched, judged, paired, told_other_tag, told_pair, told_plain, told_run, told_traced, traced}
use Rattle.chip_main.proofs.RunStatuses.{tampers_by_script}

-- ---- where something was done, all files were taken

pub record AllTaken (request : Result Asked WordsFault) (files files' : FilesState) : Type 0 where
  pub asked : Asks (needs_of request) files files'
  pub accepted : AreAccepted files (needs_of request)

all_taken : (asked : Asked) (files files' : FilesState) → Asks (asked_needs asked) files files' → AreAccepted files (asked_needs asked) → AllTaken (Ok asked) files files'
all_taken asked files files' asks accepted = record { asked = asks; accepted = accepted }

ran_taken : (request : Result Asked WordsFault) (files files' : FilesState) (out out' : SinkState) (run : RunRecord) (bus : RunBus) → RunsRequest request files files' out out' run bus → AllTaken request files files'
ran_taken (Err fault) files files' out out' run bus came = absurd came
ran_taken (Ok (to_run asked)) files files' out out' run bus came =
    all_taken (to_run asked) files files' came.reads.asked (run_accepted asked files files' came.program came.script came.input came.reads)
ran_taken (Ok (to_run_plain execution)) files files' out out' run bus came = absurd came
ran_taken (Ok (to_assemble file)) files files' out out' run bus came = absurd came
ran_taken (Ok (to_disassemble file)) files files' out out' run bus came = absurd came
ran_taken (Ok (to_measure file)) files files' out out' run bus came = absurd came
ran_taken (Ok (to_verify report)) files files' out out' run bus came = absurd came
ran_taken (Ok (to_bench number)) files files' out out' run bus came = absurd came
ran_taken (Ok (to_trace asked)) files files' out out' run bus came = absurd came
ran_taken (Ok (to_judge judge)) files files' out out' run bus came = absurd came
ran_taken (Ok (to_pair pair)) files files' out out' run bus came = absurd came

plainly_ran_taken : (request : Result Asked WordsFault) (files files' : FilesState) (out out' : SinkState) (run : PlainRecord) → PlainlyRunsRequest request files files' out out' run → AllTaken request files files'
plainly_ran_taken (Err fault) files files' out out' run came = absurd came
plainly_ran_taken (Ok (to_run asked)) files files' out out' run came = absurd came
plainly_ran_taken (Ok (to_run_plain execution)) files files' out out' run came =
    all_taken (to_run_plain execution) files files' came.2.asked (execution_accepted execution files files' came.0 came.1 came.2)
plainly_ran_taken (Ok (to_assemble file)) files files' out out' run came = absurd came
plainly_ran_taken (Ok (to_disassemble file)) files files' out out' run came = absurd came
plainly_ran_taken (Ok (to_measure file)) files files' out out' run came = absurd came
plainly_ran_taken (Ok (to_verify report)) files files' out out' run came = absurd came
plainly_ran_taken (Ok (to_bench number)) files files' out out' run came = absurd came
plainly_ran_taken (Ok (to_trace asked)) files files' out out' run came = absurd came
plainly_ran_taken (Ok (to_judge judge)) files files' out out' run came = absurd came
plainly_ran_taken (Ok (to_pair pair)) files files' out out' run came = absurd came

-- the one file of a request for a text
text_taken : (asked : Asked) (file : FileAsked) (text : Image → List ℕ) (files files' : FilesState) (out out' : SinkState) (telling : Telling) → asked_needs asked ≡ program_need file ∷ [] → Writes file text files files' out out' telling →
    AllTaken (Ok asked) files files'
text_taken asked file text files files' out out' telling needs writes = all_taken asked files files'
    (subst (λ (n : List Need). Asks n files files') (sym needs) writes.takes.asked)
    (subst (λ (n : List Need). AreAccepted files n) (sym needs) (program_accepted file writes.program files writes.takes.program_is, tt))

-- the one file of the check of a report
report_taken : (asked : ReportAsked) (files files' : FilesState) (text : List ℕ) → ReadsReport asked files files' text → AllTaken (Ok (to_verify asked)) files files'
report_taken asked files files' text reads = all_taken (to_verify asked) files files' reads.asked ((text, reads.accepted), tt)

written_taken : (request : Result Asked WordsFault) (files files' : FilesState) (out out' : SinkState) (telling : Telling) → WritesRequest request files files' out out' telling → AllTaken request files files'
written_taken (Err fault) files files' out out' telling came = absurd came
written_taken (Ok (to_run asked)) files files' out out' telling came = absurd came
written_taken (Ok (to_run_plain execution)) files files' out out' telling came = absurd came
written_taken (Ok (to_assemble file)) files files' out out' telling came = text_taken (to_assemble file) file elf_file files files' out out' telling refl came
written_taken (Ok (to_disassemble file)) files files' out out' telling came = text_taken (to_disassemble file) file listing files files' out out' telling refl came
written_taken (Ok (to_measure file)) files files' out out' telling came = text_taken (to_measure file) file measurement_line files files' out out' telling refl came
written_taken (Ok (to_verify report)) files files' out out' telling came = report_taken report files files' came.text came.reads
written_taken (Ok (to_bench number)) files files' out out' telling came = absurd came
written_taken (Ok (to_trace asked)) files files' out out' telling came = absurd came
written_taken (Ok (to_judge judge)) files files' out out' telling came = absurd came
written_taken (Ok (to_pair pair)) files files' out out' telling came = absurd came

other_tag_taken : (request : Result Asked WordsFault) (files files' : FilesState) → OtherTagRequest request files files' → AllTaken request files files'
other_tag_taken (Err fault) files files' came = absurd came
other_tag_taken (Ok (to_run asked)) files files' came = absurd came
other_tag_taken (Ok (to_run_plain execution)) files files' came = absurd came
other_tag_taken (Ok (to_assemble file)) files files' came = absurd came
other_tag_taken (Ok (to_disassemble file)) files files' came = absurd came
other_tag_taken (Ok (to_measure file)) files files' came = absurd came
other_tag_taken (Ok (to_verify report)) files files' came = report_taken report files files' came.0 came.1
other_tag_taken (Ok (to_bench number)) files files' came = absurd came
other_tag_taken (Ok (to_trace asked)) files files' came = absurd came
other_tag_taken (Ok (to_judge judge)) files files' came = absurd came
other_tag_taken (Ok (to_pair pair)) files files' came = absurd came

traced_taken : (request : Result Asked WordsFault) (files files' : FilesState) (out out' : SinkState) (run : RunRecord) (bus : RunBus) (telling : Telling) → TracesRequest request files files' out out' run bus telling → AllTaken request files files'
traced_taken request files files' out out' run bus telling came =
    let found = traced request files files' out out' run bus telling came in
    let traces = found.2 in
    subst (λ (r : Result Asked WordsFault). AllTaken r files files') (sym found.1)
    (all_taken (to_trace found.0) files files' traces.reads.asked (run_accepted found.0 files files' traces.program traces.script traces.input traces.reads))

judged_taken : (request : Result Asked WordsFault) (files files' : FilesState) (out out' : SinkState) (difference : Option Difference) (telling : Telling) → JudgesRequest request files files' out out' difference telling → AllTaken request files files'
judged_taken request files files' out out' difference telling came =
    let found = judged request files files' out out' difference telling came in
    let judges = found.2 in
    subst (λ (r : Result Asked WordsFault). AllTaken r files files') (sym found.1)
    (all_taken (to_judge found.0) files files' judges.reads.asked (judged_accepted found.0 files files' judges.program judges.input judges.trace judges.reads))

paired_taken : (request : Result Asked WordsFault) (files files' : FilesState) (out out' : SinkState) (run : RunRecord) (bus : RunBus) (second : Second) (telling : Telling) → PairsRequest request files files' out out' run bus second telling → AllTaken request files files'
paired_taken request files files' out out' run bus second telling came =
    let found = paired request files files' out out' run bus second telling came in
    let pairs = found.2 in
    subst (λ (r : Result Asked WordsFault). AllTaken r files files') (sym found.1)
    (all_taken (to_pair found.0) files files' pairs.reads.asked
    (pair_accepted found.0 files files' pairs.program pairs.second_program pairs.order pairs.script pairs.second_script pairs.reads))

-- ---- what was asked for

front_stops : (refusal : Refusal) (needs : List Need) (files files' : FilesState) → Stops refusal needs files files' → AsksFront needs files files'
front_stops refusal needs files files' stops =
    (stops.before ++ stops.here ∷ [], (stops.after, stops.order ∙ sym (append_assoc stops.before (stops.here ∷ []) stops.after)), all_asked)
  where
    all_asked : Asks (stops.before ++ stops.here ∷ []) files files'
    all_asked = asks_more stops.before (stops.here ∷ []) files stops.mid files' stops.reached stops.asked

front_all : (needs : List Need) (files files' : FilesState) → Asks needs files files' → AsksFront needs files files'
front_all needs files files' asked = (needs, ([], sym (append-nil needs)), asked)

front_none : (needs : List Need) (files files' : FilesState) → AsksNothing files files' → AsksFront needs files files'
front_none needs files files' same = ([], (needs, refl), same ∙ sym (append-nil files.asked))

front : (course : Course) (request : Result Asked WordsFault) (files files' : FilesState) (out out' : SinkState) → CameAbout course request files files' out out' → AsksFront (needs_of request) files files'
front (Refused (Usage text)) request files files' out out' came = front_none (needs_of request) files files' came.0.1
front (Refused (WrongValue fault)) request files files' out out' came = front_none (needs_of request) files files' came.0.1
front (Refused Unread) request files files' out out' came = front_stops Unread (needs_of request) files files' came.0
front (Refused TooLong) request files files' out out' came = front_stops TooLong (needs_of request) files files' came.0
front (Refused (Elf fault)) request files files' out out' came = front_stops (Elf fault) (needs_of request) files files' came.0
front (Refused (Asm line fault)) request files files' out out' came = front_stops (Asm line fault) (needs_of request) files files' came.0
front (Refused (Script line fault)) request files files' out out' came = front_stops (Script line fault) (needs_of request) files files' came.0
front (Refused (Report fault)) request files files' out out' came = front_stops (Report fault) (needs_of request) files files' came.0
front (Refused (trace_refused fault)) request files files' out out' came = front_stops (trace_refused fault) (needs_of request) files files' came.0
front (Refused (order_refused error)) request files files' out out' came = front_stops (order_refused error) (needs_of request) files files' came.0
front NoMemory request files files' out out' came =
    (came.0.before ++ came.0.tried, (came.0.after, came.0.order), came.0.asked)
front (Ran run bus) request files files' out out' came = front_all (needs_of request) files files' (ran_taken request files files' out out' run bus came).asked
front (RanPlain run) request files files' out out' came = front_all (needs_of request) files files' (plainly_ran_taken request files files' out out' run came).asked
front (Written telling) request files files' out out' came = front_all (needs_of request) files files' (written_taken request files files' out out' telling came).asked
front OtherTag request files files' out out' came = front_all (needs_of request) files files' (other_tag_taken request files files' came.0).asked
front (RanGenerated run bus telling) request files files' out out' came =
    front_none (needs_of request) files files' (benched request files files' out out' run bus telling came).2.asked
front (RanTraced run bus telling) request files files' out out' came = front_all (needs_of request) files files' (traced_taken request files files' out out' run bus telling came).asked
front (Judged difference telling) request files files' out out' came =
    front_all (needs_of request) files files' (judged_taken request files files' out out' difference telling came).asked
front (RanPair run bus second telling) request files files' out out' came =
    front_all (needs_of request) files files' (paired_taken request files files' out out' run bus second telling came).asked

pub asks_front : {request : Result Asked WordsFault} {old new : World} {done : Done} → Outcome request old new done → AsksFront (needs_of request) old.files new.files
asks_front {request} {old} {new} o = front o.course request old.files new.files old.out new.out o.came

-- ---- requests that need nothing

no_place : (before : List Need) (here : Need) (after : List Need) → [] ≢ before ++ here ∷ after
no_place [] here after e = cc
no_place (need ∷ before) here after e = cc

nothing_stops : (refusal : Refusal) (needs : List Need) (files files' : FilesState) → needs ≡ [] → ¬ Stops refusal needs files files'
nothing_stops refusal needs files files' none stops = no_place stops.before stops.here stops.after (sym none ∙ stops.order)

no_front : (front rest : List Need) → [] ≡ front ++ rest → front ≡ []
no_front [] rest e = refl
no_front (need ∷ front) rest e = absurd cc

asks_none : (needs : List Need) (files files' : FilesState) → needs ≡ [] → AsksFront needs files files' → AsksNothing files files'
asks_none needs files files' none asked =
    asked.2 ∙ ap (λ (n : List Need). files.asked ++ names n) (no_front asked.0 asked.1.0 (sym none ∙ asked.1.1)) ∙ append-nil files.asked

pub unasked : {request : Result Asked WordsFault} {old new : World} {done : Done} → Outcome request old new done → (fault : WordsFault) → request ≡ Err fault → AsksNothing old.files new.files
unasked {request} {old} {new} o fault none = asks_none (needs_of request) old.files new.files (ap needs_of none) (asks_front o)

-- ---- where nothing was done

not_both : (asked : Asked) (why : WordsFault) → ◌≢◌ {A = Result Asked WordsFault} (Ok asked) (Err why)
not_both asked why is = cc

abbrev pub refused_statuses : List Status
refused_statuses = status.Usage ∷ status.NoMemory ∷ []

usage_listed : (text : _) (telling : Telling) → IsOneOf refused_statuses (code_of (status_of (Refused (Usage text)) telling))
usage_listed text (Ok _) = (0, omega arith, refl)
usage_listed text (Err Failed) = (0, omega arith, refl)
usage_listed text (Err no_memory) = (1, omega arith, refl)

value_listed : (fault : ValueFault) (telling : Telling) → IsOneOf refused_statuses (code_of (status_of (Refused (WrongValue fault)) telling))
value_listed fault (Ok _) = (0, omega arith, refl)
value_listed fault (Err Failed) = (0, omega arith, refl)
value_listed fault (Err no_memory) = (1, omega arith, refl)

no_memory_listed : (telling : Telling) → IsOneOf refused_statuses (code_of (status_of NoMemory telling))
no_memory_listed (Ok _) = (1, omega arith, refl)
no_memory_listed (Err Failed) = (1, omega arith, refl)
no_memory_listed (Err no_memory) = (1, omega arith, refl)

abbrev pub unrun_statuses : List Status
unrun_statuses = status.Refused ∷ status.ReadFault ∷ status.NoMemory ∷ []

refusal_unrun : (refusal : Refusal) (telling : Telling) (asked : Asked) (files files' : FilesState) → IsRefused refusal (Ok asked) files files' → IsOneOf unrun_statuses (code_of (status_of (Refused refusal) telling))
refusal_unrun refusal (Err no_memory) asked files files' cause = (2, omega arith, refl)
refusal_unrun (Usage text) telling asked files files' cause = absurd (not_both asked _ cause.0)
refusal_unrun (WrongValue fault) telling asked files files' cause = absurd (not_both asked _ cause.0)
refusal_unrun Unread (Ok _) asked files files' cause = (1, omega arith, refl)
refusal_unrun TooLong (Ok _) asked files files' cause = (0, omega arith, refl)
refusal_unrun (Elf fault) (Ok _) asked files files' cause = (0, omega arith, refl)
refusal_unrun (Asm line fault) (Ok _) asked files files' cause = (0, omega arith, refl)
refusal_unrun (Script line fault) (Ok _) asked files files' cause = (0, omega arith, refl)
refusal_unrun (Report fault) (Ok _) asked files files' cause = (0, omega arith, refl)
refusal_unrun (trace_refused fault) (Ok _) asked files files' cause = (0, omega arith, refl)
refusal_unrun (order_refused error) (Ok _) asked files files' cause = (0, omega arith, refl)
refusal_unrun Unread (Err Failed) asked files files' cause = (1, omega arith, refl)
refusal_unrun TooLong (Err Failed) asked files files' cause = (0, omega arith, refl)
refusal_unrun (Elf fault) (Err Failed) asked files files' cause = (0, omega arith, refl)
refusal_unrun (Asm line fault) (Err Failed) asked files files' cause = (0, omega arith, refl)
refusal_unrun (Script line fault) (Err Failed) asked files files' cause = (0, omega arith, refl)
refusal_unrun (Report fault) (Err Failed) asked files files' cause = (0, omega arith, refl)
refusal_unrun (trace_refused fault) (Err Failed) asked files files' cause = (0, omega arith, refl)
refusal_unrun (order_refused error) (Err Failed) asked files files' cause = (0, omega arith, refl)

no_memory_unrun : (telling : Telling) → IsOneOf unrun_statuses (code_of (status_of NoMemory telling))
no_memory_unrun (Ok _) = (2, omega arith, refl)
no_memory_unrun (Err Failed) = (2, omega arith, refl)
no_memory_unrun (Err no_memory) = (2, omega arith, refl)

refusal_listed : (request : Result Asked WordsFault) (refusal : Refusal) (telling : Telling) (files files' : FilesState) → IsRefused refusal request files files' → IsOneOf (undone_statuses request) (code_of (status_of (Refused refusal) telling))
refusal_listed (Ok asked) refusal telling files files' cause = refusal_unrun refusal telling asked files files' cause
refusal_listed (Err why) (Usage text) telling files files' cause = usage_listed text telling
refusal_listed (Err why) (WrongValue fault) telling files files' cause = value_listed fault telling
refusal_listed (Err why) Unread telling files files' cause = absurd (nothing_stops Unread [] files files' refl cause)
refusal_listed (Err why) TooLong telling files files' cause = absurd (nothing_stops TooLong [] files files' refl cause)
refusal_listed (Err why) (Elf fault) telling files files' cause = absurd (nothing_stops (Elf fault) [] files files' refl cause)
refusal_listed (Err why) (Asm line fault) telling files files' cause = absurd (nothing_stops (Asm line fault) [] files files' refl cause)
refusal_listed (Err why) (Script line fault) telling files files' cause = absurd (nothing_stops (Script line fault) [] files files' refl cause)
refusal_listed (Err why) (Report fault) telling files files' cause = absurd (nothing_stops (Report fault) [] files files' refl cause)
refusal_listed (Err why) (trace_refused fault) telling files files' cause = absurd (nothing_stops (trace_refused fault) [] files files' refl cause)
refusal_listed (Err why) (order_refused error) telling files files' cause = absurd (nothing_stops (order_refused error) [] files files' refl cause)

lack_listed : (request : Result Asked WordsFault) (telling : Telling) → IsOneOf (undone_statuses request) (code_of (status_of NoMemory telling))
lack_listed (Ok asked) telling = no_memory_unrun telling
lack_listed (Err why) telling = no_memory_listed telling

refusal_told : (refusal : Refusal) (telling : Telling) (request : Result Asked WordsFault) (old new : World) (status : ℕ) → IsRefused refusal request old.files new.files → TellsCourse (Refused refusal) old.note new.note telling →
    status ≡ code_of (status_of (Refused refusal) telling) → TellsRefusal request old new status
refusal_told refusal (Ok _) request old new status cause tells is = record { refusal = refusal; cause = cause; text = inl tells; status_is = inl is }
refusal_told refusal (Err Failed) request old new status cause tells is =
    record { refusal = refusal; cause = cause; text = inr (tells.0, inl tells.1); status_is = inl is }
refusal_told refusal (Err no_memory) request old new status cause tells is =
    record { refusal = refusal; cause = cause; text = inr (tells, inr is); status_is = inr is }

lack_told : (telling : Telling) (request : Result Asked WordsFault) (old new : World) (status : ℕ) → RunsOut (needs_of request) old.files new.files → TellsCourse NoMemory old.note new.note telling →
    status ≡ code_of (status_of NoMemory telling) → LacksMemory request old new status
lack_told telling request old new status runs_out tells is =
    record { runs_out = runs_out; silent = tells.0; status_is = is ∙ ap (λ t. code_of (status_of NoMemory t)) tells.1 }

-- what holds of a course in which nothing was done
abbrev pub IfUndone : Course → Type 0 → Type 0
IfUndone (Refused refusal) P = P
IfUndone NoMemory P = P
IfUndone (Ran run bus) P = Unit {0}
IfUndone (RanPlain run) P = Unit {0}
IfUndone (Written telling) P = Unit {0}
IfUndone OtherTag P = Unit {0}
IfUndone (RanGenerated run bus telling) P = Unit {0}
IfUndone (RanTraced run bus telling) P = Unit {0}
IfUndone (Judged difference telling) P = Unit {0}
IfUndone (RanPair run bus second telling) P = Unit {0}

undone_of : (course : Course) (telling : Telling) (request : Result Asked WordsFault) (old new : World) (done : Done) → CameAbout course request old.files new.files old.out new.out → TellsCourse course old.note new.note telling →
    done.status ≡ code_of (status_of course telling) → done.run ≡ course_run course → IfUndone course (Undone request old new done)
undone_of (Refused refusal) telling request old new done came tells status_is run_is = record {
  told = inl (refusal_told refusal telling request old new done.status came.0 tells status_is);
  status_is = subst (λ (n : ℕ). IsOneOf (undone_statuses request) n) (sym status_is) (refusal_listed request refusal telling old.files new.files came.0);
  no_run = run_is;
  silent = came.1;
}
undone_of NoMemory telling request old new done came tells status_is run_is = record {
  told = inr (lack_told telling request old new done.status came.0 tells status_is);
  status_is = subst (λ (n : ℕ). IsOneOf (undone_statuses request) n) (sym status_is) (lack_listed request telling);
  no_run = run_is;
  silent = came.1;
}
undone_of (Ran run bus) telling request old new done came tells status_is run_is = tt
undone_of (RanPlain run) telling request old new done came tells status_is run_is = tt
undone_of (Written written) telling request old new done came tells status_is run_is = tt
undone_of OtherTag telling request old new done came tells status_is run_is = tt
undone_of (RanGenerated run bus written) telling request old new done came tells status_is run_is = tt
undone_of (RanTraced run bus written) telling request old new done came tells status_is run_is = tt
undone_of (Judged difference written) telling request old new done came tells status_is run_is = tt
undone_of (RanPair run bus second written) telling request old new done came tells status_is run_is = tt

-- the same for a request that is known
undone : {request : Result Asked WordsFault} {old new : World} {done : Done} → (o : Outcome request old new done) → (is : Result Asked WordsFault) → request ≡ is → IfUndone o.course (Undone is old new done)
undone {request} {old} {new} {done} o is same = subst (λ (r : Result Asked WordsFault). IfUndone o.course (Undone r old new done)) same
    (undone_of o.course o.told request old new done o.came o.tells o.status o.run)

pub came_as : {request : Result Asked WordsFault} {old new : World} {done : Done} → (o : Outcome request old new done) → (is : Result Asked WordsFault) → request ≡ is → CameAbout o.course is old.files new.files old.out new.out
came_as {request} {old} {new} o is same = subst (λ (r : Result Asked WordsFault). CameAbout o.course r old.files new.files old.out new.out) same o.came

-- ---- what was done

-- something was done only for a request of its command
undone_without : (course : Course) (why : WordsFault) (P : Type 0) (files files' : FilesState) (out out' : SinkState) → CameAbout course (Err why) files files' out out' → IfUndone course P → P
undone_without (Refused refusal) why P files files' out out' came holds = holds
undone_without NoMemory why P files files' out out' came holds = holds
undone_without (Ran run bus) why P files files' out out' came holds = absurd came
undone_without (RanPlain run) why P files files' out out' came holds = absurd came
undone_without (Written telling) why P files files' out out' came holds = absurd came
undone_without OtherTag why P files files' out out' came holds = absurd came.0
undone_without (RanGenerated run bus telling) why P files files' out out' came holds = absurd came
undone_without (RanTraced run bus telling) why P files files' out out' came holds = absurd came
undone_without (Judged difference telling) why P files files' out out' came holds = absurd came
undone_without (RanPair run bus second telling) why P files files' out out' came holds = absurd came

pub none : {request : Result Asked WordsFault} {old new : World} {done : Done} → Outcome request old new done → (why : WordsFault) → request ≡ Err why → AsksNothing old.files new.files × Undone (Err why) old new done
none {request} {old} {new} {done} o why is =
    (unasked o why is, undone_without o.course why (Undone (Err why) old new done) old.files new.files old.out new.out (came_as o (Err why) is) (undone o (Err why) is))

ran : (course : Course) (telling : Telling) (asked : RunAsked) (P : Type 0) (old new : World) (done : Done) → CameAbout course (Ok (to_run asked)) old.files new.files old.out new.out → TellsCourse course old.note new.note telling →
    done.status ≡ code_of (status_of course telling) → done.lies ≡ lies_of (course_bus course) → IfSome (course_bus course) LiesByScript → IfUndone course P →
    AreBothAnd (course_run course) (course_bus course) (RanAndTold asked old new done) ⊎ P
ran (Refused refusal) telling asked P old new done came tells status_is lies_is by_script holds = inr holds
ran NoMemory telling asked P old new done came tells status_is lies_is by_script holds = inr holds
ran (Ran run bus) telling asked P old new done came tells status_is lies_is by_script holds = inl (record {
  runs = came;
  by_script = tampers_by_script bus by_script came.runs;
  tells = rw (status_is, lies_is) (told_run run bus telling old.note new.note tells);
})
ran (RanPlain run) telling asked P old new done came tells status_is lies_is by_script holds = absurd came
ran (Written written) telling asked P old new done came tells status_is lies_is by_script holds = absurd came
ran OtherTag telling asked P old new done came tells status_is lies_is by_script holds = absurd came.0
ran (RanGenerated run bus written) telling asked P old new done came tells status_is lies_is by_script holds = absurd came
ran (RanTraced run bus written) telling asked P old new done came tells status_is lies_is by_script holds = absurd came
ran (Judged difference written) telling asked P old new done came tells status_is lies_is by_script holds = absurd came
ran (RanPair run bus second written) telling asked P old new done came tells status_is lies_is by_script holds = absurd came

-- the run and the bus of the course are the answer's
of_answer : {request : Result Asked WordsFault} {old new : World} {done : Done} → (o : Outcome request old new done) → (P : RunRecord → RunBus → Type 0) (Q : Type 0) → AreBothAnd (course_run o.course) (course_bus o.course) P ⊎ Q →
    AreBothAnd done.run done.bus P ⊎ Q
of_answer {done = done} o P Q at =
    subst (λ (b : Option RunBus). AreBothAnd done.run b P ⊎ Q) (sym o.bus)
    (subst (λ (r : Option RunRecord). AreBothAnd r (course_bus o.course) P ⊎ Q) (sym o.run) at)

pub run : {request : Result Asked WordsFault} {old new : World} {done : Done} → Outcome request old new done → (asked : RunAsked) → request ≡ Ok (to_run asked) → GivesRun asked old new done
run {request} {old} {new} {done} o asked asks =
    of_answer o (RanAndTold asked old new done) (Undone (Ok (to_run asked)) old new done)
    (ran o.course o.told asked (Undone (Ok (to_run asked)) old new done) old new done
    (came_as o (Ok (to_run asked)) asks) o.tells o.status o.lies o.by_script (undone o (Ok (to_run asked)) asks))

plainly_ran : (course : Course) (telling : Telling) (execution : ExecutionAsked) (P : Type 0) (old new : World) (done : Done) → CameAbout course (Ok (to_run_plain execution)) old.files new.files old.out new.out →
    TellsCourse course old.note new.note telling → done.status ≡ code_of (status_of course telling) → done.run ≡ course_run course → IfUndone course P → PlainlyRan execution old new done ⊎ P
plainly_ran (Refused refusal) telling execution P old new done came tells status_is run_is holds = inr holds
plainly_ran NoMemory telling execution P old new done came tells status_is run_is holds = inr holds
plainly_ran (Ran run bus) telling execution P old new done came tells status_is run_is holds = absurd came
plainly_ran (RanPlain run) telling execution P old new done came tells status_is run_is holds = inl (record {
  run = run;
  runs = came;
  tells = subst (λ (n : ℕ). TellsPlain n run old.note new.note) (sym status_is) (told_plain run telling old.note new.note tells);
  no_run = run_is;
})
plainly_ran (Written written) telling execution P old new done came tells status_is run_is holds = absurd came
plainly_ran OtherTag telling execution P old new done came tells status_is run_is holds = absurd came.0
plainly_ran (RanGenerated run bus written) telling execution P old new done came tells status_is run_is holds = absurd came
plainly_ran (RanTraced run bus written) telling execution P old new done came tells status_is run_is holds = absurd came
plainly_ran (Judged difference written) telling execution P old new done came tells status_is run_is holds = absurd came
plainly_ran (RanPair run bus second written) telling execution P old new done came tells status_is run_is holds = absurd came

pub plain : {request : Result Asked WordsFault} {old new : World} {done : Done} → Outcome request old new done → (execution : ExecutionAsked) → request ≡ Ok (to_run_plain execution) → GivesPlainRun execution old new done
plain {request} {old} {new} {done} o execution asks =
    plainly_ran o.course o.told execution (Undone (Ok (to_run_plain execution)) old new done) old new done
    (came_as o (Ok (to_run_plain execution)) asks) o.tells o.status o.run (undone o (Ok (to_run_plain execution)) asks)

delivered : (file : FileAsked) (text : Image → List ℕ) (written telling : Telling) (old new : World) (done : Done) → Writes file text old.files new.files old.out new.out written → TellsCourse (Written written) old.note new.note telling →
    done.status ≡ code_of (status_of (Written written) telling) → done.run ≡ None → Delivers file text old new done
delivered file text written telling old new done writes tells status_is run_is =
    record { telling = written; writes = writes; status_is = status_is ∙ ap (λ t. code_of (status_of (Written written) t)) tells.1; no_run = run_is; silent = tells.0 }

-- what came about where the request is for this text
abbrev pub WritesOr : Course → FileAsked → (Image → List ℕ) → FilesState → FilesState → SinkState → SinkState → Type 0
WritesOr (Refused refusal) file text files files' out out' = Unit {0}
WritesOr NoMemory file text files files' out out' = Unit {0}
WritesOr (Ran run bus) file text files files' out out' = ⊥
WritesOr (RanPlain run) file text files files' out out' = ⊥
WritesOr (Written telling) file text files files' out out' = Writes file text files files' out out' telling
WritesOr OtherTag file text files files' out out' = ⊥
WritesOr (RanGenerated run bus telling) file text files files' out out' = ⊥
WritesOr (RanTraced run bus telling) file text files files' out out' = ⊥
WritesOr (Judged difference telling) file text files files' out out' = ⊥
WritesOr (RanPair run bus second telling) file text files files' out out' = ⊥

delivered_or : (course : Course) (telling : Telling) (file : FileAsked) (text : Image → List ℕ) (P : Type 0) (old new : World) (done : Done) → WritesOr course file text old.files new.files old.out new.out →
    TellsCourse course old.note new.note telling → done.status ≡ code_of (status_of course telling) → done.run ≡ course_run course → IfUndone course P → Delivers file text old new done ⊎ P
delivered_or (Refused refusal) telling file text P old new done writes tells status_is run_is holds = inr holds
delivered_or NoMemory telling file text P old new done writes tells status_is run_is holds = inr holds
delivered_or (Ran run bus) telling file text P old new done writes tells status_is run_is holds = absurd writes
delivered_or (RanPlain run) telling file text P old new done writes tells status_is run_is holds = absurd writes
delivered_or (Written written) telling file text P old new done writes tells status_is run_is holds =
    inl (delivered file text written telling old new done writes tells status_is run_is)
delivered_or OtherTag telling file text P old new done writes tells status_is run_is holds = absurd writes
delivered_or (RanGenerated run bus written) telling file text P old new done writes tells status_is run_is holds = absurd writes
delivered_or (RanTraced run bus written) telling file text P old new done writes tells status_is run_is holds = absurd writes
delivered_or (Judged difference written) telling file text P old new done writes tells status_is run_is holds = absurd writes
delivered_or (RanPair run bus second written) telling file text P old new done writes tells status_is run_is holds = absurd writes

gives_text : {request : Result Asked WordsFault} {old new : World} {done : Done} → (o : Outcome request old new done) → (asked : Asked) (file : FileAsked) (text : Image → List ℕ) → request ≡ Ok asked →
    WritesOr o.course file text old.files new.files old.out new.out → GivesText asked file text old new done
gives_text {request} {old} {new} {done} o asked file text asks writes =
    delivered_or o.course o.told file text (Undone (Ok asked) old new done) old new done writes o.tells o.status o.run (undone o (Ok asked) asks)

-- the request is for one of the texts
pub asm_came : (course : Course) (file : FileAsked) (files files' : FilesState) (out out' : SinkState) → CameAbout course (Ok (to_assemble file)) files files' out out' → WritesOr course file elf_file files files' out out'
asm_came (Refused refusal) file files files' out out' came = tt
asm_came NoMemory file files files' out out' came = tt
asm_came (Ran run bus) file files files' out out' came = came
asm_came (RanPlain run) file files files' out out' came = came
asm_came (Written telling) file files files' out out' came = came
asm_came OtherTag file files files' out out' came = came.0
asm_came (RanGenerated run bus telling) file files files' out out' came = came
asm_came (RanTraced run bus telling) file files files' out out' came = came
asm_came (Judged difference telling) file files files' out out' came = came
asm_came (RanPair run bus second telling) file files files' out out' came = came

pub dis_came : (course : Course) (file : FileAsked) (files files' : FilesState) (out out' : SinkState) → CameAbout course (Ok (to_disassemble file)) files files' out out' → WritesOr course file listing files files' out out'
dis_came (Refused refusal) file files files' out out' came = tt
dis_came NoMemory file files files' out out' came = tt
dis_came (Ran run bus) file files files' out out' came = came
dis_came (RanPlain run) file files files' out out' came = came
dis_came (Written telling) file files files' out out' came = came
dis_came OtherTag file files files' out out' came = came.0
dis_came (RanGenerated run bus telling) file files files' out out' came = came
dis_came (RanTraced run bus telling) file files files' out out' came = came
dis_came (Judged difference telling) file files files' out out' came = came
dis_came (RanPair run bus second telling) file files files' out out' came = came

pub measure_came : (course : Course) (file : FileAsked) (files files' : FilesState) (out out' : SinkState) → CameAbout course (Ok (to_measure file)) files files' out out' → WritesOr course file measurement_line files files' out out'
measure_came (Refused refusal) file files files' out out' came = tt
measure_came NoMemory file files files' out out' came = tt
measure_came (Ran run bus) file files files' out out' came = came
measure_came (RanPlain run) file files files' out out' came = came
measure_came (Written telling) file files files' out out' came = came
measure_came OtherTag file files files' out out' came = came.0
measure_came (RanGenerated run bus telling) file files files' out out' came = came
measure_came (RanTraced run bus telling) file files files' out out' came = came
measure_came (Judged difference telling) file files files' out out' came = came
measure_came (RanPair run bus second telling) file files files' out out' came = came

pub asm : {request : Result Asked WordsFault} {old new : World} {done : Done} → Outcome request old new done → (file : FileAsked) → request ≡ Ok (to_assemble file) → GivesText (to_assemble file) file elf_file old new done
asm {old = old} {new = new} o file asks =
    gives_text o (to_assemble file) file elf_file asks (asm_came o.course file old.files new.files old.out new.out (came_as o (Ok (to_assemble file)) asks))

pub dis : {request : Result Asked WordsFault} {old new : World} {done : Done} → Outcome request old new done → (file : FileAsked) → request ≡ Ok (to_disassemble file) → GivesText (to_disassemble file) file listing old new done
dis {old = old} {new = new} o file asks =
    gives_text o (to_disassemble file) file listing asks (dis_came o.course file old.files new.files old.out new.out (came_as o (Ok (to_disassemble file)) asks))

pub measure : {request : Result Asked WordsFault} {old new : World} {done : Done} → Outcome request old new done → (file : FileAsked) → request ≡ Ok (to_measure file) → GivesText (to_measure file) file measurement_line old new done
measure {old = old} {new = new} o file asks =
    gives_text o (to_measure file) file measurement_line asks (measure_came o.course file old.files new.files old.out new.out (came_as o (Ok (to_measure file)) asks))

-- a report was checked
verified : (course : Course) (telling : Telling) (asked : ReportAsked) (P : Type 0) (old new : World) (done : Done) → CameAbout course (Ok (to_verify asked)) old.files new.files old.out new.out →
    TellsCourse course old.note new.note telling → done.status ≡ code_of (status_of course telling) → done.run ≡ course_run course → IfUndone course P →
    DeliversReport asked old new done ⊎ TellsOtherTag asked old new done ⊎ P
verified (Refused refusal) telling asked P old new done came tells status_is run_is holds = inr (inr holds)
verified NoMemory telling asked P old new done came tells status_is run_is holds = inr (inr holds)
verified (Ran run bus) telling asked P old new done came tells status_is run_is holds = absurd came
verified (RanPlain run) telling asked P old new done came tells status_is run_is holds = absurd came
verified (Written written) telling asked P old new done came tells status_is run_is holds = inl (record {
  telling = written;
  writes = came;
  status_is = status_is ∙ ap (λ t. code_of (status_of (Written written) t)) tells.1;
  no_run = run_is;
  silent = tells.0;
})
verified OtherTag telling asked P old new done came tells status_is run_is holds = inr (inl (record {
  finds = came.0;
  tells = subst (λ (n : ℕ). TellsResult tag_differs_line status.TagDiffers n old.note new.note) (sym status_is) (told_other_tag telling old.note new.note tells);
  no_run = run_is;
  silent = came.1;
}))
verified (RanGenerated run bus written) telling asked P old new done came tells status_is run_is holds = absurd came
verified (RanTraced run bus written) telling asked P old new done came tells status_is run_is holds = absurd came
verified (Judged difference written) telling asked P old new done came tells status_is run_is holds = absurd came
verified (RanPair run bus second written) telling asked P old new done came tells status_is run_is holds = absurd came

pub verify : {request : Result Asked WordsFault} {old new : World} {done : Done} → Outcome request old new done → (asked : ReportAsked) → request ≡ Ok (to_verify asked) → GivesReport asked old new done
verify {request} {old} {new} {done} o asked asks =
    verified o.course o.told asked (Undone (Ok (to_verify asked)) old new done) old new done
    (came_as o (Ok (to_verify asked)) asks) o.tells o.status o.run (undone o (Ok (to_verify asked)) asks)

-- a generated program ran
summarized : (course : Course) (telling : Telling) (number : ℕ) (P : Type 0) (old new : World) (done : Done) → CameAbout course (Ok (to_bench number)) old.files new.files old.out new.out → TellsCourse course old.note new.note telling →
    done.status ≡ code_of (status_of course telling) → IfUndone course P → AreBothAnd (course_run course) (course_bus course) (DeliversSummary number old new done) ⊎ P
summarized (Refused refusal) telling number P old new done came tells status_is holds = inr holds
summarized NoMemory telling number P old new done came tells status_is holds = inr holds
summarized (Ran run bus) telling number P old new done came tells status_is holds = absurd came
summarized (RanPlain run) telling number P old new done came tells status_is holds = absurd came
summarized (Written written) telling number P old new done came tells status_is holds = absurd came
summarized OtherTag telling number P old new done came tells status_is holds = absurd came.0
summarized (RanGenerated run bus written) telling number P old new done came tells status_is holds = inl (record {
  telling = written;
  summarizes = came;
  status_is = status_is ∙ ap (λ t. code_of (status_of (RanGenerated run bus written) t)) tells.1;
  silent = tells.0;
})
summarized (RanTraced run bus written) telling number P old new done came tells status_is holds = absurd came
summarized (Judged difference written) telling number P old new done came tells status_is holds = absurd came
summarized (RanPair run bus second written) telling number P old new done came tells status_is holds = absurd came

pub bench : {request : Result Asked WordsFault} {old new : World} {done : Done} → Outcome request old new done → (number : ℕ) → request ≡ Ok (to_bench number) → GivesSummary number old new done
bench {request} {old} {new} {done} o number asks =
    of_answer o (DeliversSummary number old new done) (Undone (Ok (to_bench number)) old new done)
    (summarized o.course o.told number (Undone (Ok (to_bench number)) old new done) old new done
    (came_as o (Ok (to_bench number)) asks) o.tells o.status (undone o (Ok (to_bench number)) asks))

-- a program ran for its trace
ran_traced : (course : Course) (telling : Telling) (asked : RunAsked) (P : Type 0) (old new : World) (done : Done) → CameAbout course (Ok (to_trace asked)) old.files new.files old.out new.out → TellsCourse course old.note new.note telling →
    done.status ≡ code_of (status_of course telling) → done.lies ≡ lies_of (course_bus course) → IfSome (course_bus course) LiesByScript → IfUndone course P →
    AreBothAnd (course_run course) (course_bus course) (TracedAndTold asked old new done) ⊎ P
ran_traced (Refused refusal) telling asked P old new done came tells status_is lies_is by_script holds = inr holds
ran_traced NoMemory telling asked P old new done came tells status_is lies_is by_script holds = inr holds
ran_traced (Ran run bus) telling asked P old new done came tells status_is lies_is by_script holds = absurd came
ran_traced (RanPlain run) telling asked P old new done came tells status_is lies_is by_script holds = absurd came
ran_traced (Written written) telling asked P old new done came tells status_is lies_is by_script holds = absurd came
ran_traced OtherTag telling asked P old new done came tells status_is lies_is by_script holds = absurd came.0
ran_traced (RanGenerated run bus written) telling asked P old new done came tells status_is lies_is by_script holds = absurd came
ran_traced (RanTraced run bus written) telling asked P old new done came tells status_is lies_is by_script holds = inl (record {
  telling = written;
  traces = came;
  by_script = tampers_by_script bus by_script came.traced.runs;
  tells = rw (status_is, lies_is) (told_traced run bus written telling old.note new.note tells);
})
ran_traced (Judged difference written) telling asked P old new done came tells status_is lies_is by_script holds = absurd came
ran_traced (RanPair run bus second written) telling asked P old new done came tells status_is lies_is by_script holds = absurd came

pub trace : {request : Result Asked WordsFault} {old new : World} {done : Done} → Outcome request old new done → (asked : RunAsked) → request ≡ Ok (to_trace asked) → GivesTraced asked old new done
trace {request} {old} {new} {done} o asked asks =
    of_answer o (TracedAndTold asked old new done) (Undone (Ok (to_trace asked)) old new done)
    (ran_traced o.course o.told asked (Undone (Ok (to_trace asked)) old new done) old new done
    (came_as o (Ok (to_trace asked)) asks) o.tells o.status o.lies o.by_script (undone o (Ok (to_trace asked)) asks))

-- a trace was judged
delivered_verdict : (course : Course) (telling : Telling) (judge : JudgeAsked) (P : Type 0) (old new : World) (done : Done) → CameAbout course (Ok (to_judge judge)) old.files new.files old.out new.out → TellsCourse course old.note new.note telling →
    done.status ≡ code_of (status_of course telling) → done.run ≡ course_run course → IfUndone course P → DeliversVerdict judge old new done ⊎ P
delivered_verdict (Refused refusal) telling judge P old new done came tells status_is run_is holds = inr holds
delivered_verdict NoMemory telling judge P old new done came tells status_is run_is holds = inr holds
delivered_verdict (Ran run bus) telling judge P old new done came tells status_is run_is holds = absurd came
delivered_verdict (RanPlain run) telling judge P old new done came tells status_is run_is holds = absurd came
delivered_verdict (Written written) telling judge P old new done came tells status_is run_is holds = absurd came
delivered_verdict OtherTag telling judge P old new done came tells status_is run_is holds = absurd came.0
delivered_verdict (RanGenerated run bus written) telling judge P old new done came tells status_is run_is holds = absurd came
delivered_verdict (RanTraced run bus written) telling judge P old new done came tells status_is run_is holds = absurd came
delivered_verdict (Judged difference written) telling judge P old new done came tells status_is run_is holds = inl (record {
  difference = difference;
  telling = written;
  judges = came;
  status_is = status_is ∙ ap (λ t. code_of (status_of (Judged difference written) t)) tells.1;
  no_run = run_is;
  silent = tells.0;
})
delivered_verdict (RanPair run bus second written) telling judge P old new done came tells status_is run_is holds = absurd came

pub judge : {request : Result Asked WordsFault} {old new : World} {done : Done} → Outcome request old new done → (asked : JudgeAsked) → request ≡ Ok (to_judge asked) → GivesVerdict asked old new done
judge {request} {old} {new} {done} o asked asks =
    delivered_verdict o.course o.told asked (Undone (Ok (to_judge asked)) old new done) old new done
    (came_as o (Ok (to_judge asked)) asks) o.tells o.status o.run (undone o (Ok (to_judge asked)) asks)

-- two programs shared the core
ran_pair : (course : Course) (telling : Telling) (asked : PairAsked) (P : Type 0) (old new : World) (done : Done) → CameAbout course (Ok (to_pair asked)) old.files new.files old.out new.out → TellsCourse course old.note new.note telling →
    done.status ≡ code_of (status_of course telling) → done.lies ≡ lies_of (course_bus course) → IfSome (course_bus course) LiesByScript → IfUndone course P →
    ArePairAnd (course_run course) (course_bus course) (course_second course) (PairedAndTold asked old new done) ⊎ P
ran_pair (Refused refusal) telling asked P old new done came tells status_is lies_is by_script holds = inr holds
ran_pair NoMemory telling asked P old new done came tells status_is lies_is by_script holds = inr holds
ran_pair (Ran run bus) telling asked P old new done came tells status_is lies_is by_script holds = absurd came
ran_pair (RanPlain run) telling asked P old new done came tells status_is lies_is by_script holds = absurd came
ran_pair (Written written) telling asked P old new done came tells status_is lies_is by_script holds = absurd came
ran_pair OtherTag telling asked P old new done came tells status_is lies_is by_script holds = absurd came.0
ran_pair (RanGenerated run bus written) telling asked P old new done came tells status_is lies_is by_script holds = absurd came
ran_pair (RanTraced run bus written) telling asked P old new done came tells status_is lies_is by_script holds = absurd came
ran_pair (Judged difference written) telling asked P old new done came tells status_is lies_is by_script holds = absurd came
ran_pair (RanPair run bus second written) telling asked P old new done came tells status_is lies_is by_script holds = inl (record {
  telling = written;
  pairs = came;
  by_script = tampers_by_script bus by_script came.runs.side.runs;
  second_by_script = tampers_by_script second.bus came.second_by_script came.second_runs.side.runs;
  tells = rw (status_is, lies_is) (told_pair run bus second written telling old.note new.note tells);
})

-- both runs and the first one's bus are the answer's
of_pair_answer : {request : Result Asked WordsFault} {old new : World} {done : Done} → (o : Outcome request old new done) → (P : RunRecord → RunBus → Second → Type 0) (Q : Type 0) →
    ArePairAnd (course_run o.course) (course_bus o.course) (course_second o.course) P ⊎ Q → ArePairAnd done.run done.bus done.second P ⊎ Q
of_pair_answer {done = done} o P Q at =
    subst (λ (s : Option Second). ArePairAnd done.run done.bus s P ⊎ Q) (sym o.second)
    (subst (λ (b : Option RunBus). ArePairAnd done.run b (course_second o.course) P ⊎ Q) (sym o.bus)
    (subst (λ (r : Option RunRecord). ArePairAnd r (course_bus o.course) (course_second o.course) P ⊎ Q) (sym o.run) at))

pub pair : {request : Result Asked WordsFault} {old new : World} {done : Done} → Outcome request old new done → (asked : PairAsked) → request ≡ Ok (to_pair asked) → GivesPair asked old new done
pair {request} {old} {new} {done} o asked asks =
    of_pair_answer o (PairedAndTold asked old new done) (Undone (Ok (to_pair asked)) old new done)
    (ran_pair o.course o.told asked (Undone (Ok (to_pair asked)) old new done) old new done
    (came_as o (Ok (to_pair asked)) asks) o.tells o.status o.lies o.by_script (undone o (Ok (to_pair asked)) asks))

-- a generated program needs no file, so nothing is refused
pub unrefused_bench : (refusal : Refusal) (number : ℕ) (files files' : FilesState) → ¬ IsRefused refusal (Ok (to_bench number)) files files'
unrefused_bench (Usage text) number files files' cause = not_both (to_bench number) _ cause.0
unrefused_bench (WrongValue fault) number files files' cause = not_both (to_bench number) _ cause.0
unrefused_bench Unread number files files' cause = nothing_stops Unread [] files files' refl cause
unrefused_bench TooLong number files files' cause = nothing_stops TooLong [] files files' refl cause
unrefused_bench (Elf fault) number files files' cause = nothing_stops (Elf fault) [] files files' refl cause
unrefused_bench (Asm line fault) number files files' cause = nothing_stops (Asm line fault) [] files files' refl cause
unrefused_bench (Script line fault) number files files' cause = nothing_stops (Script line fault) [] files files' refl cause
unrefused_bench (Report fault) number files files' cause = nothing_stops (Report fault) [] files files' refl cause
unrefused_bench (trace_refused fault) number files files' cause = nothing_stops (trace_refused fault) [] files files' refl cause
unrefused_bench (order_refused error) number files files' cause = nothing_stops (order_refused error) [] files files' refl cause

-- ---- files that are to be refused

-- a name has one content
pub same_bytes : (held : Option (List ℕ → Option (List ℕ))) (name bytes other : List ℕ) → HasTold held name bytes → HasBytes held name other → other ≡ bytes
same_bytes None name bytes other told has = absurd told
same_bytes (Some held) name bytes other told has = let e : Some other ≡ Some bytes = sym has ∙ told in cc

pub accepted_at : (before : List Need) (need : Need) (after : List Need) (files : FilesState) → AreAccepted files (before ++ need ∷ after) → (bytes : List ℕ) × IsAccepted files need bytes
accepted_at [] need after files accepted = accepted.0
accepted_at (first ∷ before) need after files accepted = accepted_at before need after files accepted.1

not_unfit : (need : Need) (bytes other : List ℕ) (files : FilesState) → HasTold files.held need.name bytes → IsAccepted files need other → ¬ IsUnfit need bytes
not_unfit need bytes other files content accepted (inl long) =
    let same = same_bytes files.held need.name bytes other content accepted.told in
    let short = accepted.within in omega (arith, ap length same)
not_unfit need bytes other files content accepted (inr fault) =
    fault (ap need.fault (sym (same_bytes files.held need.name bytes other content accepted.told)) ∙ accepted.formed)

-- so such a file is not among those that were all taken
untaken : (before : List Need) (need : Need) (after : List Need) (bytes : List ℕ) (request : Result Asked WordsFault) (files files' : FilesState) → needs_of request ≡ before ++ need ∷ after → HasTold files.held need.name bytes →
    IsUnfit need bytes → ¬ AllTaken request files files'
untaken before need after bytes request files files' order content unfit taken =
    let at = accepted_at before need after files (subst (λ (needs : List Need). AreAccepted files needs) order taken.accepted) in
    not_unfit need bytes at.0 files content at.1 unfit

refusal_unfit : (refusal : Refusal) (telling : Telling) (before : List Need) (need : Need) (after : List Need) (request : Result Asked WordsFault) (files files' : FilesState) → needs_of request ≡ before ++ need ∷ after → IsRefused refusal request files files' →
    IsOneOf unrun_statuses (code_of (status_of (Refused refusal) telling))
refusal_unfit refusal (Err no_memory) before need after request files files' order cause = (2, omega arith, refl)
refusal_unfit (Usage text) (Ok _) before need after request files files' order cause = absurd (no_place before need after (sym (ap needs_of cause.0) ∙ order))
refusal_unfit (WrongValue fault) (Ok _) before need after request files files' order cause = absurd (no_place before need after (sym (ap needs_of cause.0) ∙ order))
refusal_unfit Unread (Ok _) before need after request files files' order cause = (1, omega arith, refl)
refusal_unfit TooLong (Ok _) before need after request files files' order cause = (0, omega arith, refl)
refusal_unfit (Elf fault) (Ok _) before need after request files files' order cause = (0, omega arith, refl)
refusal_unfit (Asm line fault) (Ok _) before need after request files files' order cause = (0, omega arith, refl)
refusal_unfit (Script line fault) (Ok _) before need after request files files' order cause = (0, omega arith, refl)
refusal_unfit (Report fault) (Ok _) before need after request files files' order cause = (0, omega arith, refl)
refusal_unfit (trace_refused fault) (Ok _) before need after request files files' order cause = (0, omega arith, refl)
refusal_unfit (order_refused error) (Ok _) before need after request files files' order cause = (0, omega arith, refl)
refusal_unfit (Usage text) (Err Failed) before need after request files files' order cause = absurd (no_place before need after (sym (ap needs_of cause.0) ∙ order))
refusal_unfit (WrongValue fault) (Err Failed) before need after request files files' order cause = absurd (no_place before need after (sym (ap needs_of cause.0) ∙ order))
refusal_unfit Unread (Err Failed) before need after request files files' order cause = (1, omega arith, refl)
refusal_unfit TooLong (Err Failed) before need after request files files' order cause = (0, omega arith, refl)
refusal_unfit (Elf fault) (Err Failed) before need after request files files' order cause = (0, omega arith, refl)
refusal_unfit (Asm line fault) (Err Failed) before need after request files files' order cause = (0, omega arith, refl)
refusal_unfit (Script line fault) (Err Failed) before need after request files files' order cause = (0, omega arith, refl)
refusal_unfit (Report fault) (Err Failed) before need after request files files' order cause = (0, omega arith, refl)
refusal_unfit (trace_refused fault) (Err Failed) before need after request files files' order cause = (0, omega arith, refl)
refusal_unfit (order_refused error) (Err Failed) before need after request files files' order cause = (0, omega arith, refl)

no_memory_unfit : (telling : Telling) → IsOneOf unrun_statuses (code_of (status_of NoMemory telling))
no_memory_unfit (Ok _) = (2, omega arith, refl)
no_memory_unfit (Err Failed) = (2, omega arith, refl)
no_memory_unfit (Err no_memory) = (2, omega arith, refl)

unfit_listed : (course : Course) (telling : Telling) (before : List Need) (need : Need) (after : List Need) (bytes : List ℕ) (request : Result Asked WordsFault) (files files' : FilesState) (out out' : SinkState) → needs_of request ≡ before ++ need ∷ after →
    HasTold files.held need.name bytes → IsUnfit need bytes → CameAbout course request files files' out out' → IsOneOf unrun_statuses (code_of (status_of course telling))
unfit_listed (Refused refusal) telling before need after bytes request files files' out out' order content unfit came = refusal_unfit refusal telling before need after request files files' order came.0
unfit_listed NoMemory telling before need after bytes request files files' out out' order content unfit came = no_memory_unfit telling
unfit_listed (Ran run bus) telling before need after bytes request files files' out out' order content unfit came =
    absurd (untaken before need after bytes request files files' order content unfit (ran_taken request files files' out out' run bus came))
unfit_listed (RanPlain run) telling before need after bytes request files files' out out' order content unfit came =
    absurd (untaken before need after bytes request files files' order content unfit (plainly_ran_taken request files files' out out' run came))
unfit_listed (Written written) telling before need after bytes request files files' out out' order content unfit came =
    absurd (untaken before need after bytes request files files' order content unfit (written_taken request files files' out out' written came))
unfit_listed OtherTag telling before need after bytes request files files' out out' order content unfit came =
    absurd (untaken before need after bytes request files files' order content unfit (other_tag_taken request files files' came.0))
unfit_listed (RanGenerated run bus written) telling before need after bytes request files files' out out' order content unfit came =
    absurd (no_place before need after (sym (ap needs_of (benched request files files' out out' run bus written came).1) ∙ order))
unfit_listed (RanTraced run bus written) telling before need after bytes request files files' out out' order content unfit came =
    absurd (untaken before need after bytes request files files' order content unfit (traced_taken request files files' out out' run bus written came))
unfit_listed (Judged difference written) telling before need after bytes request files files' out out' order content unfit came =
    absurd (untaken before need after bytes request files files' order content unfit (judged_taken request files files' out out' difference written came))
unfit_listed (RanPair run bus second written) telling before need after bytes request files files' out out' order content unfit came =
    absurd (untaken before need after bytes request files files' order content unfit (paired_taken request files files' out out' run bus second written came))

pub unfit : {request : Result Asked WordsFault} {old new : World} {done : Done} → Outcome request old new done → (before after : List Need) (need : Need) (bytes : List ℕ) →
    needs_of request ≡ before ++ need ∷ after → HasTold old.files.held need.name bytes → IsUnfit need bytes → IsOneOf unrun_statuses done.status
unfit {request} {old} {new} o before after need bytes order content is =
    subst (λ (n : ℕ). IsOneOf unrun_statuses n) (sym o.status) (unfit_listed o.course o.told before need after bytes request old.files new.files old.out new.out order content is o.came)
