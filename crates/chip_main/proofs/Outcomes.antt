-- What the course of a call says of its status and of what was told.
use Rattle.std.proofs.Common.{◌≡◌, ◌≢◌, ◌<◌, ◌≤◌, ◌⊎◌, inl, inr, List, ℕ, Option, Some, None, Result, Ok, Err, OnOk, IfSome, refl, sym, ap, ◌∙◌, subst, arith}
use Rattle.std.specs.Result.{IsErr, is_err}
use Rattle.sec_base.specs.Count.{Rose}
use Rattle.sec_base.specs.Files.{FilesState}
use Rattle.sec_base.specs.Sink.{SinkState}
use Rattle.sec_base.specs.declared.evidence.Evidence.{Evidence}
use Rattle.sec_base.specs.declared.ending.Ending.{Ending}
use Rattle.sec_base.specs.declared.ending.Ending.TheVariants.{Halted, Trapped, WriteFault, NoMemory as memory_ended}
use Rattle.sec_base.specs.declared.sink.SinkStop.TheVariants.{Failed, NoMemory as no_memory}
use Rattle.sec_base.specs.Sink.{GainsFront}
use Rattle.bus_trace.specs.declared.verdict.Difference.{Difference}
use Rattle.plain_machine.specs.declared.PlainRecord.{PlainRecord}
use Rattle.chip_run.specs.declared.RunRecord.{RunRecord}
use Rattle.chip_device.specs.declared.run_bus.RunBus.{RunBus}
use Rattle.chip_words.specs.Request.{Asked, JudgeAsked, PairAsked, RunAsked, WordsFault, to_assemble, to_bench, to_disassemble, to_judge, to_measure, to_pair, to_run, to_run_plain, to_trace, to_verify}
use Rattle.chip_files.specs.declared.refusal.Refusal.{Refusal}
use Rattle.chip_files.specs.declared.refusal.Refusal.TheVariants.{Usage, WrongValue, Unread, TooLong, Elf, Asm, Script, Report, Trace as trace_refused, Order as order_refused}
use Rattle.chip_files.specs.Needs.{needs_of}
use Rattle.chip_files.specs.Causes.{IsRefused, Stops}
use Rattle.chip_device.specs.Buses.{LiesByScript, lies_of, run_history}
use Rattle.chip_main.specs.declared.course.Course.{Course}
use Rattle.chip_main.specs.declared.course.Course.TheVariants.{Refused, NoMemory, Ran, RanPlain, Written, OtherTag, RanGenerated, RanTraced, Judged, RanPair}
use Rattle.chip_main.specs.declared.Done.{Done}
use Rattle.chip_main.specs.declared.second.Second.{Second}
use Rattle.chip_main.specs.World.{World}
use Rattle.chip_main.specs.Status.{IsResult, IsStatus, Telling, code_of, ending_status, evidence_status, first_undone, joint_status, judged_status, pair_status, refusal_status, run_status, status_with, text_status, told_pair_status, told_status, untold_ending_status, untold_pair_status, untold_told_pair_status, untold_told_status}
use Rattle.chip_main.specs.declared.status.Status.{Status}
use Rattle.chip_main.specs.declared.status.Status.TheVariants as status
use Rattle.chip_main.specs.Answer.{FileRefused, FoundNo, TellsEnding, TellsPair, TellsPlain, TellsResult, TellsRun, TellsTraced}
use Rattle.chip_main.specs.Requests.{Judges, JudgesRequest, OtherTagRequest, Pairs, PairsRequest, Summarizes, SummarizesRequest, Traces, TracesRequest}
use Rattle.chip_words.specs.Texts.{plain_text, record_text, tag_differs_line}
use Rattle.chip_main.specs.Course.{CameAbout, Outcome, TellsCourse, course_bus, course_run, course_second, course_status, status_of}
use Rattle.chip_main.specs.Texts.{pair_text}

-- ---- the whole of a call

pub outcome : (request : Result Asked WordsFault) (old new : World) (done : Done) (course : Course) (told : Telling) → CameAbout course request old.files new.files old.out new.out → TellsCourse course old.note new.note told →
    (IsResult (code_of (course_status course)) → (new.files.faults ≡ old.files.faults) × (new.out.faults ≡ old.out.faults)) → OnOk told (new.note.faults ≡ old.note.faults) →
    done.status ≡ code_of (status_of course told) → done.run ≡ course_run course → done.bus ≡ course_bus course → done.lies ≡ lies_of (course_bus course) → IfSome (course_bus course) LiesByScript →
    done.second ≡ course_second course → Outcome request old new done
outcome request old new done course told came tells taken noted status_is run_is bus_is lies_is by_script second_is =
    record { course = course; told = told; came = came; tells = tells; taken = taken; noted = noted; status = status_is; run = run_is; bus = bus_is; lies = lies_is; by_script = by_script; second = second_is }

-- ---- the statuses

pub statuses : {request : Result Asked WordsFault} {old new : World} {done : Done} → Outcome request old new done → IsStatus done.status
statuses o = (status_of o.course o.told, o.status)

-- ---- which course a status is of

pub untold_high : (ending : Ending) → 9 ≤ code_of (untold_ending_status ending)
untold_high memory_ended = omega arith
untold_high _ = omega arith

untold_told_high : (run : RunRecord) (telling : Telling) → 9 ≤ code_of (untold_told_status run telling)
untold_told_high run (Ok _) = untold_high run.ending
untold_told_high run (Err Failed) = untold_high run.ending
untold_told_high run (Err no_memory) = omega arith

-- what holds of both statuses holds of that of a pair
undone_holds : (P : Status → Type 0) (first second : Status) → P first → P second → P (first_undone first second)
undone_holds P status.Done second here there = there
undone_holds P first second here there = here

pub joint_holds : (P : Status → Type 0) (first second : Status) → P first → P second → P (joint_status first second)
joint_holds P first status.NoMemory here there = there
joint_holds P first second here there = undone_holds P first second here there

-- and it is one of the two
undone_cases : (first second : Status) → (first_undone first second ≡ first) ⊎ (first_undone first second ≡ second)
undone_cases status.Done second = inr refl
undone_cases first second = inl refl

pub joint_cases : (first second : Status) → (joint_status first second ≡ first) ⊎ (joint_status first second ≡ second)
joint_cases first status.NoMemory = inr refl
joint_cases first second = undone_cases first second

untold_pair_high : (first second : RunRecord) → 9 ≤ code_of (untold_pair_status first second)
untold_pair_high first second = joint_holds (λ status. 9 ≤ code_of status) (untold_ending_status first.ending) (untold_ending_status second.ending)
    (untold_high first.ending) (untold_high second.ending)

untold_told_pair_high : (first second : RunRecord) (telling : Telling) → 9 ≤ code_of (untold_told_pair_status first second telling)
untold_told_pair_high first second (Ok _) = untold_pair_high first second
untold_told_pair_high first second (Err Failed) = untold_pair_high first second
untold_told_pair_high first second (Err no_memory) = omega arith

-- a status below 9 is the course's own
course_is : (course : Course) (telling : Telling) (status : ℕ) → status < 9 → code_of (status_of course telling) ≡ status → code_of (course_status course) ≡ status
course_is course (Ok _) status low is = is
course_is course (Err no_memory) status low is = absurd (omega arith)
course_is (Refused refusal) (Err Failed) status low is = is
course_is NoMemory (Err Failed) status low is = is
course_is (Ran run bus) (Err Failed) status low is = absurd (omega (arith, untold_high run.ending))
course_is (RanPlain run) (Err Failed) status low is = absurd (omega (arith, untold_high run.ending))
course_is (Written telling) (Err Failed) status low is = is
course_is OtherTag (Err Failed) status low is = absurd (omega arith)
course_is (RanGenerated run bus written) (Err Failed) status low is = is
course_is (RanTraced run bus written) (Err Failed) status low is = absurd (omega (arith, untold_told_high run written))
course_is (Judged difference written) (Err Failed) status low is = is
course_is (RanPair run bus second written) (Err Failed) status low is = absurd (omega (arith, untold_told_pair_high run second.run written))

pub own_status : {request : Result Asked WordsFault} {old new : World} {done : Done} → (o : Outcome request old new done) → (status : ℕ) → status < 9 → done.status ≡ status →
    code_of (course_status o.course) ≡ status
own_status o status low is = course_is o.course o.told status low (sym o.status ∙ is)

-- a status of what was done, and one of a refusal
abbrev pub IsOfResult : ℕ → Type 0
IsOfResult n = (n < 2) ⊎ (((3 < n) × (n < 8)) ⊎ (8 < n))

abbrev pub IsOfRefusal : ℕ → Type 0
IsOfRefusal n = (1 < n) × (n < 9) × ((n < 4) ⊎ (7 < n))

apart : (n status : ℕ) → IsOfResult n → IsOfRefusal status → n ≢ status
apart n status (inl low) refusing is = let more = refusing.0 in omega arith
apart n status (inr (inr high)) refusing is = let fewer = refusing.1 in omega arith
apart n status (inr (inl mid)) refusing is = elim refusing.2 [
  | inl low ↦ let more = mid.0 in absurd (omega arith)
  | inr high ↦ let fewer = mid.1 in absurd (omega arith)
]

ending_result : (ending : Ending) → IsOfResult (code_of (ending_status ending))
ending_result (Halted exit) = inl (omega arith)
ending_result (Trapped cause pc) = inl (omega arith)
ending_result WriteFault = inr (inr (omega arith))
ending_result memory_ended = inr (inr (omega arith))
ending_result _ = inr (inl (omega arith, omega arith))

evidence_result : (ending : Ending) → IsOfResult (code_of (evidence_status ending))
evidence_result WriteFault = inr (inr (omega arith))
evidence_result memory_ended = inr (inr (omega arith))
evidence_result _ = inr (inl (omega arith, omega arith))

run_result : (evidence : Option Evidence) (ending : Ending) → IsOfResult (code_of (status_with evidence ending))
run_result None ending = ending_result ending
run_result (Some evidence) ending = evidence_result ending

text_result : (telling : Telling) → IsOfResult (code_of (text_status telling))
text_result (Ok _) = inl (omega arith)
text_result (Err Failed) = inr (inr (omega arith))
text_result (Err no_memory) = inr (inr (omega arith))

told_result : (run : RunRecord) (telling : Telling) → IsOfResult (code_of (told_status run telling))
told_result run (Ok _) = run_result run.evidence run.ending
told_result run (Err Failed) = inr (inr (omega (arith, untold_high run.ending)))
told_result run (Err no_memory) = inr (inr (omega arith))

judged_result : (difference : Option Difference) (telling : Telling) → IsOfResult (code_of (judged_status difference telling))
judged_result None (Ok _) = inl (omega arith)
judged_result (Some difference) (Ok _) = inr (inr (omega arith))
judged_result difference (Err Failed) = inr (inr (omega arith))
judged_result difference (Err no_memory) = inr (inr (omega arith))

pair_result : (first second : RunRecord) → IsOfResult (code_of (pair_status first second))
pair_result first second = joint_holds (λ status. IsOfResult (code_of status)) (run_status first) (run_status second)
    (run_result first.evidence first.ending) (run_result second.evidence second.ending)

told_pair_result : (first second : RunRecord) (telling : Telling) → IsOfResult (code_of (told_pair_status first second telling))
told_pair_result first second (Ok _) = pair_result first second
told_pair_result first second (Err Failed) = inr (inr (omega (arith, untold_pair_high first second)))
told_pair_result first second (Err no_memory) = inr (inr (omega arith))

-- there was a refusal with this status
refusal_is : (course : Course) (status : ℕ) → IsOfRefusal status → code_of (course_status course) ≡ status → (refusal : Refusal) × (course ≡ Refused refusal) × (code_of (refusal_status refusal) ≡ status)
refusal_is (Refused refusal) status refusing is = (refusal, refl, is)
refusal_is NoMemory status refusing is = absurd (let fewer = refusing.1 in omega arith)
refusal_is (Ran run bus) status refusing is = absurd (apart (code_of (run_status run)) status (run_result run.evidence run.ending) refusing is)
refusal_is (RanPlain run) status refusing is = absurd (apart (code_of (ending_status run.ending)) status (ending_result run.ending) refusing is)
refusal_is (Written telling) status refusing is = absurd (apart (code_of (text_status telling)) status (text_result telling) refusing is)
refusal_is OtherTag status refusing is = absurd (apart 11 status (inr (inr (omega arith))) refusing is)
refusal_is (RanGenerated run bus telling) status refusing is = absurd (apart (code_of (told_status run telling)) status (told_result run telling) refusing is)
refusal_is (RanTraced run bus telling) status refusing is = absurd (apart (code_of (told_status run telling)) status (told_result run telling) refusing is)
refusal_is (Judged difference telling) status refusing is = absurd (apart (code_of (judged_status difference telling)) status (judged_result difference telling) refusing is)
refusal_is (RanPair run bus second telling) status refusing is =
    absurd (apart (code_of (told_pair_status run second.run telling)) status (told_pair_result run second.run telling) refusing is)

-- so it has its cause
refused_as : {request : Result Asked WordsFault} {old new : World} {done : Done} → Outcome request old new done → (status : ℕ) → IsOfRefusal status → done.status ≡ status →
    (refusal : Refusal) × IsRefused refusal request old.files new.files × (code_of (refusal_status refusal) ≡ status)
refused_as {request} {old} {new} o status refusing is =
    let found = refusal_is o.course status refusing (own_status o status refusing.1 is) in
    let came = subst (λ (course : Course). CameAbout course request old.files new.files old.out new.out) found.1 o.came in
    (found.0, came.0, found.2)

usage_cause : (refusal : Refusal) (request : Result Asked WordsFault) (files files' : FilesState) → IsRefused refusal request files files' → code_of (refusal_status refusal) ≡ 2 → IsErr request
usage_cause (Usage text) request files files' cause is = ap is_err cause.0
usage_cause (WrongValue fault) request files files' cause is = ap is_err cause.0
usage_cause Unread request files files' cause is = absurd (omega arith)
usage_cause TooLong request files files' cause is = absurd (omega arith)
usage_cause (Elf fault) request files files' cause is = absurd (omega arith)
usage_cause (Asm line fault) request files files' cause is = absurd (omega arith)
usage_cause (Script line fault) request files files' cause is = absurd (omega arith)
usage_cause (Report fault) request files files' cause is = absurd (omega arith)
usage_cause (trace_refused fault) request files files' cause is = absurd (omega arith)
usage_cause (order_refused error) request files files' cause is = absurd (omega arith)

pub usage : {request : Result Asked WordsFault} {old new : World} {done : Done} → Outcome request old new done → done.status ≡ 2 → IsErr request
usage {request} {old} {new} o is =
    let found = refused_as o 2 (omega arith, omega arith, inl (omega arith)) is in usage_cause found.0 request old.files new.files found.1 found.2

file_cause : (refusal : Refusal) (request : Result Asked WordsFault) (files files' : FilesState) → IsRefused refusal request files files' → code_of (refusal_status refusal) ≡ 3 → Stops refusal (needs_of request) files files'
file_cause (Usage text) request files files' cause is = absurd (omega arith)
file_cause (WrongValue fault) request files files' cause is = absurd (omega arith)
file_cause Unread request files files' cause is = absurd (omega arith)
file_cause TooLong request files files' cause is = cause
file_cause (Elf fault) request files files' cause is = cause
file_cause (Asm line fault) request files files' cause is = cause
file_cause (Script line fault) request files files' cause is = cause
file_cause (Report fault) request files files' cause is = cause
file_cause (trace_refused fault) request files files' cause is = cause
file_cause (order_refused error) request files files' cause is = cause

refused_is : (refusal : Refusal) → code_of (refusal_status refusal) ≡ 3 → refusal_status refusal ≡ status.Refused
refused_is (Usage text) is = absurd (omega arith)
refused_is (WrongValue fault) is = absurd (omega arith)
refused_is Unread is = absurd (omega arith)
refused_is TooLong is = refl
refused_is (Elf fault) is = refl
refused_is (Asm line fault) is = refl
refused_is (Script line fault) is = refl
refused_is (Report fault) is = refl
refused_is (trace_refused fault) is = refl
refused_is (order_refused error) is = refl

pub refused : {request : Result Asked WordsFault} {old new : World} {done : Done} → Outcome request old new done → done.status ≡ 3 →
    FileRefused request old.files new.files
refused {request} {old} {new} o is =
    let found = refused_as o 3 (omega arith, omega arith, inl (omega arith)) is in (found.0, refused_is found.0 found.2, file_cause found.0 request old.files new.files found.1 found.2)

unread_cause : (refusal : Refusal) (request : Result Asked WordsFault) (files files' : FilesState) → IsRefused refusal request files files' → code_of (refusal_status refusal) ≡ 8 → Stops Unread (needs_of request) files files'
unread_cause (Usage text) request files files' cause is = absurd (omega arith)
unread_cause (WrongValue fault) request files files' cause is = absurd (omega arith)
unread_cause Unread request files files' cause is = cause
unread_cause TooLong request files files' cause is = absurd (omega arith)
unread_cause (Elf fault) request files files' cause is = absurd (omega arith)
unread_cause (Asm line fault) request files files' cause is = absurd (omega arith)
unread_cause (Script line fault) request files files' cause is = absurd (omega arith)
unread_cause (Report fault) request files files' cause is = absurd (omega arith)
unread_cause (trace_refused fault) request files files' cause is = absurd (omega arith)
unread_cause (order_refused error) request files files' cause is = absurd (omega arith)

pub read_fault : {request : Result Asked WordsFault} {old new : World} {done : Done} → Outcome request old new done → done.status ≡ 8 → Stops Unread (needs_of request) old.files new.files
read_fault {request} {old} {new} o is =
    let found = refused_as o 8 (omega arith, omega arith, inr (omega arith)) is in unread_cause found.0 request old.files new.files found.1 found.2

-- ---- what was told

untold_cases : (ending : Ending) → ((code_of (untold_ending_status ending) ≡ 9) × (ending ≢ memory_ended)) ⊎ (code_of (untold_ending_status ending) ≡ 10)
untold_cases memory_ended = inr refl
untold_cases _ = inl (refl, λ e. cc)

untold_ending : (text : List ℕ) (whole : Status) (ending : Ending) (old new : SinkState) → GainsFront old text new → Rose old.faults new.faults → TellsEnding text whole ending (code_of (untold_ending_status ending)) old new
untold_ending text whole ending old new front risen =
    inr (front, elim (untold_cases ending) [ inl untold ↦ inl (untold.0, untold.1, risen) | inr none ↦ inr none ])

pub told_run : (run : RunRecord) (bus : RunBus) (telling : Telling) (note note' : SinkState) → TellsCourse (Ran run bus) note note' telling →
    TellsRun (code_of (status_of (Ran run bus) telling)) run (run_history bus).lies note note'
told_run run bus (Ok _) note note' tells = inl (tells, refl)
told_run run bus (Err Failed) note note' tells =
    untold_ending (record_text run.ending run.retired (run_history bus).lies run.made run.evidence run.report) (run_status run) run.ending note note' tells.0 tells.1
told_run run bus (Err no_memory) note note' tells = inr (tells, inr refl)

-- a run whose trace was written so far, and that could not be told
untold_traced : (text : List ℕ) (whole : Status) (run : RunRecord) (written : Telling) (old new : SinkState) → GainsFront old text new → Rose old.faults new.faults →
    TellsEnding text whole run.ending (code_of (untold_told_status run written)) old new
untold_traced text whole run (Ok _) old new front risen = untold_ending text whole run.ending old new front risen
untold_traced text whole run (Err Failed) old new front risen = untold_ending text whole run.ending old new front risen
untold_traced text whole run (Err no_memory) old new front risen = inr (front, inr refl)

pub told_traced : (run : RunRecord) (bus : RunBus) (written telling : Telling) (note note' : SinkState) → TellsCourse (RanTraced run bus written) note note' telling →
    TellsTraced (code_of (status_of (RanTraced run bus written) telling)) run written (run_history bus).lies note note'
told_traced run bus written (Ok _) note note' tells = inl (tells, refl)
told_traced run bus written (Err Failed) note note' tells =
    untold_traced (record_text run.ending run.retired (run_history bus).lies run.made run.evidence run.report) (told_status run written) run written note note' tells.0 tells.1
told_traced run bus written (Err no_memory) note note' tells = inr (tells, inr refl)

pub untold_pair_cases : (first second : Ending) →
    ((code_of (joint_status (untold_ending_status first) (untold_ending_status second)) ≡ 9) × (first ≢ memory_ended) × (second ≢ memory_ended))
    ⊎ (code_of (joint_status (untold_ending_status first) (untold_ending_status second)) ≡ 10)
untold_pair_cases first memory_ended = inr refl
untold_pair_cases memory_ended second = inr refl
untold_pair_cases first second = inl (refl, λ e. cc, λ e. cc)

-- a front part was told, and why no more
abbrev pub TellsPairFront : List ℕ → RunRecord → RunRecord → ℕ → SinkState → SinkState → Type 0
TellsPairFront text first second number old new = GainsFront old text new
    × (((number ≡ code_of status.WriteFault) × (first.ending ≢ memory_ended) × (second.ending ≢ memory_ended) × Rose old.faults new.faults)
    ⊎ (number ≡ code_of status.NoMemory))

untold_pair : (text : List ℕ) (first second : RunRecord) (old new : SinkState) → GainsFront old text new → Rose old.faults new.faults →
    TellsPairFront text first second (code_of (untold_pair_status first second)) old new
untold_pair text first second old new front risen = (
  front,
  elim (untold_pair_cases first.ending second.ending) [
    | inl untold ↦ inl (untold.0, untold.1, untold.2, risen)
    | inr none ↦ inr none
  ],
)

-- two programs whose records could not be told, and what they printed was written so far
untold_told_pair : (text : List ℕ) (first second : RunRecord) (written : Telling) (old new : SinkState) → GainsFront old text new → Rose old.faults new.faults →
    TellsPairFront text first second (code_of (untold_told_pair_status first second written)) old new
untold_told_pair text first second (Ok _) old new front risen = untold_pair text first second old new front risen
untold_told_pair text first second (Err Failed) old new front risen = untold_pair text first second old new front risen
untold_told_pair text first second (Err no_memory) old new front risen = (front, inr refl)

pub told_pair : (run : RunRecord) (bus : RunBus) (second : Second) (written telling : Telling) (note note' : SinkState) → TellsCourse (RanPair run bus second written) note note' telling →
    TellsPair (code_of (status_of (RanPair run bus second written) telling)) run (run_history bus).lies second.run second.lies written note note'
told_pair run bus second written (Ok _) note note' tells = inl (tells, refl)
told_pair run bus second written (Err Failed) note note' tells =
    inr (untold_told_pair (pair_text run (run_history bus).lies second.run second.lies) run second.run written note note' tells.0 tells.1)
told_pair run bus second written (Err no_memory) note note' tells = inr (tells, inr refl)

pub told_plain : (run : PlainRecord) (telling : Telling) (note note' : SinkState) → TellsCourse (RanPlain run) note note' telling → TellsPlain (code_of (status_of (RanPlain run) telling)) run note note'
told_plain run (Ok _) note note' tells = inl (tells, refl)
told_plain run (Err Failed) note note' tells =
    untold_ending (plain_text run.ending run.retired) (ending_status run.ending) run.ending note note' tells.0 tells.1
told_plain run (Err no_memory) note note' tells = inr (tells, inr refl)

pub told_other_tag : (telling : Telling) (note note' : SinkState) → TellsCourse OtherTag note note' telling → TellsResult tag_differs_line status.TagDiffers (code_of (status_of OtherTag telling)) note note'
told_other_tag (Ok _) note note' tells = inl (tells, refl)
told_other_tag (Err Failed) note note' tells = inr (tells.0, inl (refl, tells.1))
told_other_tag (Err no_memory) note note' tells = inr (tells, inr refl)

-- ---- a tag that differs

refusal_low : (refusal : Refusal) → code_of (refusal_status refusal) < 11
refusal_low (Usage text) = omega arith
refusal_low (WrongValue fault) = omega arith
refusal_low Unread = omega arith
refusal_low TooLong = omega arith
refusal_low (Elf fault) = omega arith
refusal_low (Asm line fault) = omega arith
refusal_low (Script line fault) = omega arith
refusal_low (Report fault) = omega arith
refusal_low (trace_refused fault) = omega arith
refusal_low (order_refused error) = omega arith

ending_low : (ending : Ending) → code_of (ending_status ending) < 11
ending_low memory_ended = omega arith
ending_low _ = omega arith

evidence_low : (ending : Ending) → code_of (evidence_status ending) < 11
evidence_low memory_ended = omega arith
evidence_low _ = omega arith

untold_low : (ending : Ending) → code_of (untold_ending_status ending) < 11
untold_low memory_ended = omega arith
untold_low _ = omega arith

run_low : (evidence : Option Evidence) (ending : Ending) → code_of (status_with evidence ending) < 11
run_low None ending = ending_low ending
run_low (Some evidence) ending = evidence_low ending

text_low : (telling : Telling) → code_of (text_status telling) < 11
text_low (Ok _) = omega arith
text_low (Err Failed) = omega arith
text_low (Err no_memory) = omega arith

told_low : (run : RunRecord) (telling : Telling) → code_of (told_status run telling) < 11
told_low run (Ok _) = run_low run.evidence run.ending
told_low run (Err Failed) = untold_low run.ending
told_low run (Err no_memory) = omega arith

untold_told_low : (run : RunRecord) (telling : Telling) → code_of (untold_told_status run telling) < 11
untold_told_low run (Ok _) = untold_low run.ending
untold_told_low run (Err Failed) = untold_low run.ending
untold_told_low run (Err no_memory) = omega arith

pair_low : (first second : RunRecord) (telling : Telling) → code_of (told_pair_status first second telling) < 11
pair_low first second (Ok _) = joint_holds (λ status. code_of status < 11) (run_status first) (run_status second)
    (run_low first.evidence first.ending) (run_low second.evidence second.ending)
pair_low first second (Err Failed) = joint_holds (λ status. code_of status < 11) (untold_ending_status first.ending) (untold_ending_status second.ending)
    (untold_low first.ending) (untold_low second.ending)
pair_low first second (Err no_memory) = omega arith

untold_told_pair_low : (first second : RunRecord) (telling : Telling) → code_of (untold_told_pair_status first second telling) < 11
untold_told_pair_low first second (Ok _) = pair_low first second (Err Failed)
untold_told_pair_low first second (Err Failed) = pair_low first second (Err Failed)
untold_told_pair_low first second (Err no_memory) = omega arith

-- neither a tag that differs was found nor a trace judged
abbrev pub IsUnjudged : Course → Type 0
IsUnjudged (Refused refusal) = Unit {0}
IsUnjudged NoMemory = Unit {0}
IsUnjudged (Ran run bus) = Unit {0}
IsUnjudged (RanPlain run) = Unit {0}
IsUnjudged (Written telling) = Unit {0}
IsUnjudged OtherTag = ⊥
IsUnjudged (RanGenerated run bus telling) = Unit {0}
IsUnjudged (RanTraced run bus telling) = Unit {0}
IsUnjudged (Judged difference telling) = ⊥
IsUnjudged (RanPair run bus second telling) = Unit {0}

-- then the status is a low one
unjudged_low : (course : Course) (telling : Telling) → IsUnjudged course → code_of (status_of course telling) < 11
unjudged_low course (Err no_memory) unjudged = omega arith
unjudged_low (Refused refusal) (Ok _) unjudged = refusal_low refusal
unjudged_low (Refused refusal) (Err Failed) unjudged = refusal_low refusal
unjudged_low NoMemory (Ok _) unjudged = omega arith
unjudged_low NoMemory (Err Failed) unjudged = omega arith
unjudged_low (Ran run bus) (Ok _) unjudged = run_low run.evidence run.ending
unjudged_low (Ran run bus) (Err Failed) unjudged = untold_low run.ending
unjudged_low (RanPlain run) (Ok _) unjudged = ending_low run.ending
unjudged_low (RanPlain run) (Err Failed) unjudged = untold_low run.ending
unjudged_low (Written written) (Ok _) unjudged = text_low written
unjudged_low (Written written) (Err Failed) unjudged = text_low written
unjudged_low OtherTag (Ok _) unjudged = absurd unjudged
unjudged_low OtherTag (Err Failed) unjudged = absurd unjudged
unjudged_low (RanGenerated run bus written) (Ok _) unjudged = told_low run written
unjudged_low (RanGenerated run bus written) (Err Failed) unjudged = told_low run written
unjudged_low (RanTraced run bus written) (Ok _) unjudged = told_low run written
unjudged_low (RanTraced run bus written) (Err Failed) unjudged = untold_told_low run written
unjudged_low (Judged difference written) (Ok _) unjudged = absurd unjudged
unjudged_low (RanPair run bus second written) (Ok _) unjudged = pair_low run second.run written
unjudged_low (Judged difference written) (Err Failed) unjudged = absurd unjudged
unjudged_low (RanPair run bus second written) (Err Failed) unjudged = untold_told_pair_low run second.run written

unjudged_apart : (course : Course) (telling : Telling) (status : ℕ) → IsUnjudged course → 11 ≤ status → code_of (status_of course telling) ≢ status
unjudged_apart course telling status unjudged high is = let low = unjudged_low course telling unjudged in omega arith

judgement_apart : (difference : Option Difference) (written : Telling) → code_of (judged_status difference written) ≢ 11
judgement_apart None (Ok _) is = omega arith
judgement_apart (Some difference) (Ok _) is = omega arith
judgement_apart difference (Err Failed) is = omega arith
judgement_apart difference (Err no_memory) is = omega arith

-- no other course has this status
other_tag_is : (course : Course) (telling : Telling) → code_of (status_of course telling) ≡ 11 → course ≡ OtherTag
other_tag_is OtherTag telling is = refl
other_tag_is (Refused refusal) telling is = absurd (unjudged_apart (Refused refusal) telling 11 tt (omega arith) is)
other_tag_is NoMemory telling is = absurd (unjudged_apart NoMemory telling 11 tt (omega arith) is)
other_tag_is (Ran run bus) telling is = absurd (unjudged_apart (Ran run bus) telling 11 tt (omega arith) is)
other_tag_is (RanPlain run) telling is = absurd (unjudged_apart (RanPlain run) telling 11 tt (omega arith) is)
other_tag_is (Written written) telling is = absurd (unjudged_apart (Written written) telling 11 tt (omega arith) is)
other_tag_is (RanGenerated run bus written) telling is = absurd (unjudged_apart (RanGenerated run bus written) telling 11 tt (omega arith) is)
other_tag_is (RanTraced run bus written) telling is = absurd (unjudged_apart (RanTraced run bus written) telling 11 tt (omega arith) is)
other_tag_is (Judged difference written) (Ok _) is = absurd (judgement_apart difference written is)
other_tag_is (Judged difference written) (Err Failed) is = absurd (judgement_apart difference written is)
other_tag_is (Judged difference written) (Err no_memory) is = absurd (omega arith)
other_tag_is (RanPair run bus second written) telling is = absurd (unjudged_apart (RanPair run bus second written) telling 11 tt (omega arith) is)

pub tag_differs : {request : Result Asked WordsFault} {old new : World} {done : Done} → Outcome request old new done → done.status ≡ 11 → OtherTagRequest request old.files new.files
tag_differs {request} {old} {new} o is =
    (subst (λ (course : Course). CameAbout course request old.files new.files old.out new.out) (other_tag_is o.course o.told (sym o.status ∙ is)) o.came).0

-- ---- a trace that differs

-- some difference was found, and that was written whole
abbrev pub FindsNo : Course → Type 0
FindsNo course = (difference : Difference) × (course ≡ Judged (Some difference) (Ok tt))

difference_found : (difference : Option Difference) (written : Telling) → code_of (judged_status difference written) ≡ 13 → FindsNo (Judged difference written)
difference_found None (Ok _) is = absurd (omega arith)
difference_found (Some difference) (Ok _) is = (difference, refl)
difference_found difference (Err Failed) is = absurd (omega arith)
difference_found difference (Err no_memory) is = absurd (omega arith)

-- no other course has this status
judged_no_is : (course : Course) (telling : Telling) → code_of (status_of course telling) ≡ 13 → FindsNo course
judged_no_is (Judged difference written) (Ok _) is = difference_found difference written is
judged_no_is (Judged difference written) (Err Failed) is = difference_found difference written is
judged_no_is (Judged difference written) (Err no_memory) is = absurd (omega arith)
judged_no_is (Refused refusal) telling is = absurd (unjudged_apart (Refused refusal) telling 13 tt (omega arith) is)
judged_no_is NoMemory telling is = absurd (unjudged_apart NoMemory telling 13 tt (omega arith) is)
judged_no_is (Ran run bus) telling is = absurd (unjudged_apart (Ran run bus) telling 13 tt (omega arith) is)
judged_no_is (RanPlain run) telling is = absurd (unjudged_apart (RanPlain run) telling 13 tt (omega arith) is)
judged_no_is (Written written) telling is = absurd (unjudged_apart (Written written) telling 13 tt (omega arith) is)
judged_no_is OtherTag (Ok _) is = absurd (omega arith)
judged_no_is OtherTag (Err Failed) is = absurd (omega arith)
judged_no_is OtherTag (Err no_memory) is = absurd (omega arith)
judged_no_is (RanGenerated run bus written) telling is = absurd (unjudged_apart (RanGenerated run bus written) telling 13 tt (omega arith) is)
judged_no_is (RanTraced run bus written) telling is = absurd (unjudged_apart (RanTraced run bus written) telling 13 tt (omega arith) is)
judged_no_is (RanPair run bus second written) telling is = absurd (unjudged_apart (RanPair run bus second written) telling 13 tt (omega arith) is)

pub judged_no : {request : Result Asked WordsFault} {old new : World} {done : Done} → Outcome request old new done → done.status ≡ 13 → FoundNo request old new
judged_no {request} {old} {new} o is =
    let found = judged_no_is o.course o.told (sym o.status ∙ is) in
    (found.0, subst (λ (course : Course). CameAbout course request old.files new.files old.out new.out) found.1 o.came)

-- ---- a generated program

-- its request
pub benched : (request : Result Asked WordsFault) (files files' : FilesState) (out out' : SinkState) (run : RunRecord) (bus : RunBus) (telling : Telling) → SummarizesRequest request files files' out out' run bus telling →
    (number : ℕ) × (request ≡ Ok (to_bench number)) × Summarizes number files files' out out' run bus telling
benched (Err fault) files files' out out' run bus telling came = absurd came
benched (Ok (to_run asked)) files files' out out' run bus telling came = absurd came
benched (Ok (to_run_plain execution)) files files' out out' run bus telling came = absurd came
benched (Ok (to_assemble file)) files files' out out' run bus telling came = absurd came
benched (Ok (to_disassemble file)) files files' out out' run bus telling came = absurd came
benched (Ok (to_measure file)) files files' out out' run bus telling came = absurd came
benched (Ok (to_verify report)) files files' out out' run bus telling came = absurd came
benched (Ok (to_bench number)) files files' out out' run bus telling came = (number, refl, came)
benched (Ok (to_trace asked)) files files' out out' run bus telling came = absurd came
benched (Ok (to_judge judge)) files files' out out' run bus telling came = absurd came
benched (Ok (to_pair pair)) files files' out out' run bus telling came = absurd came

-- a status below 9 is the run's own
pub told_own : (run : RunRecord) (telling : Telling) (status : ℕ) → status < 9 → code_of (told_status run telling) ≡ status → code_of (run_status run) ≡ status
told_own run (Ok _) status low is = is
told_own run (Err Failed) status low is = absurd (omega (arith, untold_high run.ending))
told_own run (Err no_memory) status low is = absurd (omega arith)

-- ---- a trace

-- its request
pub traced : (request : Result Asked WordsFault) (files files' : FilesState) (out out' : SinkState) (run : RunRecord) (bus : RunBus) (telling : Telling) → TracesRequest request files files' out out' run bus telling →
    (asked : RunAsked) × (request ≡ Ok (to_trace asked)) × Traces asked files files' out out' run bus telling
traced (Err fault) files files' out out' run bus telling came = absurd came
traced (Ok (to_run asked)) files files' out out' run bus telling came = absurd came
traced (Ok (to_run_plain execution)) files files' out out' run bus telling came = absurd came
traced (Ok (to_assemble file)) files files' out out' run bus telling came = absurd came
traced (Ok (to_disassemble file)) files files' out out' run bus telling came = absurd came
traced (Ok (to_measure file)) files files' out out' run bus telling came = absurd came
traced (Ok (to_verify report)) files files' out out' run bus telling came = absurd came
traced (Ok (to_bench number)) files files' out out' run bus telling came = absurd came
traced (Ok (to_trace asked)) files files' out out' run bus telling came = (asked, refl, came)
traced (Ok (to_judge judge)) files files' out out' run bus telling came = absurd came
traced (Ok (to_pair pair)) files files' out out' run bus telling came = absurd came

-- the request of a judgement
pub judged : (request : Result Asked WordsFault) (files files' : FilesState) (out out' : SinkState) (difference : Option Difference) (telling : Telling) → JudgesRequest request files files' out out' difference telling →
    (judge : JudgeAsked) × (request ≡ Ok (to_judge judge)) × Judges judge files files' out out' difference telling
judged (Err fault) files files' out out' difference telling came = absurd came
judged (Ok (to_run asked)) files files' out out' difference telling came = absurd came
judged (Ok (to_run_plain execution)) files files' out out' difference telling came = absurd came
judged (Ok (to_assemble file)) files files' out out' difference telling came = absurd came
judged (Ok (to_disassemble file)) files files' out out' difference telling came = absurd came
judged (Ok (to_measure file)) files files' out out' difference telling came = absurd came
judged (Ok (to_verify report)) files files' out out' difference telling came = absurd came
judged (Ok (to_bench number)) files files' out out' difference telling came = absurd came
judged (Ok (to_trace asked)) files files' out out' difference telling came = absurd came
judged (Ok (to_judge judge)) files files' out out' difference telling came = (judge, refl, came)
judged (Ok (to_pair pair)) files files' out out' difference telling came = absurd came

-- ---- two programs

-- their request
pub paired : (request : Result Asked WordsFault) (files files' : FilesState) (out out' : SinkState) (run : RunRecord) (bus : RunBus) (second : Second) (telling : Telling) → PairsRequest request files files' out out' run bus second telling →
    (asked : PairAsked) × (request ≡ Ok (to_pair asked)) × Pairs asked files files' out out' run bus second telling
paired (Err fault) files files' out out' run bus second telling came = absurd came
paired (Ok (to_run asked)) files files' out out' run bus second telling came = absurd came
paired (Ok (to_run_plain execution)) files files' out out' run bus second telling came = absurd came
paired (Ok (to_assemble file)) files files' out out' run bus second telling came = absurd came
paired (Ok (to_disassemble file)) files files' out out' run bus second telling came = absurd came
paired (Ok (to_measure file)) files files' out out' run bus second telling came = absurd came
paired (Ok (to_verify report)) files files' out out' run bus second telling came = absurd came
paired (Ok (to_bench number)) files files' out out' run bus second telling came = absurd came
paired (Ok (to_trace asked)) files files' out out' run bus second telling came = absurd came
paired (Ok (to_judge judge)) files files' out out' run bus second telling came = absurd came
paired (Ok (to_pair asked)) files files' out out' run bus second telling came = (asked, refl, came)

-- a status is of the first one unless that is done, and then of the second one
undone_of : (first second : Status) (status : ℕ) → code_of (first_undone first second) ≡ status →
    ((code_of first ≢ 0) × (code_of first ≡ status)) ⊎ ((code_of first ≡ 0) × (code_of second ≡ status))
undone_of status.Done second status is = inr (refl, is)
undone_of first second status is = inl (λ zero. omega arith, is)

joint_of : (first second : Status) (status : ℕ) → status < 9 → code_of (joint_status first second) ≡ status →
    ((code_of first ≢ 0) × (code_of first ≡ status)) ⊎ ((code_of first ≡ 0) × (code_of second ≡ status))
joint_of first status.NoMemory status low is = absurd (omega arith)
joint_of first second status low is = undone_of first second status is

-- so it is of a status below 9
pub pair_own : (first second : RunRecord) (telling : Telling) (status : ℕ) → status < 9 → code_of (told_pair_status first second telling) ≡ status →
    ((code_of (run_status first) ≢ 0) × (code_of (run_status first) ≡ status)) ⊎ ((code_of (run_status first) ≡ 0) × (code_of (run_status second) ≡ status))
pair_own first second (Ok _) status low is = joint_of (run_status first) (run_status second) status low is
pair_own first second (Err Failed) status low is = absurd (omega (arith, untold_pair_high first second))
pair_own first second (Err no_memory) status low is = absurd (omega arith)
