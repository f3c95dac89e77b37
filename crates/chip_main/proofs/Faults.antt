-- A result comes only where no count of faults rose.
use Rattle.std.proofs.Common.{◌≡◌, ◌≢◌, inl, inr, ℕ, List, Option, Some, None, Result, Ok, Err, OnOk, refl, subst}
use Rattle.sec_base.specs.Sink.{SinkState}
use Rattle.sec_base.specs.declared.ending.Ending.{Ending}
use Rattle.sec_base.specs.declared.ending.Ending.TheVariants.{WriteFault, NoMemory as memory_ended}
use Rattle.sec_base.specs.declared.evidence.Evidence.{Evidence}
use Rattle.sec_base.specs.declared.sink.SinkStop.TheVariants.{Failed, NoMemory as no_memory}
use Rattle.chip_words.specs.Request.{Asked, WordsFault}
use Rattle.bus_model.specs.BusHistory.{BusHistory}
use Rattle.chip_run.specs.Run.{RunsProtected, Terms}
use Rattle.chip_run.specs.declared.RunRecord.{RunRecord}
use Rattle.chip_files.specs.declared.refusal.Refusal.{Refusal}
use Rattle.chip_files.specs.declared.refusal.Refusal.TheVariants.{Usage, WrongValue, Unread, TooLong, Elf, Asm, Script, Report, Trace as trace_refused, Order as order_refused}
use Rattle.chip_files.specs.declared.stop.Stop.{Stop}
use Rattle.chip_files.specs.declared.stop.Stop.TheVariants.{Refused as stop_refused, NoMemory as stop_no_memory}
use Rattle.chip_device.specs.declared.run_bus.RunBus.{RunBus}
use Rattle.chip_device.specs.Generated.{RunsGenerated}
use Rattle.chip_main.specs.declared.Done.{Done}
use Rattle.chip_main.specs.declared.course.Course.{Course}
use Rattle.chip_main.specs.declared.course.Course.TheVariants.{Refused, NoMemory, Ran, RanPlain, Written, OtherTag, RanGenerated, RanTraced, Judged, RanPair}
use Rattle.chip_main.specs.Course.{Outcome, TellsCourse, course_status, status_of, stopped_course}
use Rattle.chip_main.specs.Status.{IsResult, Telling, code_of, ending_status, evidence_status, refusal_status, run_status, status_with, text_status, told_pair_status, told_status, untold_ending_status, untold_pair_status, untold_told_pair_status, untold_told_status}
use Rattle.chip_main.specs.World.{World}
use Rattle.chip_main.proofs.Outcomes.{untold_pair_cases}

-- no write failed in a run whose status is a result

pub result_ending : (ending : Ending) → IsResult (code_of (ending_status ending)) → ending ≢ WriteFault
result_ending WriteFault is = absurd (is.3 refl)
result_ending _ is = λ e. cc

shown_ending : (ending : Ending) → IsResult (code_of (evidence_status ending)) → ending ≢ WriteFault
shown_ending WriteFault is = absurd (is.3 refl)
shown_ending _ is = λ e. cc

result_with : (evidence : Option Evidence) (ending : Ending) → IsResult (code_of (status_with evidence ending)) → ending ≢ WriteFault
result_with None ending is = result_ending ending is
result_with (Some evidence) ending is = shown_ending ending is

result_run : (run : RunRecord) → IsResult (code_of (run_status run)) → run.ending ≢ WriteFault
result_run run is = result_with run.evidence run.ending is

-- what was not told is no result
untold_stops : (ending : Ending) → ¬ IsResult (code_of (untold_ending_status ending))
untold_stops memory_ended is = is.4 refl
untold_stops _ is = is.3 refl

-- and so is what was written besides, as far as it was
untold_told_stops : (run : RunRecord) (telling : Telling) → ¬ IsResult (code_of (untold_told_status run telling))
untold_told_stops run (Ok _) is = untold_stops run.ending is
untold_told_stops run (Err Failed) is = untold_stops run.ending is
untold_told_stops run (Err no_memory) is = is.4 refl

-- and the same of two programs
untold_pair_stops : (first second : RunRecord) → ¬ IsResult (code_of (untold_pair_status first second))
untold_pair_stops first second is = elim (untold_pair_cases first.ending second.ending) [
  | inl untold ↦ is.3 untold.0
  | inr gone ↦ is.4 gone
]

untold_told_pair_stops : (first second : RunRecord) (telling : Telling) → ¬ IsResult (code_of (untold_told_pair_status first second telling))
untold_told_pair_stops first second (Ok _) is = untold_pair_stops first second is
untold_told_pair_stops first second (Err Failed) is = untold_pair_stops first second is
untold_told_pair_stops first second (Err no_memory) is = is.4 refl

-- nor is a refusal
refusal_stops : (refusal : Refusal) → ¬ IsResult (code_of (refusal_status refusal))
refusal_stops (Usage text) is = is.0 refl
refusal_stops (WrongValue fault) is = is.0 refl
refusal_stops Unread is = is.2 refl
refusal_stops TooLong is = is.1 refl
refusal_stops (Elf fault) is = is.1 refl
refusal_stops (Asm line fault) is = is.1 refl
refusal_stops (Script line fault) is = is.1 refl
refusal_stops (Report fault) is = is.1 refl
refusal_stops (trace_refused fault) is = is.1 refl
refusal_stops (order_refused error) is = is.1 refl

pub stop_stops : (stop : Stop) → ¬ IsResult (code_of (course_status (stopped_course stop)))
stop_stops (stop_refused refusal) is = refusal_stops refusal is
stop_stops stop_no_memory is = is.4 refl

-- a text was written whole
pub result_text : {P : Type 0} (telling : Telling) → IsResult (code_of (text_status telling)) → OnOk telling P → P
result_text (Ok done) is p = p
result_text (Err Failed) is p = absurd (is.3 refl)
result_text (Err no_memory) is p = absurd (is.4 refl)

result_told : {P : Type 0} (run : RunRecord) (telling : Telling) → IsResult (code_of (told_status run telling)) → OnOk telling P → P
result_told run (Ok done) is p = p
result_told run (Err Failed) is p = absurd (untold_stops run.ending is)
result_told run (Err no_memory) is p = absurd (is.4 refl)

pub result_paired : {P : Type 0} (first second : RunRecord) (telling : Telling) → IsResult (code_of (told_pair_status first second telling)) → OnOk telling P → P
result_paired first second (Ok done) is p = p
result_paired first second (Err Failed) is p = absurd (untold_pair_stops first second is)
result_paired first second (Err no_memory) is p = absurd (is.4 refl)

pub result_summed : {P : Type 0} {number : ℕ} {printed : List ℕ} {run : RunRecord} {bus : RunBus} → RunsGenerated number printed run bus → (telling : Telling) →
    IsResult (code_of (told_status run telling)) → OnOk telling P → P
result_summed {P} {number} {printed} {run} {bus} runs telling is p = result_told run telling is p

-- a run whose status is a result left the sink's faults
pub result_quiet : {terms : Terms} {out out' : SinkState} {before after : BusHistory} {run : RunRecord} → RunsProtected terms out out' before after run →
    IsResult (code_of (run_status run)) → out'.faults ≡ out.faults
result_quiet {terms} {out} {out'} {before} {after} {run} runs is = runs.sink.quiet (result_run run is)

none_rose : {F O N : Type 0} (course : Course) (told : Telling) (note note' : SinkState) → IsResult (code_of (status_of course told)) →
    (IsResult (code_of (course_status course)) → F × O) → OnOk told N → TellsCourse course note note' told → F × O × N
none_rose course (Ok done) note note' is taken noted tells = let both = taken is in (both.0, both.1, noted)
none_rose course (Err no_memory) note note' is taken noted tells = absurd (is.4 refl)
none_rose (Refused refusal) (Err Failed) note note' is taken noted tells = absurd (refusal_stops refusal is)
none_rose NoMemory (Err Failed) note note' is taken noted tells = absurd (is.4 refl)
none_rose (Ran run bus) (Err Failed) note note' is taken noted tells = absurd (untold_stops run.ending is)
none_rose (RanPlain run) (Err Failed) note note' is taken noted tells = absurd (untold_stops run.ending is)
none_rose (Written written) (Err Failed) note note' is taken noted tells = let told = tells.1 in absurd (cc)
none_rose OtherTag (Err Failed) note note' is taken noted tells = absurd (is.3 refl)
none_rose (RanGenerated run bus written) (Err Failed) note note' is taken noted tells = let told = tells.1 in absurd (cc)
none_rose (RanTraced run bus written) (Err Failed) note note' is taken noted tells = absurd (untold_told_stops run written is)
none_rose (Judged difference written) (Err Failed) note note' is taken noted tells = let told = tells.1 in absurd (cc)
none_rose (RanPair run bus second written) (Err Failed) note note' is taken noted tells = absurd (untold_told_pair_stops run second.run written is)

pub faultless : {request : Result Asked WordsFault} {old new : World} {done : Done} → Outcome request old new done → IsResult done.status →
    (new.files.faults ≡ old.files.faults) × (new.out.faults ≡ old.out.faults) × (new.note.faults ≡ old.note.faults)
faultless {request} {old} {new} o is =
    none_rose o.course o.told old.note new.note (subst IsResult o.status is) o.taken o.noted o.tells
