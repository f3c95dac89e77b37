-- What the status of a run on protected memory says of how it ended.
use Rattle.std.proofs.Common.{◌≡◌, ◌≢◌, ◌<◌, ◌≤◌, inl, inr, List, ℕ, Option, Some, None, IfSome, IsTrue, refl, sym, ap, ◌∙◌, subst, arith}
use Rattle.sec_base.specs.Sink.{SinkState}
use Rattle.sec_base.specs.declared.evidence.Evidence.{Evidence}
use Rattle.sec_base.specs.declared.message.Message.{Message}
use Rattle.sec_base.specs.declared.ending.Ending.{Ending}
use Rattle.sec_base.specs.declared.ending.Ending.TheVariants.{Halted, Trapped, OutOfSteps, Tampered, Spent, WriteFault, NoMemory}
use Rattle.sec_base.specs.declared.place.Place.{Place}
use Rattle.bus_adversary.specs.ChangedPlaces.{script_may_change}
use Rattle.bus_model.specs.BusHistory.{BusHistory, Lie}
use Rattle.chip_run.specs.Run.{RunsProtected, ShowsEvidence, Terms}
use Rattle.chip_run.specs.declared.RunRecord.{RunRecord}
use Rattle.bus_model.specs.FirstLie.{HonestOrCaught, IsCaught}
use Rattle.sec_base.specs.Program.{Program}
use Rattle.chip_words.specs.Request.{RunAsked}
use Rattle.chip_device.specs.declared.run_bus.RunBus.{RunBus}
use Rattle.chip_device.specs.Buses.{LiesByScript, run_history, bus_script}
use Rattle.chip_device.specs.Device.{device_tag, terms_of}
use Rattle.chip_main.specs.Answer.{TampersByScript}
use Rattle.chip_main.specs.Status.{code_of, ending_status, evidence_status, status_with, run_status}
use Rattle.chip_main.specs.Endings.{EndedWithoutEvidence, IsHalted, IsTrapped, IsOutOfSteps, EndedTampered, EndedSpent, EndedWithEvidence}

-- with evidence the status is 7 or more
evidence_high : (ending : Ending) → 7 ≤ code_of (evidence_status ending)
evidence_high WriteFault = omega arith
evidence_high _ = omega arith

-- so below 7 there is none
low_without_evidence : (evidence : Option Evidence) (ending : Ending) → code_of (status_with evidence ending) < 7 → evidence ≡ None
low_without_evidence None ending low = refl
low_without_evidence (Some evidence) ending low = absurd (omega (arith, evidence_high ending))

status_without_evidence : (evidence : Option Evidence) (ending : Ending) → evidence ≡ None → code_of (status_with evidence ending) ≡ code_of (ending_status ending)
status_without_evidence None ending none = refl
status_without_evidence (Some evidence) ending none = absurd cc

pub run_status_without_evidence : (run : RunRecord) → run.evidence ≡ None → code_of (run_status run) ≡ code_of (ending_status run.ending)
run_status_without_evidence run none = status_without_evidence run.evidence run.ending none

-- no evidence, and the status of the ending
HasNoEvidence : RunRecord → ℕ → Type 0
HasNoEvidence run status = (run.evidence ≡ None) × (code_of (ending_status run.ending) ≡ status)

low_status : (run : RunRecord) (status : ℕ) → code_of (run_status run) ≡ status → status < 7 → HasNoEvidence run status
unfolding HasNoEvidence
low_status run status is low =
    let none = low_without_evidence run.evidence run.ending (subst (λ (n : ℕ). n < 7) (sym is) low) in
    (none, sym (run_status_without_evidence run none) ∙ is)

same_status : (evidence : Option Evidence) (ending : Ending) → evidence ≡ None → status_with evidence ending ≡ ending_status ending
same_status None ending none = refl
same_status (Some evidence) ending none = absurd cc

pub same_run_status : (run : RunRecord) → run.evidence ≡ None → run_status run ≡ ending_status run.ending
same_run_status run none = same_status run.evidence run.ending none

pub halted_status : (run : RunRecord) (bus : RunBus) → EndedWithoutEvidence IsHalted run bus → code_of (run_status run) ≡ 0
halted_status run bus halts = run_status_without_evidence run halts.no_evidence ∙ ap (λ e. code_of (ending_status e)) halts.ended.1

pub halted_of : (ending : Ending) → code_of (ending_status ending) ≡ 0 → IsHalted ending
halted_of (Halted exit) is = (exit, refl)
halted_of _ is = absurd (omega arith)

pub trapped_of : (ending : Ending) → code_of (ending_status ending) ≡ 1 → IsTrapped ending
trapped_of (Trapped cause pc) is = (cause, pc, refl)
trapped_of _ is = absurd (omega arith)

pub out_of_steps_of : (ending : Ending) → code_of (ending_status ending) ≡ 4 → IsOutOfSteps ending
out_of_steps_of OutOfSteps is = refl
out_of_steps_of _ is = absurd (omega arith)

pub tampered_of : (ending : Ending) → code_of (ending_status ending) ≡ 5 → (place : Place) × (ending ≡ Tampered place)
tampered_of (Tampered place) is = (place, refl)
tampered_of _ is = absurd (omega arith)

pub spent_of : (ending : Ending) → code_of (ending_status ending) ≡ 6 → (page : ℕ) × (ending ≡ Spent page)
spent_of (Spent page) is = (page, refl)
spent_of _ is = absurd (omega arith)

pub no_seven : (ending : Ending) → code_of (ending_status ending) ≢ 7
no_seven WriteFault is = omega arith
no_seven _ is = omega arith

evidence_of : (evidence : Option Evidence) (ending : Ending) → code_of (status_with evidence ending) ≡ 7 → (found : Evidence) × (evidence ≡ Some found)
evidence_of None ending is = absurd (no_seven ending is)
evidence_of (Some evidence) ending is = (evidence, refl)

fault_is_no_seven : (evidence : Option Evidence) (ending : Ending) → code_of (status_with evidence ending) ≡ 7 → ending ≢ WriteFault
fault_is_no_seven None ending is fault = no_seven ending is
fault_is_no_seven (Some evidence) ending is fault =
    let nine : ◌≡◌ {A = ℕ} 9 7 = subst (λ (e : Ending). code_of (evidence_status e) ≡ 7) fault is in omega arith

memory_is_no_seven : (evidence : Option Evidence) (ending : Ending) → code_of (status_with evidence ending) ≡ 7 → ending ≢ NoMemory
memory_is_no_seven None ending is gone = no_seven ending is
memory_is_no_seven (Some evidence) ending is gone =
    let ten : ◌≡◌ {A = ℕ} 10 7 = subst (λ (e : Ending). code_of (evidence_status e) ≡ 7) gone is in omega arith

if_some : {A : Type 0} (P : A → Type 0) (o : Option A) (x : A) → o ≡ Some x → IfSome o P → P x
if_some P o x is holds = subst (λ (v : Option _). IfSome v P) is holds

-- where it ended as tampering, the one false answer was caught
caught : (tag_of : Message → List ℕ) (run : RunRecord) (told : BusHistory) (place : Place) → run.ending ≡ Tampered place → HonestOrCaught tag_of run.used run.made told (λ p. run.ending ≡ Tampered p) →
    IsCaught tag_of run.used run.made told (λ p. run.ending ≡ Tampered p)
caught tag_of run told place ended (inl honest) = absurd (honest.untampered place ended)
caught tag_of run told place ended (inr is) = is

-- the causes of the statuses
pub halted_cause : {terms : Terms} {old new : SinkState} {before : BusHistory} {run : RunRecord} (bus : RunBus) → RunsProtected terms old new before (run_history bus) run → code_of (run_status run) ≡ 0 → EndedWithoutEvidence IsHalted run bus
unfolding HasNoEvidence
halted_cause {run = run} bus runs is =
    let low = low_status run 0 is (omega arith) in record { no_evidence = low.0; ended = halted_of run.ending low.1 }

pub trapped_cause : {terms : Terms} {old new : SinkState} {before : BusHistory} {run : RunRecord} (bus : RunBus) → RunsProtected terms old new before (run_history bus) run → code_of (run_status run) ≡ 1 → EndedWithoutEvidence IsTrapped run bus
unfolding HasNoEvidence
trapped_cause {run = run} bus runs is =
    let low = low_status run 1 is (omega arith) in record { no_evidence = low.0; ended = trapped_of run.ending low.1 }

pub out_of_steps_cause : {terms : Terms} {old new : SinkState} {before : BusHistory} {run : RunRecord} (bus : RunBus) → RunsProtected terms old new before (run_history bus) run → code_of (run_status run) ≡ 4 → EndedWithoutEvidence IsOutOfSteps run bus
unfolding HasNoEvidence
out_of_steps_cause {run = run} bus runs is =
    let low = low_status run 4 is (omega arith) in record { no_evidence = low.0; ended = out_of_steps_of run.ending low.1 }

pub tampered_cause : (asked : RunAsked) (program : Program) (input : List ℕ) (bus : RunBus) {old new : SinkState} {before : BusHistory} {run : RunRecord} → RunsProtected (terms_of asked program input) old new before (run_history bus) run → code_of (run_status run) ≡ 5 → EndedTampered asked run bus
unfolding HasNoEvidence
tampered_cause asked program input bus {run = run} runs is =
    let low = low_status run 5 is (omega arith) in
    let ending = tampered_of run.ending low.1 in
    record {
      no_evidence = low.0;
      caught = caught (device_tag asked.terms asked.execution.file.geometry) run (run_history bus) ending.0 ending.1 (runs.ran.without_evidence low.0).bus.answers;
    }

pub spent_cause : (asked : RunAsked) (program : Program) (input : List ℕ) (bus : RunBus) {old new : SinkState} {before : BusHistory} {run : RunRecord} → RunsProtected (terms_of asked program input) old new before (run_history bus) run → code_of (run_status run) ≡ 6 → EndedSpent asked run bus
unfolding HasNoEvidence
spent_cause asked program input bus {run = run} runs is =
    let low = low_status run 6 is (omega arith) in
    let ending = spent_of run.ending low.1 in
    record {
      no_evidence = low.0;
      page = ending.0;
      ended = ending.1;
      used_up = (runs.ran.without_evidence low.0).pads.spent ending.0 ending.1;
      below = λ default. (runs.ran.without_evidence low.0).pads.unspent default ending.0 ending.1;
    }

pub evidence_cause : (asked : RunAsked) (program : Program) (input : List ℕ) (bus : RunBus) {old new : SinkState} {before : BusHistory} {run : RunRecord} → RunsProtected (terms_of asked program input) old new before (run_history bus) run → code_of (run_status run) ≡ 7 → EndedWithEvidence asked run bus
evidence_cause asked program input bus {run = run} runs is =
    let found = evidence_of run.evidence run.ending is in
    let shown = if_some (ShowsEvidence (terms_of asked program input) (run_history bus) run) run.evidence found.0 found.1 runs.ran.with_evidence in
    record {
      evidence = found.0;
      there = found.1;
      genuine = shown.genuine;
      first_lie = shown.first_lie;
      written = fault_is_no_seven run.evidence run.ending is;
      in_memory = memory_is_no_seven run.evidence run.ending is;
    }

-- where the first false answer is about a place that the script may change, so is tampering
if_place : (P : Place → Type 0) (first : Option Lie) (lie : Lie) (place : Place) → first ≡ Some lie → lie.place ≡ place → IfSome first (λ l. P l.place) → P place
if_place P first lie place is same holds = subst P same (if_some (λ l. P l.place) first lie is holds)

same_place : {first second : Place} {ending : Ending} → ending ≡ Tampered first → ending ≡ Tampered second → first ≡ second
same_place {first} {second} ended other = let e : Tampered first ≡ Tampered second = sym ended ∙ other in cc

pub tampers_by_script : {terms : Terms} {old new : SinkState} {before : BusHistory} {run : RunRecord} (bus : RunBus) → LiesByScript bus → RunsProtected terms old new before (run_history bus) run → TampersByScript run bus
tampers_by_script {terms = terms} {run = run} bus by_script runs = λ place none ended.
    let is = caught terms.tag_of run (run_history bus) place ended (runs.ran.without_evidence none).bus.answers in
    if_place (λ p. IsTrue (script_may_change (bus_script bus) p)) (run_history bus).lie is.lie place is.first
    (same_place is.ended ended) by_script.first

-- evidence is of a false answer
none_without_lie : (terms : Terms) (evidence : Option Evidence) (run : RunRecord) (told : BusHistory) → IfSome evidence (ShowsEvidence terms told run) → told.lies ≡ 0 → evidence ≡ None
none_without_lie terms None run told shown none = refl
none_without_lie terms (Some evidence) run told shown none = let some : 0 < told.lies = shown.first_lie.lies in absurd (omega arith)

pub honest_without_evidence : {terms : Terms} {old new : SinkState} {before told : BusHistory} {run : RunRecord} → RunsProtected terms old new before told run → told.lies ≡ 0 → run.evidence ≡ None
honest_without_evidence {terms = terms} {told = told} {run = run} runs none = none_without_lie terms run.evidence run told runs.ran.with_evidence none
