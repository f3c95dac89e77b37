-- Turns of an execution.
use Rattle.std.proofs.Common.{◌≡◌, ◌≢◌, ◌+◌, ◌<◌, ◌≤◌, ℕ, List, ◌++◌, Option, Some, None, Result, Ok, Err, length, refl, sym, ap, ◌∙◌, subst, append-nil}
use Rattle.sec_base.specs.declared.ending.Ending.{Ending}
use Rattle.sec_base.specs.declared.ending.Cause.{Cause}
use Rattle.sec_base.specs.declared.ending.Ending.TheVariants.{Halted, Trapped, OutOfSteps, WriteFault}
use Rattle.sec_base.specs.declared.stop.MemStop.{MemStop}
use Rattle.sec_base.specs.declared.stop.MemStop.TheVariants.{Tampered as tampered, Spent as spent, NoMemory as no_memory}
use Rattle.rv32_core.specs.declared.step.Step.{Step}
use Rattle.rv32_core.specs.declared.step.Step.TheVariants.{Halted as Halted_step}
use Rattle.rv32_core.specs.declared.step.StepStop.{StepStop}
use Rattle.rv32_core.specs.declared.step.StepStop.TheVariants.{Trap, Mem, WriteFault as WriteFault_step}
use Rattle.rv32_core.specs.State.{CoreView, ServicesView, State}
use Rattle.rv32_core.specs.Effect.{next}
use Rattle.rv32_core.specs.Outcome.{IsOutcome, prints_of}
use Rattle.rv32_core.specs.Machine.{Machine, plain}
use Rattle.rv32_core.specs.Follows.{EndsAs, Follows}
use Rattle.rv32_core.proofs.Plain.{going_on, plain_stepped, out_of_steps_follows, step_halts, step_traps, step_stops, step_fails, step_cut_short}
use Rattle.rv32_run.specs.Execution.{IsMemoryEnding, FollowsWith, IsStop, StandsAt, retired_after, stop_ending, CarriesEnding}

-- a stop of the memory ends a program that goes on
ends_by : (stop : MemStop) (state : State) (before printed : List ℕ) (n budget : ℕ) → EndsAs (stop_ending stop) (going_on state before n) n budget printed
ends_by (tampered place) state before printed n budget = refl
ends_by (spent page) state before printed n budget = refl
ends_by no_memory state before printed n budget = refl

pub stop_ends : (stop : MemStop) (ending : Ending) (state : State) (before printed : List ℕ) (n budget : ℕ) → ending ≡ stop_ending stop → EndsAs ending (going_on state before n) n budget printed
stop_ends stop ending state before printed n budget e =
    subst (λ (x : Ending). EndsAs x (going_on state before n) n budget printed) (sym e) (ends_by stop state before printed n budget)

-- A turn that ends a run

-- the budget was used up
pub follows_used : (start : Machine) (budget n : ℕ) (state : State) (printed : List ℕ) → plain start n ≡ going_on state printed n → n ≡ budget → FollowsWith start budget n OutOfSteps state.memory printed
follows_used start budget n state printed here used = record {
  follows = subst (λ (xs : List ℕ). Follows start budget n OutOfSteps xs) (append-nil printed) (out_of_steps_follows start budget n state printed here used);
  leaves = λ quiet. ap (λ (machine : Machine). machine.state.memory) (sym here);
  cut_short = λ is. cc;
}

-- the program asked to exit
pub turn_halts : (start : Machine) (budget n : ℕ) (old new : State) (before printed : List ℕ) (result : Result Step StepStop) (code : ℕ) → plain start n ≡ going_on old before n → n < budget → IsOutcome (next old) result old new printed → result ≡ Ok (Halted_step code) → FollowsWith start budget (n + 1) (Halted code) new.memory (before ++ printed)
turn_halts start budget n old new before printed result code here below outcome is = record {
  follows = step_halts start budget n old new before printed result code here below outcome is;
  leaves = λ quiet.
      let stepped = plain_stepped start n old new before printed (Some code) here (subst (λ (r : Result Step StepStop). IsOutcome (next old) r old new printed) is outcome) in
      ap (λ (machine : Machine). machine.state.memory) (sym stepped);
  cut_short = λ is. cc;
}

-- it trapped
pub turn_traps : (start : Machine) (budget n : ℕ) (old new : State) (before printed : List ℕ) (result : Result Step StepStop) (cause : Cause) (pc : ℕ) → plain start n ≡ going_on old before n → n < budget → IsOutcome (next old) result old new printed → result ≡ Err (Trap cause) → pc ≡ old.core.pc → FollowsWith start budget n (Trapped cause pc) new.memory (before ++ printed)
turn_traps start budget n old new before printed result cause pc here below outcome is at = record {
  follows = step_traps start budget n old new before printed result cause pc here below outcome is at;
  leaves = λ quiet.
      let trapped = subst (λ (r : Result Step StepStop). IsOutcome (next old) r old new printed) is outcome in
      trapped.1 ∙ ap (λ (machine : Machine). machine.state.memory) (sym here);
  cut_short = λ is. cc;
}

-- the memory stopped
pub ends_by_memory : (stop : MemStop) (ending : Ending) → ending ≡ stop_ending stop → IsMemoryEnding ending
ends_by_memory (tampered place) ending e = subst IsMemoryEnding (sym e) tt
ends_by_memory (spent page) ending e = subst IsMemoryEnding (sym e) tt
ends_by_memory no_memory ending e = subst IsMemoryEnding (sym e) tt

not_by_sink : (stop : MemStop) (ending : Ending) → ending ≡ stop_ending stop → ending ≢ WriteFault
not_by_sink (tampered place) ending e = λ is. cc
not_by_sink (spent page) ending e = λ is. cc
not_by_sink no_memory ending e = λ is. cc

pub turn_stops : (start : Machine) (budget n : ℕ) (old new : State) (before printed : List ℕ) (result : Result Step StepStop) (stop : MemStop) (ending : Ending) → plain start n ≡ going_on old before n → n ≤ budget → IsOutcome (next old) result old new printed → result ≡ Err (Mem stop) → ending ≡ stop_ending stop → FollowsWith start budget n ending new.memory (before ++ printed)
turn_stops start budget n old new before printed result stop ending here within outcome is e = record {
  follows = step_stops start budget n old new before printed result stop ending here within outcome is (stop_ends stop ending old before (before ++ printed) n budget e);
  leaves = λ quiet. absurd (quiet (ends_by_memory stop ending e));
  cut_short = λ is. absurd (not_by_sink stop ending e is);
}

-- the sink failed
pub turn_fails : (start : Machine) (budget n : ℕ) (old new : State) (before printed : List ℕ) (result : Result Step StepStop) → plain start n ≡ going_on old before n → n ≤ budget → IsOutcome (next old) result old new printed → result ≡ Err WriteFault_step → FollowsWith start budget n WriteFault new.memory (before ++ printed)
turn_fails start budget n old new before printed result here within outcome is = record {
  follows = step_fails start budget n old new before printed result here within outcome is;
  leaves = λ quiet.
      let failed = subst (λ (r : Result Step StepStop). IsOutcome (next old) r old new printed) is outcome in
      failed.1 ∙ ap (λ (machine : Machine). machine.state.memory) (sym here);
  cut_short = λ _. step_cut_short start n old new before printed result here outcome is;
}

-- The processor and the services that a turn leaves

pub stands_here : (machine : Machine) (core : CoreView) (calls : ServicesView) (memory printed : List ℕ) (n : ℕ) → machine ≡ going_on (record { core = core; calls = calls; memory = memory }) printed n → StandsAt machine core calls
stands_here machine core calls memory printed n here =
    (ap (λ (m : Machine). m.state.core) here, ap (λ (m : Machine). m.state.calls) here)

-- after an error, those that it began with
pub stands_still : (machine : Machine) (core new_core : CoreView) (calls new_calls : ServicesView) (memory printed : List ℕ) (n : ℕ) → machine ≡ going_on (record { core = core; calls = calls; memory = memory }) printed n → (new_core ≡ core) × (new_calls ≡ calls) → StandsAt machine new_core new_calls
stands_still machine core new_core calls new_calls memory printed n here stays =
    (ap (λ (m : Machine). m.state.core) here ∙ sym stays.0, ap (λ (m : Machine). m.state.calls) here ∙ sym stays.1)

-- a turn without an ending: the memory did not stop
pub carries_on : (stopped : Option MemStop) → CarriesEnding stopped None → stopped ≡ None
carries_on None carries = refl
carries_on (Some stop) carries = cc

-- an ending by the budget is no stop of a memory
pub out_of_steps_alone : (stop : MemStop) → Some OutOfSteps ≡ Some (stop_ending stop) → stop ≡ no_memory
out_of_steps_alone (tampered place) is = cc
out_of_steps_alone (spent page) is = cc
out_of_steps_alone no_memory is = refl

-- a stop retires nothing
pub stop_retires : (ending : Ending) (n : ℕ) → IsStop ending → retired_after (Some ending) n ≡ n
stop_retires (Halted code) n stops = absurd stops
stop_retires _ n stops = refl

-- and where there was no memory, what its instruction prints is what the machine prints next
pub stop_prints : (start : Machine) (n m : ℕ) (state : State) (printed : List ℕ) → plain start n ≡ going_on state printed n → m ≡ n → 0 < length (prints_of (next state)) → 0 < length (prints_of (next (plain start m).state))
stop_prints start n m state printed here same prints =
    subst (λ (k : ℕ). 0 < length (prints_of (next (plain start k).state))) (sym same)
    (subst (λ (machine : Machine). 0 < length (prints_of (next machine.state))) (sym here) prints)
