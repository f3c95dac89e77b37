-- The plain machine: one more instruction, a machine that stays as it is, and runs that follow it.
use Rattle.std.proofs.Common.{◌≡◌, ◌≢◌, ◌<◌, ◌≤◌, ◌↔◌, ℕ, zero, suc, ◌+◌, ◌-◌, List, [], ◌++◌, length, Option, Some, None, Result, Ok, Err, refl, sym, ap, ◌∙◌, subst, arith, add-zero, add-one, append_assoc}
use Rattle.std.proofs.lemmas.List.{append-nil, length-append}
use Rattle.std.proofs.lemmas.Bool.{cond_below, cond_above}
use Rattle.sec_base.specs.Prefix.{IsPrefix}
use Rattle.sec_base.specs.declared.ending.Cause.{Cause}
use Rattle.sec_base.specs.declared.ending.Ending.{Ending}
use Rattle.sec_base.specs.declared.ending.Ending.TheVariants.{Halted, Trapped, OutOfSteps, Tampered, Spent, WriteFault, NoMemory}
use Rattle.sec_base.specs.declared.place.Place.{Place}
use Rattle.rv32_core.specs.State.{State}
use Rattle.rv32_core.specs.After.{After}
use Rattle.rv32_core.specs.Effect.{next}
use Rattle.rv32_core.specs.Machine.{Machine, after_exit, after_result, alone, one_more_of, one_more, plain}
use Rattle.sec_base.specs.declared.stop.MemStop.{MemStop}
use Rattle.rv32_core.specs.declared.step.Step.{Step}
use Rattle.rv32_core.specs.declared.step.Step.TheVariants.{Retired, Halted as Halted_step}
use Rattle.rv32_core.specs.declared.step.StepStop.{StepStop}
use Rattle.rv32_core.specs.declared.step.StepStop.TheVariants.{Trap, Mem, WriteFault as WriteFault_step}
use Rattle.rv32_core.specs.Outcome.{prints_of, IsOutcome}
use Rattle.rv32_core.specs.Follows.{Traps, EndsAs, Follows, ending_by, ending_at, IsWhole}

-- One more instruction

pub plain_more : (start : Machine) (n : ℕ) → plain start (n + 1) ≡ one_more (plain start n)
unfolding plain
plain_more start n = rw (add-one n) refl

-- it is retired
pub one_more_done : (machine : Machine) (after : After) → machine.exit ≡ None → next machine.state ≡ Ok after → one_more machine ≡ after_exit after.exit after machine
unfolding one_more
one_more_done machine after going e =
    ap (λ (exit : Option ℕ). one_more_of exit machine) going ∙ ap (λ (result : Result After Cause). after_result result machine) e

-- it traps
pub one_more_trapped : (machine : Machine) (cause : Cause) → machine.exit ≡ None → next machine.state ≡ Err cause → one_more machine ≡ machine
unfolding one_more
one_more_trapped machine cause going e =
    ap (λ (exit : Option ℕ). one_more_of exit machine) going ∙ ap (λ (result : Result After Cause). after_result result machine) e

-- the program ended before
pub one_more_ended : (machine : Machine) (code : ℕ) → machine.exit ≡ Some code → one_more machine ≡ machine
unfolding one_more
one_more_ended machine code ended = ap (λ (exit : Option ℕ). one_more_of exit machine) ended

exit_output : (exit : Option ℕ) (after : After) (machine : Machine) → (after_exit exit after machine).output ≡ machine.output ++ after.prints
exit_output None after machine = refl
exit_output (Some code) after machine = refl

done_output : (result : Result After Cause) (machine : Machine) → (after_result result machine).output ≡ machine.output ++ prints_of result
done_output (Ok after) machine = exit_output after.exit after machine
done_output (Err cause) machine = sym (append-nil machine.output)

-- what is printed by then
pub one_more_output : (machine : Machine) → machine.exit ≡ None → (one_more machine).output ≡ machine.output ++ prints_of (next machine.state)
unfolding one_more
one_more_output machine going =
    ap (λ (exit : Option ℕ). (one_more_of exit machine).output) going ∙ done_output (next machine.state) machine

-- A machine that stays as it is

pub plain_still : (start : Machine) (n k : ℕ) → one_more (plain start n) ≡ plain start n → plain start (n + k) ≡ plain start n
plain_still start n zero still = ap (plain start) (add-zero n)
plain_still start n (suc k) still =
    let further : n + suc k ≡ n + k + 1 = omega arith in
    ap (plain start) further ∙ plain_more start (n + k) ∙ ap one_more (plain_still start n k still) ∙ still

-- a machine that ended stays so
pub plain_ended : (start : Machine) (n m code : ℕ) → n ≤ m → (plain start n).exit ≡ Some code → plain start m ≡ plain start n
plain_ended start n m code h ended =
    let further : m ≡ n + (m - n) = omega arith in
    ap (plain start) further ∙ plain_still start n (m - n) (one_more_ended (plain start n) code ended)

-- and so does one whose next instruction traps
pub plain_trapped : (start : Machine) (n m : ℕ) (cause : Cause) → n ≤ m → (plain start n).exit ≡ None → next (plain start n).state ≡ Err cause → plain start m ≡ plain start n
plain_trapped start n m cause h going trap =
    let further : m ≡ n + (m - n) = omega arith in
    ap (plain start) further ∙ plain_still start n (m - n) (one_more_trapped (plain start n) cause going trap)

-- A machine that goes on: its state, what was printed, and how many instructions were retired

abbrev pub going_on : State → List ℕ → ℕ → Machine
going_on state printed n = record { state = state; harts = alone; output = printed; retired = n; exit = None }

-- where there is one hart, its turn comes again
exit_alone : (exit : Option ℕ) (old new : State) (before printed : List ℕ) (n : ℕ) → after_exit exit (record { state = new; prints = printed; exit = exit }) (going_on old before n)
    ≡ record { state = new; harts = alone; output = before ++ printed; retired = n + 1; exit = exit }
exit_alone None old new before printed n = refl
exit_alone (Some code) old new before printed n = refl

-- an instruction that is retired
pub plain_stepped : (start : Machine) (n : ℕ) (old new : State) (before printed : List ℕ) (exit : Option ℕ) → plain start n ≡ going_on old before n → next old ≡ Ok (record { state = new; prints = printed; exit = exit }) → plain start (n + 1) ≡ record { state = new; harts = alone; output = before ++ printed; retired = n + 1; exit = exit }
plain_stepped start n old new before printed exit here e =
    plain_more start n ∙ ap one_more here
    ∙ one_more_done (going_on old before n) (record { state = new; prints = printed; exit = exit }) refl e
    ∙ exit_alone exit old new before printed n

prefix_refl : (front whole : List ℕ) → whole ≡ front → IsPrefix front whole
prefix_refl front whole e = ([], e ∙ sym (append-nil front))

prefix_append : (before front whole : List ℕ) → IsPrefix front whole → IsPrefix (before ++ front) (before ++ whole)
prefix_append before front whole p = (p.0, ap (λ (xs : List ℕ). before ++ xs) p.1 ∙ sym (append_assoc before front p.0))

nothing_before : (whole printed : List ℕ) → printed ≡ [] → whole ≡ printed ++ whole
nothing_before whole printed nothing = ap (λ (xs : List ℕ). xs ++ whole) (sym nothing)

-- A run that stops before an instruction is retired, with some of what that prints: it follows the plain machine.
pub stopped_follows : (start : Machine) (budget n : ℕ) (state : State) (before printed : List ℕ) (ending : Ending) → plain start n ≡ going_on state before n → n ≤ budget → IsPrefix printed (prints_of (next state)) → EndsAs ending (going_on state before n) n budget (before ++ printed) → Follows start budget n ending (before ++ printed)
stopped_follows start budget n state before printed ending here within front ends = record {
  count = ap (λ (machine : Machine). machine.retired) here;
  within = within;
  began = (printed, ap (λ (machine : Machine). machine.output ++ printed) (sym here));
  ahead =
      let further = ap (λ (machine : Machine). machine.output) (plain_more start n ∙ ap one_more here) ∙ one_more_output (going_on state before n) refl in
      let whole : IsPrefix (before ++ printed) (before ++ prints_of (next state)) = prefix_append before printed (prints_of (next state)) front in
      (whole.0, further ∙ whole.1);
  ends = subst (λ (machine : Machine). EndsAs ending machine n budget (before ++ printed)) (sym here) ends;
}

-- a run that ends as the program does
pub halted_follows : (start : Machine) (budget n : ℕ) (state : State) (printed : List ℕ) (code : ℕ) → plain start n ≡ record { state = state; harts = alone; output = printed; retired = n; exit = Some code } → n ≤ budget → Follows start budget n (Halted code) printed
halted_follows start budget n state printed code here within =
    let exit : (plain start n).exit ≡ Some code = ap (λ (machine : Machine). machine.exit) here in
    let output : (plain start n).output ≡ printed = ap (λ (machine : Machine). machine.output) here in
    record {
      count = ap (λ (machine : Machine). machine.retired) here;
      within = within;
      began = prefix_refl (plain start n).output printed (sym output);
      ahead = prefix_refl printed (plain start (n + 1)).output (ap (λ (machine : Machine). machine.output) (plain_more start n ∙ one_more_ended (plain start n) code exit) ∙ output);
      ends = (exit, sym output);
    }

-- a run that traps
pub trapped_follows : (start : Machine) (budget n : ℕ) (state : State) (before printed : List ℕ) (cause : Cause) (pc : ℕ) → plain start n ≡ going_on state before n → n < budget → next state ≡ Err cause → pc ≡ state.core.pc → printed ≡ [] → Follows start budget n (Trapped cause pc) (before ++ printed)
trapped_follows start budget n state before printed cause pc here below trap at nothing =
    stopped_follows start budget n state before printed (Trapped cause pc) here (omega arith) (prints_of (next state), nothing_before (prints_of (next state)) printed nothing)
    (below, record { going = refl; trap = trap; at = sym at }, ap (λ (xs : List ℕ). before ++ xs) nothing ∙ append-nil before)

-- a run whose budget is used up
pub out_of_steps_follows : (start : Machine) (budget n : ℕ) (state : State) (before : List ℕ) → plain start n ≡ going_on state before n → n ≡ budget → Follows start budget n OutOfSteps (before ++ [])
out_of_steps_follows start budget n state before here used =
    stopped_follows start budget n state before [] OutOfSteps here (omega arith) (prints_of (next state), refl)
    (used, refl, append-nil before)

-- A step that came out so

-- it retired an instruction
pub step_reaches : (start : Machine) (n : ℕ) (old new : State) (before printed : List ℕ) (result : Result Step StepStop) → plain start n ≡ going_on old before n → IsOutcome (next old) result old new printed → result ≡ Ok Retired → plain start (n + 1) ≡ going_on new (before ++ printed) (n + 1)
step_reaches start n old new before printed result here outcome is =
    plain_stepped start n old new before printed None here (subst (λ (r : Result Step StepStop). IsOutcome (next old) r old new printed) is outcome)

-- the program asked to exit
pub step_halts : (start : Machine) (budget n : ℕ) (old new : State) (before printed : List ℕ) (result : Result Step StepStop) (code : ℕ) → plain start n ≡ going_on old before n → n < budget → IsOutcome (next old) result old new printed → result ≡ Ok (Halted_step code) → Follows start budget (n + 1) (Halted code) (before ++ printed)
step_halts start budget n old new before printed result code here below outcome is =
    halted_follows start budget (n + 1) new (before ++ printed) code
    (plain_stepped start n old new before printed (Some code) here (subst (λ (r : Result Step StepStop). IsOutcome (next old) r old new printed) is outcome))
    (omega arith)

-- it trapped
pub step_traps : (start : Machine) (budget n : ℕ) (old new : State) (before printed : List ℕ) (result : Result Step StepStop) (cause : Cause) (pc : ℕ) → plain start n ≡ going_on old before n → n < budget → IsOutcome (next old) result old new printed → result ≡ Err (Trap cause) → pc ≡ old.core.pc → Follows start budget n (Trapped cause pc) (before ++ printed)
step_traps start budget n old new before printed result cause pc here below outcome is at =
    let trap = subst (λ (r : Result Step StepStop). IsOutcome (next old) r old new printed) is outcome in
    trapped_follows start budget n old before printed cause pc here below trap.0 at trap.2

-- the memory stopped, or the sink failed
pub step_stops : (start : Machine) (budget n : ℕ) (old new : State) (before printed : List ℕ) (result : Result Step StepStop) (stop : MemStop) (ending : Ending) → plain start n ≡ going_on old before n → n ≤ budget → IsOutcome (next old) result old new printed → result ≡ Err (Mem stop) → EndsAs ending (going_on old before n) n budget (before ++ printed) → Follows start budget n ending (before ++ printed)
step_stops start budget n old new before printed result stop ending here within outcome is ends =
    let stops = subst (λ (r : Result Step StepStop). IsOutcome (next old) r old new printed) is outcome in
    stopped_follows start budget n old before printed ending here within (assumption stops) ends

pub step_fails : (start : Machine) (budget n : ℕ) (old new : State) (before printed : List ℕ) (result : Result Step StepStop) → plain start n ≡ going_on old before n → n ≤ budget → IsOutcome (next old) result old new printed → result ≡ Err WriteFault_step → Follows start budget n WriteFault (before ++ printed)
step_fails start budget n old new before printed result here within outcome is =
    let fails = subst (λ (r : Result Step StepStop). IsOutcome (next old) r old new printed) is outcome in
    stopped_follows start budget n old before printed WriteFault here within fails.0.0 refl

-- and did not print all that its instruction prints
pub step_cut_short : (start : Machine) (n : ℕ) (old new : State) (before printed : List ℕ) (result : Result Step StepStop) → plain start n ≡ going_on old before n → IsOutcome (next old) result old new printed → result ≡ Err WriteFault_step → length (before ++ printed) < length (plain start (n + 1)).output
step_cut_short start n old new before printed result here outcome is =
    let fails = subst (λ (r : Result Step StepStop). IsOutcome (next old) r old new printed) is outcome in
    let further : length (plain start (n + 1)).output ≡ length (before ++ prints_of (next old)) =
    ap (λ (machine : Machine). length machine.output) (plain_more start n ∙ ap one_more here)
    ∙ ap (λ (xs : List ℕ). length xs) (one_more_output (going_on old before n) refl) in
    omega (arith, further, fails.0.1, length-append before printed, length-append before (prints_of (next old)))

-- Whole runs

-- the ending of a machine that ended
ending_exited : (machine : Machine) (budget code : ℕ) → machine.exit ≡ Some code → Halted code ≡ ending_at machine budget
ending_exited machine budget code ended = ap (λ (exit : Option ℕ). ending_by exit (next machine.state) machine budget) (sym ended)

-- of one whose next instruction traps
ending_trapped : (machine : Machine) (budget n : ℕ) (cause : Cause) (pc : ℕ) → Traps machine cause pc → machine.retired ≡ n → n < budget → Trapped cause pc ≡ ending_at machine budget
ending_trapped machine budget n cause pc traps count below =
    ap (Trapped cause) (sym traps.at)
    ∙ cond_below machine.retired budget (Trapped cause machine.state.core.pc) OutOfSteps (omega arith)
    ∙ ap (λ (result : Result After Cause). ending_by None result machine budget) (sym traps.trap)
    ∙ ap (λ (exit : Option ℕ). ending_by exit (next machine.state) machine budget) (sym traps.going)

-- and of one that made all instructions of the budget
out_of_steps_as : (result : Result After Cause) (machine : Machine) (budget : ℕ) → budget ≤ machine.retired → OutOfSteps ≡ ending_by None result machine budget
out_of_steps_as (Ok after) machine budget h = refl
out_of_steps_as (Err cause) machine budget h = cond_above machine.retired budget (Trapped cause machine.state.core.pc) OutOfSteps OutOfSteps h refl

ending_out_of_steps : (machine : Machine) (budget : ℕ) → machine.exit ≡ None → budget ≤ machine.retired → OutOfSteps ≡ ending_at machine budget
ending_out_of_steps machine budget going h =
    out_of_steps_as (next machine.state) machine budget h
    ∙ ap (λ (exit : Option ℕ). ending_by exit (next machine.state) machine budget) (sym going)

-- a machine that is the one at the budget
whole_at : (start : Machine) (budget n : ℕ) (ending : Ending) → plain start budget ≡ plain start n → (plain start n).retired ≡ n → ending ≡ ending_at (plain start n) budget → IsWhole start budget n ending
whole_at start budget n ending same count stands = record {
  ending_is = stands ∙ ap (λ (machine : Machine). ending_at machine budget) (sym same);
  retired_is = sym count ∙ ap (λ (machine : Machine). machine.retired) (sym same);
}

-- A run that neither the sink nor the memory stopped is the plain machine's over the whole budget.
pub whole_run : (start : Machine) (budget n : ℕ) (ending : Ending) (printed : List ℕ) → Follows start budget n ending printed → ending ≢ WriteFault → ending ≢ NoMemory → ((place : Place) → ending ≢ Tampered place) → ((page : ℕ) → ending ≢ Spent page) → IsWhole start budget n ending
whole_run start budget n (Halted code) printed follows written memory untampered unspent =
    whole_at start budget n (Halted code) (plain_ended start n budget code follows.within follows.ends.0) follows.count
    (ending_exited (plain start n) budget code follows.ends.0)
whole_run start budget n (Trapped cause pc) printed follows written memory untampered unspent =
    whole_at start budget n (Trapped cause pc) (plain_trapped start n budget cause follows.within follows.ends.1.going follows.ends.1.trap) follows.count
    (ending_trapped (plain start n) budget n cause pc follows.ends.1 follows.count follows.ends.0)
whole_run start budget n OutOfSteps printed follows written memory untampered unspent =
    whole_at start budget n OutOfSteps (ap (plain start) (sym follows.ends.0)) follows.count
    (ending_out_of_steps (plain start n) budget follows.ends.1 (omega (arith, follows.count, follows.ends.0)))
whole_run start budget n (Tampered place) printed follows written memory untampered unspent = absurd (untampered place refl)
whole_run start budget n (Spent page) printed follows written memory untampered unspent = absurd (unspent page refl)
whole_run start budget n WriteFault printed follows written memory untampered unspent = absurd (written refl)
whole_run start budget n NoMemory printed follows written memory untampered unspent = absurd (memory refl)

-- The budget ends a run exactly where it is used up by a program that goes on.
pub out_of_steps_run : (start : Machine) (budget n : ℕ) (ending : Ending) (printed : List ℕ) → Follows start budget n ending printed → (ending ≡ WriteFault → n < budget) → ending ≢ NoMemory → ((place : Place) → ending ≢ Tampered place) → ((page : ℕ) → ending ≢ Spent page) → (ending ≡ OutOfSteps) ↔ ((n ≡ budget) × ((plain start budget).exit ≡ None))
out_of_steps_run start budget n (Halted code) printed follows early memory untampered unspent =
    (λ same. cc, λ used. let exit = ap (λ (m : ℕ). (plain start m).exit) used.0 in cc (follows.ends.0, exit, used.1))
out_of_steps_run start budget n (Trapped cause pc) printed follows early memory untampered unspent =
    (λ same. cc, λ used. absurd (omega (arith, follows.ends.0, used.0)))
out_of_steps_run start budget n OutOfSteps printed follows early memory untampered unspent =
    (λ same. (follows.ends.0, ap (λ (m : ℕ). (plain start m).exit) (sym follows.ends.0) ∙ follows.ends.1), λ used. refl)
out_of_steps_run start budget n (Tampered place) printed follows early memory untampered unspent = absurd (untampered place refl)
out_of_steps_run start budget n (Spent page) printed follows early memory untampered unspent = absurd (unspent page refl)
out_of_steps_run start budget n WriteFault printed follows early memory untampered unspent =
    (λ same. cc, λ used. let below = early refl in absurd (omega (arith, below, used.0)))
out_of_steps_run start budget n NoMemory printed follows early memory untampered unspent = absurd (memory refl)
