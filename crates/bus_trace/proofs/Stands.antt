-- Where the plain machine stands after so many instructions: what it printed by then, and how a run of that budget ends.
use Rattle.std.proofs.Common.{◌≡◌, ◌≢◌, ◌<◌, ◌≤◌, ◌⊎◌, ℕ, zero, suc, ◌+◌, ◌-◌, List, [], ◌∷◌, ◌++◌, length, Option, Some, None, Result, Ok, Err, refl, sym, ap, subst, ◌∙◌, arith, add-zero, inl, inr}
use Rattle.std.specs.Prelude.{IsTrue}
use Rattle.std.proofs.lemmas.Bool.{cond_below, cond_above}
use Rattle.std.proofs.lemmas.List.{append-nil}
use Rattle.sec_base.specs.Prefix.{IsPrefix}
use Rattle.sec_base.specs.declared.ending.Cause.{Cause}
use Rattle.sec_base.specs.declared.ending.Ending.{Ending}
use Rattle.sec_base.specs.declared.ending.Ending.TheVariants.{Halted, Trapped, OutOfSteps, Tampered, Spent, WriteFault, NoMemory}
use Rattle.sec_base.specs.declared.place.Place.{Place}
use Rattle.rv32_core.specs.After.{After}
use Rattle.rv32_core.specs.Effect.{next}
use Rattle.rv32_core.specs.Follows.{Follows, IsWhole, Traps, ending_at, ending_by}
use Rattle.rv32_core.specs.Machine.{Machine, after_exit, one_more, plain}
use Rattle.rv32_core.specs.Outcome.{prints_of}
use Rattle.rv32_core.proofs.Plain.{one_more_done, one_more_ended, one_more_output, plain_ended, plain_more, plain_trapped}
use Rattle.rv32_core.proofs.TouchedLines.{prefix_prefix}
use Rattle.plain_machine.specs.PlainRun.{RunsPlain}
use Rattle.plain_machine.specs.declared.PlainRecord.{PlainRecord}
use Rattle.bus_trace.specs.declared.comparison.Printed.{Printed}
use Rattle.bus_trace.specs.Comparison.{IsPrinted}
use Rattle.bus_trace.proofs.Comparing.{compares_on, told_same}

-- What was printed before is a front part of what was printed by then.

one_output : (exit : Option ℕ) (machine : Machine) → machine.exit ≡ exit → IsPrefix machine.output (one_more machine).output
one_output None machine going = (prints_of (next machine.state), one_more_output machine going)
one_output (Some code) machine ended =
    ([], ap (λ (m : Machine). m.output) (one_more_ended machine code ended) ∙ sym (append-nil machine.output))

output_behind : (start : Machine) (n k : ℕ) → IsPrefix (plain start n).output (plain start (n + k)).output
output_behind start n zero = ([], ap (λ (m : ℕ). (plain start m).output) (add-zero n) ∙ sym (append-nil (plain start n).output))
output_behind start n (suc k) =
    let further : n + suc k ≡ n + k + 1 = omega arith in
    let one : IsPrefix (plain start (n + k)).output (one_more (plain start (n + k))).output = one_output (plain start (n + k)).exit (plain start (n + k)) refl in
    prefix_prefix (plain start n).output (plain start (n + k)).output (plain start (n + suc k)).output (output_behind start n k)
    (subst (λ (m : Machine). IsPrefix (plain start (n + k)).output m.output) (sym (ap (plain start) further ∙ plain_more start (n + k))) one)

pub output_by : (start : Machine) (n m : ℕ) → n ≤ m → IsPrefix (plain start n).output (plain start m).output
output_by start n m h =
    let further : n + (m - n) ≡ m = omega arith in
    subst (λ (k : ℕ). IsPrefix (plain start n).output (plain start k).output) further (output_behind start n (m - n))

-- A run that neither the sink nor the memory stopped printed all that the plain machine prints.
all_printed : (start : Machine) (budget n : ℕ) (ending : Ending) (printed : List ℕ) → Follows start budget n ending printed → ending ≢ WriteFault → ending ≢ NoMemory →
    ((place : Place) → ending ≢ Tampered place) → ((page : ℕ) → ending ≢ Spent page) → printed ≡ (plain start budget).output
all_printed start budget n (Halted code) printed follows written memory untampered unspent =
    follows.ends.1 ∙ ap (λ (m : Machine). m.output) (sym (plain_ended start n budget code follows.within follows.ends.0))
all_printed start budget n (Trapped cause pc) printed follows written memory untampered unspent =
    follows.ends.2 ∙ ap (λ (m : Machine). m.output) (sym (plain_trapped start n budget cause follows.within follows.ends.1.going follows.ends.1.trap))
all_printed start budget n OutOfSteps printed follows written memory untampered unspent =
    follows.ends.2 ∙ ap (λ (m : ℕ). (plain start m).output) follows.ends.0
all_printed start budget n (Tampered place) printed follows written memory untampered unspent = absurd (untampered place refl)
all_printed start budget n (Spent page) printed follows written memory untampered unspent = absurd (unspent page refl)
all_printed start budget n WriteFault printed follows written memory untampered unspent = absurd (written refl)
all_printed start budget n NoMemory printed follows written memory untampered unspent = absurd (memory refl)

module _ (start : Machine) (budget : ℕ) (run : PlainRecord) (expected expected' taken : List ℕ) (tests : Printed) (faults : ℕ)
    (runs : RunsPlain start budget (record { written = Some (length expected ∷ (expected ++ [])); faults = 0 })
    (record { written = Some (length expected' ∷ (expected' ++ taken)); faults = faults }) run)
    (tested : IsPrinted expected' taken tests) where
  printed_is : runs.printed ≡ taken
  printed_is = (told_same expected expected' taken runs.printed runs.sink.gained).1

  tested_taken : IsPrinted expected taken tests
  tested_taken = subst (λ (xs : List ℕ). IsPrinted xs taken tests) (told_same expected expected' taken runs.printed runs.sink.gained).0 tested

  -- where no write failed
  pub stood : run.ending ≢ WriteFault → run.ending ≢ NoMemory → IsWhole start budget run.retired run.ending × IsPrinted expected (plain start budget).output tests
  stood written memory =
      let quiet : faults ≡ 0 = runs.sink.quiet written in (
        runs.whole (λ rose. absurd (omega (arith, quiet, rose))) memory,
        subst (λ (xs : List ℕ). IsPrinted expected xs tests)
            (sym printed_is ∙ all_printed start budget run.retired run.ending runs.printed runs.follows written memory runs.untampered runs.unspent) tested_taken,
      )

  -- where one failed, before the last instruction
  pub went_on : run.ending ≡ WriteFault → run.retired < budget → (0 < faults → ¬ IsTrue tests.front) → IsPrinted expected (plain start budget).output tests
  went_on fault below failed =
      let rose = runs.sink.write_fault fault in
      let front : IsPrefix runs.printed (plain start budget).output =
      prefix_prefix runs.printed (plain start (run.retired + 1)).output (plain start budget).output runs.follows.ahead
      (output_by start (run.retired + 1) budget (omega (arith, below))) in
      compares_on expected taken (plain start budget).output tests (λ p. failed (omega (arith, rose)) (tested_taken.front.1 p))
      (subst (λ (xs : List ℕ). IsPrefix xs (plain start budget).output) printed_is front) tested_taken

-- The ending of a run whose budget was used up

by_exit : (exit : Option ℕ) (result : Result After Cause) (machine : Machine) (budget : ℕ) (ending : Ending) → budget ≤ machine.retired → ending ≡ ending_by exit result machine budget →
    ((code : ℕ) × (exit ≡ Some code) × (ending ≡ Halted code)) ⊎ ((exit ≡ None) × (ending ≡ OutOfSteps))
by_exit (Some code) result machine budget ending h is = inl (code, refl, is)
by_exit None (Ok after) machine budget ending h is = inr (refl, is)
by_exit None (Err cause) machine budget ending h is =
    inr (refl, is ∙ sym (cond_above machine.retired budget (Trapped cause machine.state.core.pc) OutOfSteps OutOfSteps h refl))

pub exit_or_none : (machine : Machine) (budget : ℕ) (ending : Ending) → budget ≤ machine.retired → ending ≡ ending_at machine budget →
    ((code : ℕ) × (machine.exit ≡ Some code) × (ending ≡ Halted code)) ⊎ ((machine.exit ≡ None) × (ending ≡ OutOfSteps))
exit_or_none machine budget ending h is = by_exit machine.exit (next machine.state) machine budget ending h is

-- of one whose next instruction traps
pub trapped_next : (start : Machine) (n retired : ℕ) (ending : Ending) (cause : Cause) (pc : ℕ) → (plain start n).retired ≡ n → IsWhole start (n + 1) retired ending →
    Traps (plain start n) cause pc → ending ≡ Trapped cause pc
trapped_next start n retired ending cause pc count whole traps =
    let still : plain start (n + 1) ≡ plain start n = plain_trapped start n (n + 1) cause (omega arith) traps.going traps.trap in
    whole.ending_is
    ∙ ap (λ (m : Machine). ending_at m (n + 1)) still
    ∙ ap (λ (exit : Option ℕ). ending_by exit (next (plain start n).state) (plain start n) (n + 1)) traps.going
    ∙ ap (λ (result : Result After Cause). ending_by None result (plain start n) (n + 1)) traps.trap
    ∙ sym (cond_below (plain start n).retired (n + 1) (Trapped cause (plain start n).state.core.pc) OutOfSteps (omega (arith, count)))
    ∙ ap (Trapped cause) traps.at

not_trapped : (machine : Machine) (budget : ℕ) (ending : Ending) (cause : Cause) (pc : ℕ) → budget ≤ machine.retired → ending ≡ ending_at machine budget → ending ≡ Trapped cause pc → ⊥
not_trapped machine budget ending cause pc h is e =
    elim (exit_or_none machine budget ending h is) [ inl halted ↦ let no = halted.2 in absurd (cc (no, e)) | inr steps ↦ let no = steps.1 in absurd (cc (no, e)) ]

done_retired : (exit : Option ℕ) (after : After) (machine : Machine) → (after_exit exit after machine).retired ≡ machine.retired + 1
done_retired None after machine = refl
done_retired (Some code) after machine = refl

traps_by : (start : Machine) (n retired : ℕ) (ending : Ending) (cause : Cause) (pc : ℕ) (exit : Option ℕ) (result : Result After Cause) → (plain start n).retired ≡ n →
    IsWhole start (n + 1) retired ending → ending ≡ Trapped cause pc → (plain start n).exit ≡ exit → next (plain start n).state ≡ result → Traps (plain start n) cause pc
traps_by start n retired ending cause pc (Some code) result count whole is ended e =
    let still : plain start (n + 1) ≡ plain start n = plain_ended start n (n + 1) code (omega arith) ended in
    let halted : ending ≡ Halted code =
    whole.ending_is ∙ ap (λ (m : Machine). ending_at m (n + 1)) still
    ∙ ap (λ (x : Option ℕ). ending_by x (next (plain start n).state) (plain start n) (n + 1)) ended in absurd (cc (halted, is))
traps_by start n retired ending cause pc None (Err other) count whole is going e =
    let trapped = trapped_next start n retired ending other (plain start n).state.core.pc count whole (record { going = going; trap = e; at = refl }) in
    let same : other ≡ cause = cc (trapped, is) in
    let at : (plain start n).state.core.pc ≡ pc = cc (trapped, is) in
    record { going = going; trap = e ∙ ap (λ (c : Cause). Err c) same; at = at }
traps_by start n retired ending cause pc None (Ok after) count whole is going e =
    let more : plain start (n + 1) ≡ after_exit after.exit after (plain start n) = plain_more start n ∙ one_more_done (plain start n) after going e in
    let one : (plain start (n + 1)).retired ≡ n + 1 = ap (λ (m : Machine). m.retired) more ∙ done_retired after.exit after (plain start n) ∙ ap (λ (k : ℕ). k + 1) count in
    absurd (not_trapped (plain start (n + 1)) (n + 1) ending cause pc (omega (arith, one)) whole.ending_is is)

pub next_traps : (start : Machine) (n retired : ℕ) (ending : Ending) (cause : Cause) (pc : ℕ) → (plain start n).retired ≡ n → IsWhole start (n + 1) retired ending →
    ending ≡ Trapped cause pc → Traps (plain start n) cause pc
next_traps start n retired ending cause pc count whole is =
    traps_by start n retired ending cause pc (plain start n).exit (next (plain start n).state) count whole is refl refl
