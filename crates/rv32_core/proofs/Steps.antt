-- What a fetch and a decoded word make of a step.
use Rattle.std.proofs.Common.{inl, ◌≡◌, ◌↔◌, ◌+◌, ◌<◌, ◌≤◌, arith, ℕ, List, [], length, refl, sym, ◌∙◌, ap, subst, Option, None, Some, Result, Ok, Err, lt-ltb, le-ltb}
use Rattle.sec_base.specs.declared.ending.Cause.{Cause}
use Rattle.sec_base.specs.declared.ending.Cause.TheVariants.{Illegal}
use Rattle.rv32_decode.specs.declared.Inst.{Inst}
use Rattle.rv32_decode.specs.Decoding.{instruction_of}
use Rattle.rv32_core.specs.declared.step.Step.{Step}
use Rattle.rv32_core.specs.declared.step.StepStop.{StepStop}
use Rattle.rv32_core.specs.declared.step.StepStop.TheVariants.{Trap, Mem, WriteFault}
use Rattle.rv32_core.specs.State.{State, CoreView, ServicesView}
use Rattle.rv32_core.specs.After.{After}
use Rattle.rv32_core.specs.Effect.{next, effect, fetched_word}
use Rattle.rv32_core.specs.Fetch.{IsFetched, StopsFetch}
use Rattle.sec_base.specs.declared.stop.MemStop.{MemStop}
use Rattle.rv32_core.specs.Outcome.{IsOutcome, IsHalfDone, IsSinkStop, prints_of}

-- a memory that is as it was is no more than half done
pub half_done_same : (next : Result After Cause) (old : State) (new : List ℕ) → new ≡ old.memory → IsHalfDone next old new
half_done_same (Ok after) old new same = inl same
half_done_same (Err cause) old new same = same

-- a fetch that stops
pub fetch_stopped : (stop : StepStop) (core : CoreView) (calls : ServicesView) (memory memory' : List ℕ) →
    IsFetched memory core.pc (Err stop) → memory' ≡ memory →
    IsOutcome (next (record { core = core; calls = calls; memory = memory })) (Err stop) (record { core = core; calls = calls; memory = memory }) (record { core = core; calls = calls; memory = memory' }) []
unfolding next
fetch_stopped (Trap cause) core calls memory memory' h same = (outside, same, refl)
  where
    outside : next (record { core = core; calls = calls; memory = memory }) ≡ Err cause
    outside = rw (lt-ltb _ _ h.0) (ap (λ (x : Cause). Err x) (sym h.1))
fetch_stopped (Mem stop) core calls memory memory' h same =
    let old : State = record { core = core; calls = calls; memory = memory } in
    ((_, refl), half_done_same (next old) old memory' same)
fetch_stopped WriteFault core calls memory memory' h same = absurd h

-- a word that is no instruction
pub illegal : (state : State) (word : ℕ) → state.core.pc + 4 ≤ length state.memory → word ≡ fetched_word state → instruction_of word ≡ None → next state ≡ Err Illegal
unfolding next
illegal state word inside is none =
    let found : instruction_of (fetched_word state) ≡ None = ap instruction_of (sym is) ∙ none in
    rw (le-ltb _ _ inside, found) refl

-- a word that is an instruction
pub found : (state : State) (word : ℕ) (inst : Inst) → state.core.pc + 4 ≤ length state.memory → word ≡ fetched_word state → instruction_of word ≡ Some inst → next state ≡ effect inst.op inst state
unfolding next
found state word inst inside is row =
    let row' : instruction_of (fetched_word state) ≡ Some inst = ap instruction_of (sym is) ∙ row in
    rw (le-ltb _ _ inside, row') refl

-- an outcome of what an instruction does, under another name
pub outcome_as : (next next' : Result After Cause) (result : Result Step StepStop) (old new : State) (printed : List ℕ) → next ≡ next' → IsOutcome next' result old new printed → IsOutcome next result old new printed
outcome_as next next' result old new printed e h = subst (λ (n : Result After Cause). IsOutcome n result old new printed) (sym e) h

-- a fetch that went well left the memory going
pub going_from_fetch : (stopped : Option MemStop) (word : ℕ) → StopsFetch stopped (Ok word) → stopped ≡ None
going_from_fetch None word h = refl
going_from_fetch (Some stop) word h = cc

-- an instruction that traps prints nothing
nothing_prints : (instruction : Result After Cause) (cause : Cause) → instruction ≡ Err cause → 0 < length (prints_of instruction) → ⊥
nothing_prints instruction cause e some = absurd (omega (arith, subst (λ (r : Result After Cause). 0 < length (prints_of r)) e some))

-- a step traps exactly where the plain machine does
pub traps_as : (instruction : Result After Cause) (result : Result Step StepStop) (old new : State) (printed : List ℕ) (cause : Cause) → IsOutcome instruction result old new printed → IsSinkStop result instruction → (result ≡ Err (Trap cause)) ↔ (instruction ≡ Err cause)
traps_as instruction (Ok step) old new printed cause outcome stop = (λ e. cc, λ e. let is = outcome in cc)
traps_as instruction (Err (Trap other)) old new printed cause outcome stop =
    let is = outcome.0 in (λ e. cc, λ e. cc)
traps_as instruction (Err (Mem why)) old new printed cause outcome stop = (λ e. cc, λ e. absurd (nothing_prints instruction cause e stop))
traps_as instruction (Err WriteFault) old new printed cause outcome stop =
    (λ e. cc, λ e. let cut = outcome.0.1 in absurd (nothing_prints instruction cause e (omega (arith, cut))))
