-- What the services make of a state.
use Rattle.std.proofs.Common.{◌≡◌, ◌≢◌, ◌+◌, ◌-◌, ℕ, Bool, true, false, List, [], length, take, drop, refl, sym, ◌∙◌, ap, inr, subst, arith, Result, Ok, ne_eqb}
use Rattle.std.proofs.lemmas.List.{length-take, take_min}
use Rattle.rv32_core.specs.declared.step.Step.{Step}
use Rattle.rv32_core.specs.declared.step.Step.TheVariants.{Halted, Retired}
use Rattle.rv32_core.specs.declared.step.StepStop.{StepStop}
use Rattle.rv32_core.specs.State.{State, CoreView, next_core, next_core_with, with_bytes}
use Rattle.rv32_core.specs.After.{After, only_state}
use Rattle.rv32_core.specs.Services.{service, brk_service, exit_service, read_service, write_service, after_input, with_answer, next_input, is_output, is_inside, a0, a1, a2, a7}
use Rattle.rv32_core.specs.TouchedLines.{AreTouched, byte_lines, service_lines, read_lines, write_lines}
use Rattle.rv32_core.specs.Outcome.{IsOutcome, IsHalfDone, input_taken}

-- The service that a number names

pub service_of_read : (state : State) → a7 state ≡ 63 → service state ≡ read_service state
unfolding service
service_of_read state number = rw number refl

service_of_brk : (state : State) → a7 state ≡ 214 → service state ≡ brk_service state
unfolding service
service_of_brk state number = rw number refl

service_of_exit : (state : State) → a7 state ≡ 93 → service state ≡ exit_service state
unfolding service
service_of_exit state number = rw number refl

pub service_of_other : (state : State) → a7 state ≢ 63 → a7 state ≢ 64 → a7 state ≢ 93 → a7 state ≢ 214 →
    service state ≡ only_state (with_answer state 4294967258)
unfolding service
service_of_other state read write exit brk =
    rw (ne_eqb _ _ read, ne_eqb _ _ write, ne_eqb _ _ exit, ne_eqb _ _ brk) refl

pub lines_of_write_service : (state : State) → a7 state ≡ 64 → service_lines state ≡ write_lines state
lines_of_write_service state number = rw number refl

pub lines_of_read_service : (state : State) → a7 state ≡ 63 → service_lines state ≡ read_lines state
lines_of_read_service state number = rw number refl

-- Refusals

pub write_elsewhere : (state : State) → is_output (a0 state) ≡ false → write_service state ≡ only_state (with_answer state 4294967287)
write_elsewhere state elsewhere = rw elsewhere refl

pub write_outside : (state : State) → is_output (a0 state) ≡ true → is_inside (a1 state) (a2 state) (length state.memory) ≡ false →
    write_service state ≡ only_state (with_answer state 4294967282)
write_outside state output outside = rw (output, outside) refl

-- the range of a1 and a2, as it was tested
pub inside_as : (state : State) (from count size : ℕ) (answer : Bool) → from ≡ a1 state → count ≡ a2 state → size ≡ length state.memory → is_inside from count size ≡ answer →
    is_inside (a1 state) (a2 state) (length state.memory) ≡ answer
inside_as state from count size answer e f s h = rw (sym e, sym f, sym s) h

-- An answer in a0 and nothing else
pub answer_outcome : (after : After) (result : Result Step StepStop) (state : State) (core : CoreView) (value : ℕ) → result ≡ Ok Retired → core ≡ next_core_with state.core 10 value → after ≡ only_state (with_answer state value) →
    IsOutcome (Ok after) result state (record { core = core; calls = state.calls; memory = state.memory }) []
answer_outcome after result state core value retired is made =
    rw retired (ap (λ (a : After). Ok a) made ∙ ap (λ (h : CoreView). Ok (only_state (record { core = h; calls = state.calls; memory = state.memory }))) (sym is))

-- What one of the services does
pub read_outcome : (result : Result Step StepStop) (old new : State) → a7 old ≡ 63 → IsOutcome (Ok (read_service old)) result old new [] → IsOutcome (Ok (service old)) result old new []
read_outcome result old new number done = subst (λ (a : After). IsOutcome (Ok a) result old new []) (sym (service_of_read old number)) done

pub brk_outcome : (result : Result Step StepStop) (old new : State) → a7 old ≡ 214 → IsOutcome (Ok (brk_service old)) result old new [] → IsOutcome (Ok (service old)) result old new []
brk_outcome result old new number done = subst (λ (a : After). IsOutcome (Ok a) result old new []) (sym (service_of_brk old number)) done

pub exit_outcome : (result : Result Step StepStop) (old : State) (core : CoreView) → a7 old ≡ 93 → result ≡ Ok (Halted (a0 old)) → core ≡ next_core old.core →
    IsOutcome (Ok (service old)) result old (record { core = core; calls = old.calls; memory = old.memory }) []
exit_outcome result old core number halted is =
    subst (λ (a : After). IsOutcome (Ok a) result old (record { core = core; calls = old.calls; memory = old.memory }) []) (sym (service_of_exit old number))
    (rw (halted, is) refl)

-- Reading

read_inside : (state : State) → a0 state ≡ 0 → is_inside (a1 state) (a2 state) (length state.memory) ≡ true →
    read_service state ≡ after_input state (next_input state.calls (a2 state))
read_inside state input inside = rw (input, inside) refl

taken_again : (count : ℕ) (input : List ℕ) → take (length (take count input)) input ≡ take count input
taken_again count input = ap (λ (n : ℕ). take n input) (length-take count input) ∙ take_min count input

-- a stop left a part of it stored
pub read_in_part : (state : State) (memory bytes : List ℕ) (from count : ℕ) → from ≡ a1 state → a0 state ≡ 0 → is_inside (a1 state) (a2 state) (length state.memory) ≡ true → bytes ≡ next_input state.calls (a2 state) → memory ≡ with_bytes state.memory from (take count bytes) →
    IsHalfDone (Ok (read_service state)) state memory
read_in_part state memory bytes from count at input inside is stored =
    let next = next_input state.calls (a2 state) in
    let position = state.calls.position in
    let some : position + length next - position ≡ length next = omega arith in
    let taken : input_taken state.calls (after_input state next).state.calls ≡ next =
    ap (λ (n : ℕ). next_input state.calls n) some ∙ taken_again (a2 state) (drop position state.calls.input) in
    let part : memory ≡ with_bytes state.memory (a1 state) (take count (input_taken state.calls (after_input state next).state.calls)) =
    stored ∙ ap (λ (n : ℕ). with_bytes state.memory n (take count bytes)) at
    ∙ ap (λ (xs : List ℕ). with_bytes state.memory (a1 state) (take count xs)) (is ∙ sym taken) in
    subst (λ (a : After). IsHalfDone (Ok a) state memory) (sym (read_inside state input inside)) (inr (inr (count, part)))

-- What a service touches

pub lines_of_write : {A E : Type 0} → (result : Result A E) (lines : List ℕ) (state : State) (from count : ℕ) → from ≡ a1 state → count ≡ a2 state → is_output (a0 state) ≡ true → is_inside (a1 state) (a2 state) (length state.memory) ≡ true → AreTouched result (byte_lines from count) lines → AreTouched result (write_lines state) lines
lines_of_write result lines state from count e f output inside got = rw (output, inside) (rw (e, f) at got)

pub lines_of_read : {A E : Type 0} → (result : Result A E) (lines : List ℕ) (state : State) (from : ℕ) (bytes : List ℕ) → from ≡ a1 state → bytes ≡ next_input state.calls (a2 state) → a0 state ≡ 0 → is_inside (a1 state) (a2 state) (length state.memory) ≡ true → AreTouched result (byte_lines from (length bytes)) lines → AreTouched result (read_lines state) lines
lines_of_read result lines state from bytes e is input inside got = rw (input, inside) (rw (e, is) at got)

-- a refusal touches nothing
pub no_write_elsewhere : (state : State) → is_output (a0 state) ≡ false → write_lines state ≡ []
no_write_elsewhere state elsewhere = rw elsewhere refl

pub no_write_outside : (state : State) → is_output (a0 state) ≡ true → is_inside (a1 state) (a2 state) (length state.memory) ≡ false → write_lines state ≡ []
no_write_outside state output outside = rw (output, outside) refl

pub no_read_elsewhere : (state : State) → a0 state ≢ 0 → read_lines state ≡ []
no_read_elsewhere state elsewhere = rw (ne_eqb _ _ elsewhere) refl

pub no_read_outside : (state : State) → a0 state ≡ 0 → is_inside (a1 state) (a2 state) (length state.memory) ≡ false → read_lines state ≡ []
no_read_outside state input outside = rw (input, outside) refl

pub no_other_lines : (state : State) → a7 state ≢ 63 → a7 state ≢ 64 → service_lines state ≡ []
no_other_lines state read write = rw (ne_eqb _ _ read, ne_eqb _ _ write) refl
