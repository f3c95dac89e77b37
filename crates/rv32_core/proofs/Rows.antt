-- Rows of the instruction table that print nothing.
use Rattle.std.proofs.Common.{◌≡◌, ◌⊎◌, ℕ, List, [], refl, Result, Ok, nat_lt, nat_le, not, inl, inr, lt-ltb, le-ltb}
use Rattle.std.proofs.lemmas.Bool.{cases_lt, le-leb, lt-leb}
use Rattle.sec_base.specs.declared.ending.Cause.{Cause}
use Rattle.sec_base.specs.Sink.{SinkState}
use Rattle.rv32_decode.specs.declared.Inst.{Inst}
use Rattle.rv32_decode.specs.declared.Op.{Op}
use Rattle.rv32_decode.specs.declared.Op.TheVariants.{Fence, FenceI}
use Rattle.rv32_core.specs.declared.step.Step.{Step}
use Rattle.rv32_core.specs.declared.step.Step.TheVariants.{Retired}
use Rattle.rv32_core.specs.declared.step.StepStop.{StepStop}
use Rattle.rv32_core.specs.State.{State, CoreView, next_core, next_core_with, next_state_with, with_core}
use Rattle.rv32_core.specs.After.{After, only_state}
use Rattle.rv32_core.specs.Effect.{effect}
use Rattle.rv32_core.specs.Outcome.{IsOutcome}
use Rattle.rv32_core.specs.Printing.{Prints}
use Rattle.rv32_core.specs.declared.taken.Taken.{Taken}
use Rattle.rv32_core.proofs.Printed.{prints_nothing}

-- what holds under a premise, with nothing printed
abbrev pub IsQuiet : Type 0 → SinkState → Taken → Result After Cause → Result Step StepStop → State → State → Type 0
IsQuiet Reliable sink taken instruction result old new =
    (printed : List ℕ) × Prints sink taken printed sink taken × (Reliable → IsOutcome instruction result old new printed)

-- a computation
pub computed : {Reliable : Type 0} (sink : SinkState) (taken : Taken) (instruction : Result After Cause) (result : Result Step StepStop) (state : State) (core : CoreView) (number value : ℕ) →
    result ≡ Ok Retired → core ≡ next_core_with state.core number value → instruction ≡ Ok (only_state (next_state_with state number value)) →
    IsQuiet Reliable sink taken instruction result state (with_core state core)
computed sink taken instruction result state core number value retired is made = (
  [],
  prints_nothing sink taken,
  λ reliable. rw (retired, is) made,
)

-- a fence, which does nothing
pub passed : {Reliable : Type 0} (sink : SinkState) (taken : Taken) (op : Op) (inst : Inst) (state : State) (core : CoreView) → (op ≡ Fence) ⊎ (op ≡ FenceI) → core ≡ next_core state.core →
    IsQuiet Reliable sink taken (effect op inst state) (Ok Retired) state (with_core state core)
passed sink taken op inst state core is next = (
  [],
  prints_nothing sink taken,
  λ reliable. elim is [
    | inl fence ↦ rw (fence, next) refl
    | inr fence ↦ rw (fence, next) refl
  ],
)

-- not below
pub not_below : (a b : ℕ) → nat_le b a ≡ not (nat_lt a b)
not_below a b =
    elim (cases_lt a b) [
      | inl less ↦ rw (lt-ltb a b less, lt-leb b a less) refl
      | inr more ↦ rw (le-ltb a b more, le-leb b a more) refl
    ]
