-- A run follows the plain machine.
use Rattle.std.specs.Prelude.{◌≡◌, ◌<◌, ◌≤◌, ℕ, ◌+◌, List, Option, Some, None, Result, Ok, Err, nat_lt, if◌then◌else◌}
use Rattle.sec_base.specs.Prefix.{IsPrefix}
use Rattle.sec_base.specs.declared.ending.Cause.{Cause}
use Rattle.sec_base.specs.declared.ending.Ending.{Ending}
use Rattle.sec_base.specs.declared.ending.Ending.TheVariants.{Halted, Trapped, OutOfSteps}
use Rattle.rv32_core.specs.After.{After}
use Rattle.rv32_core.specs.Effect.{next}
use Rattle.rv32_core.specs.Machine.{Machine, plain}

-- the machine's next instruction traps so
pub record Traps (machine : Machine) (cause : Cause) (pc : ℕ) : Type 0 where
  pub going : machine.exit ≡ None
  pub trap : next machine.state ≡ Err cause
  pub at : machine.state.core.pc ≡ pc

-- what an ending says of the machine at which it came
abbrev pub EndsAs : Ending → Machine → ℕ → ℕ → List ℕ → Type 0
EndsAs (Halted code) machine retired budget printed = (machine.exit ≡ Some code) × (printed ≡ machine.output)
EndsAs (Trapped cause pc) machine retired budget printed =
    (retired < budget) × Traps machine cause pc × (printed ≡ machine.output)
EndsAs OutOfSteps machine retired budget printed =
    (retired ≡ budget) × (machine.exit ≡ None) × (printed ≡ machine.output)
EndsAs _ machine retired budget printed = machine.exit ≡ None

-- A run of a budget that retired so many instructions and printed these bytes is the plain machine's so far.
pub record Follows (start : Machine) (budget retired : ℕ) (ending : Ending) (printed : List ℕ) : Type 0 where
  pub count : (plain start retired).retired ≡ retired
  pub within : retired ≤ budget
  pub began : IsPrefix (plain start retired).output printed
  pub ahead : IsPrefix printed (plain start (retired + 1)).output
  pub ends : EndsAs ending (plain start retired) retired budget printed

-- how a machine ends that did all instructions of the budget that it can
abbrev pub ending_by : Option ℕ → Result After Cause → Machine → ℕ → Ending
ending_by (Some code) result machine budget = Halted code
ending_by None (Err cause) machine budget =
    if nat_lt machine.retired budget then Trapped cause machine.state.core.pc else OutOfSteps
ending_by None (Ok after) machine budget = OutOfSteps

-- How a run that came as far as this machine ends under the budget.
abbrev pub ending_at : Machine → ℕ → Ending
ending_at machine budget = ending_by machine.exit (next machine.state) machine budget

-- A run that ended so is the plain machine's over the whole budget.
pub record IsWhole (start : Machine) (budget retired : ℕ) (ending : Ending) : Type 0 where
  pub ending_is : ending ≡ ending_at (plain start budget) budget
  pub retired_is : retired ≡ (plain start budget).retired
