-- The verdict on a trace: its lie, what the plain machine allows, and the first difference.
use Rattle.std.specs.Prelude.{◌≡◌, ◌≢◌, ◌==◌, ℕ, ◌+◌, ◌≤◌, length, Some, None, Bool, ◌||◌, IsTrue}
use Rattle.sec_base.specs.Prefix.{IsPrefix}
use Rattle.sec_base.specs.declared.ending.Ending.{Ending}
use Rattle.rv32_core.specs.Follows.{EndsAs}
use Rattle.rv32_core.specs.Machine.{Machine, plain}
use Rattle.attest_report.specs.ToldEnding.{ending_and_code}
use Rattle.bus_trace.specs.declared.trace.Trace.{Trace}
use Rattle.bus_trace.specs.declared.verdict.Difference.{Difference}
use Rattle.bus_trace.specs.declared.verdict.Difference.TheVariants.{Lie, Retired, Output, Ending as ending_differs}
use Rattle.bus_trace.specs.declared.verdict.Verdict.{Verdict}
use Rattle.bus_trace.specs.declared.verdict.Verdict.TheVariants.{Follows, No, NoMemory}
use Rattle.bus_trace.specs.FirstFalse.{first_false}

-- the entry of this number is the first false one, and isn't the last one of a run that ended as tampered
pub record IsLie (trace : Trace) (number : ℕ) : Type 0 where
  pub first : first_false trace.entries ≡ Some number
  pub passed : number ≡ length trace.entries → trace.ending ≢ 5

-- no entry is such a lie
abbrev pub IsWithoutLie : Trace → Type 0
IsWithoutLie trace = (number : ℕ) → ¬ IsLie trace number

-- the plain machine retires as many instructions, within the budget
pub record CanRetire (start : Machine) (budget : ℕ) (trace : Trace) : Type 0 where
  pub within : trace.retired ≤ budget
  pub count : (plain start trace.retired).retired ≡ trace.retired

-- a run that ended as tampered or spent was stopped at an instruction, and may have printed a part of what that prints
abbrev pub is_stopped : ℕ → Bool
is_stopped ending = (ending == 5) || (ending == 6)

-- what a run prints that retired so many instructions
pub record CanPrint (start : Machine) (trace : Trace) : Type 0 where
  pub began : IsPrefix (plain start trace.retired).output trace.output
  pub ahead : IsPrefix trace.output (plain start (trace.retired + 1)).output
  pub whole : ¬ IsTrue (is_stopped trace.ending) → trace.output ≡ (plain start trace.retired).output

-- an ending that reports tell by this number and this code, so that of a trap the pc may be any, and that a run has here;
-- one that ended as tampered had a false entry
pub record CanEnd (start : Machine) (budget : ℕ) (trace : Trace) : Type 0 where
  pub ending : Ending
  pub told : ending_and_code ending ≡ Some (trace.ending, trace.code)
  pub ends : EndsAs ending (plain start trace.retired) trace.retired budget (plain start trace.retired).output
  pub caught : trace.ending ≡ 5 → first_false trace.entries ≢ None

-- the first difference of a trace
abbrev pub IsDifference : Machine → ℕ → Trace → Difference → Type 0
IsDifference start budget trace (Lie number) = IsLie trace number
IsDifference start budget trace Retired = IsWithoutLie trace × ¬ CanRetire start budget trace
IsDifference start budget trace Output = IsWithoutLie trace × CanRetire start budget trace × ¬ CanPrint start trace
IsDifference start budget trace ending_differs =
    IsWithoutLie trace × CanRetire start budget trace × CanPrint start trace × ¬ CanEnd start budget trace

-- the verdict on a trace, for the program that starts so and this budget; it may be wanting memory at any trace
abbrev pub IsVerdict : Machine → ℕ → Trace → Verdict → Type 0
IsVerdict start budget trace Follows =
    IsWithoutLie trace × CanRetire start budget trace × CanPrint start trace × CanEnd start budget trace
IsVerdict start budget trace (No difference) = IsDifference start budget trace difference
IsVerdict start budget trace NoMemory = Unit {0}
