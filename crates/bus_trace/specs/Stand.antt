-- Where the plain machine stands after so many instructions. Contracts of private calls alone cite it.
use Rattle.std.specs.Prelude.{◌≢◌, ℕ, List}
use Rattle.sec_base.specs.declared.ending.Ending.TheVariants.{WriteFault}
use Rattle.rv32_core.specs.Follows.{IsWhole}
use Rattle.rv32_core.specs.Machine.{Machine, plain}
use Rattle.bus_trace.specs.declared.judging.Stand.{Stand}
use Rattle.bus_trace.specs.Comparison.{IsPrinted}

-- a run of this budget goes as the plain machine does, unless it stopped at what it printed; and what that machine prints
-- compares so with what is expected
pub record IsStand (start : Machine) (budget : ℕ) (expected : List ℕ) (stand : Stand) : Type 0 where
  pub run : stand.run.ending ≢ WriteFault → IsWhole start budget stand.run.retired stand.run.ending
  pub printed : IsPrinted expected (plain start budget).output stand.printed
