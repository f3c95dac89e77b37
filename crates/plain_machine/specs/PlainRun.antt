-- What a run on the plain machine comes to.
use Rattle.std.specs.Prelude.{◌≡◌, ◌≢◌, ◌+◌, ◌<◌, ◌≤◌, ◌↔◌, ◌⊎◌, List, ℕ, length, None}
use Rattle.sec_base.specs.Count.{Rose}
use Rattle.sec_base.specs.Sink.{SinkState}
use Rattle.sec_base.specs.declared.place.Place.{Place}
use Rattle.sec_base.specs.declared.ending.Ending.TheVariants.{OutOfSteps, Tampered, Spent, WriteFault, NoMemory}
use Rattle.rv32_core.specs.Effect.{next}
use Rattle.rv32_core.specs.Follows.{Follows, IsWhole}
use Rattle.rv32_core.specs.Machine.{Machine, plain}
use Rattle.rv32_core.specs.Outcome.{prints_of}
use Rattle.rv32_run.specs.Execution.{IsMemoryEnding, IsStop}
use Rattle.rv32_run.specs.Progress.{SinkEnds}
use Rattle.plain_machine.specs.declared.PlainRecord.{PlainRecord}

-- A run within a budget printed some bytes to the sink, and follows the plain machine.
pub record RunsPlain (start : Machine) (budget : ℕ) (out out' : SinkState) (run : PlainRecord) : Type 0 where
  pub printed : List ℕ
  pub sink : SinkEnds out printed run.ending out'
  pub follows : Follows start budget run.retired run.ending printed
  -- where the sink had no fault, it is the plain machine's run over the whole budget, or it ended out of memory
  pub whole : ¬ (Rose out.faults out'.faults) → run.ending ≢ NoMemory → IsWhole start budget run.retired run.ending
  -- the budget ends it exactly where it is used up by a program that goes on
  pub out_of_steps : ¬ IsMemoryEnding run.ending → ((run.ending ≡ OutOfSteps)
      ↔ ((run.retired ≡ budget) × ((plain start budget).exit ≡ None)))
  pub budget_used : run.ending ≡ OutOfSteps → run.retired ≡ budget
  pub within : run.retired ≤ budget
  -- the sink and being out of memory end it only where the budget allows one more instruction, or none at all
  pub early : IsStop run.ending → 0 < budget → run.retired < budget
  -- a write fault comes before all was printed that the next instruction prints
  pub cut_short : run.ending ≡ WriteFault → length printed < length (plain start (run.retired + 1)).output
  -- it is out of memory before the first instruction, or where the sink is at one that prints
  pub no_memory : run.ending ≡ NoMemory →
      (run.retired ≡ 0) ⊎ (0 < length (prints_of (next (plain start run.retired).state)))
  -- no memory outside is there to be false or to be used up
  pub untampered : (place : Place) → run.ending ≢ Tampered place
  pub unspent : (page : ℕ) → run.ending ≢ Spent page
