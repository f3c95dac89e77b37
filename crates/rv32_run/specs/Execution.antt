-- What an execution's turns are, seen from the plain machine.
use Rattle.std.specs.Prelude.{◌≡◌, ◌⊎◌, ◌<◌, ℕ, ◌+◌, List, length, Option, Some, None}
use Rattle.sec_base.specs.Ending.{EndingClass, ByProgram, ByProtection, BySink, ByEmulator, ending_class}
use Rattle.sec_base.specs.declared.ending.Ending.{Ending}
use Rattle.sec_base.specs.declared.ending.Ending.TheVariants.{Halted, OutOfSteps, Tampered, Spent, WriteFault, NoMemory}
use Rattle.sec_base.specs.declared.stop.MemStop.{MemStop}
use Rattle.sec_base.specs.declared.stop.MemStop.TheVariants.{Tampered as tampered, Spent as spent, NoMemory as no_memory}
use Rattle.rv32_core.specs.State.{CoreView, ServicesView}
use Rattle.rv32_core.specs.Machine.{Machine, alone, plain}
use Rattle.rv32_core.specs.Follows.{Follows}

-- after n instructions the plain machine of one hart is in this state, has printed this, and goes on
abbrev pub Reaches : Machine → ℕ → CoreView → ServicesView → List ℕ → List ℕ → Type 0
Reaches start n core calls memory printed = plain start n ≡ record {
  state = record { core = core; calls = calls; memory = memory };
  harts = alone;
  output = printed;
  retired = n;
  exit = None;
}

-- the machine has this processor and these services
abbrev pub StandsAt : Machine → CoreView → ServicesView → Type 0
StandsAt machine core calls = (machine.state.core ≡ core) × (machine.state.calls ≡ calls)

-- classes of endings that the memory may give: its protection, or that the emulator is out of memory
abbrev pub IsMemoryClass : EndingClass → Type 0
IsMemoryClass ByProgram = ⊥
IsMemoryClass ByProtection = Unit {0}
IsMemoryClass BySink = ⊥
IsMemoryClass ByEmulator = Unit {0}

-- the memory ended it
abbrev pub IsMemoryEnding : Ending → Type 0
IsMemoryEnding ending = IsMemoryClass (ending_class ending)

-- A run follows the plain machine. Where the memory did not end it, it leaves the plain machine's memory, and a write fault
-- came before all was printed that the next instruction prints.
pub record FollowsWith (start : Machine) (budget retired : ℕ) (ending : Ending) (memory printed : List ℕ) : Type 0 where
  pub follows : Follows start budget retired ending printed
  pub leaves : ¬ IsMemoryEnding ending → memory ≡ (plain start retired).state.memory
  pub cut_short : ending ≡ WriteFault → length printed < length (plain start (retired + 1)).output

-- a turn leads on to what the plain machine reaches, or ends as a run that follows it
abbrev pub Turns : Machine → ℕ → Option Ending → ℕ → CoreView → ServicesView → List ℕ → List ℕ → Type 0
Turns start budget None retired core calls memory printed = Reaches start retired core calls memory printed
Turns start budget (Some ending) retired core calls memory printed = FollowsWith start budget retired ending memory printed

-- a turn without an ending retires an instruction, and so does an exit
abbrev pub retired_after : Option Ending → ℕ → ℕ
retired_after None n = n + 1
retired_after (Some (Halted code)) n = n + 1
retired_after (Some _) n = n

-- classes of endings that stop a program: the memory's and the sink's
abbrev pub IsStopClass : EndingClass → Type 0
IsStopClass ByProgram = ⊥
IsStopClass ByProtection = Unit {0}
IsStopClass BySink = Unit {0}
IsStopClass ByEmulator = Unit {0}

-- the memory or the sink ended it
abbrev pub IsStop : Ending → Type 0
IsStop ending = IsStopClass (ending_class ending)

-- it ended between two instructions: the budget was used up, or the program halted
abbrev pub EndsBetween : Ending → Type 0
EndsBetween ending = (ending ≡ OutOfSteps) ⊎ ((code : ℕ) × (ending ≡ Halted code))

-- how a run ends that the memory stops
abbrev pub stop_ending : MemStop → Ending
stop_ending (tampered place) = Tampered place
stop_ending (spent page) = Spent page
stop_ending no_memory = NoMemory

-- It ends as the stop that the memory gave, and else by none but that the emulator is out of memory.
abbrev pub CarriesEnding : Option MemStop → Option Ending → Type 0
CarriesEnding (Some stop) ending = ending ≡ Some (stop_ending stop)
CarriesEnding None ending = (stop : MemStop) → ending ≡ Some (stop_ending stop) → stop ≡ no_memory
