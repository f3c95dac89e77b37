-- What a step that ended so was, seen from the plain machine.
use Rattle.std.specs.Prelude.{◌≡◌, ◌<◌, ◌⊎◌, ℕ, ◌-◌, List, [], length, take, Option, Some, None, Result, Ok, Err}
use Rattle.sec_base.specs.Prefix.{IsPrefix}
use Rattle.sec_base.specs.declared.ending.Cause.{Cause}
use Rattle.sec_base.specs.declared.stop.MemStop.{MemStop}
use Rattle.sec_base.specs.declared.stop.MemStop.TheVariants.{NoMemory}
use Rattle.rv32_core.specs.declared.step.Step.{Step}
use Rattle.rv32_core.specs.declared.step.Step.TheVariants.{Retired, Halted}
use Rattle.rv32_core.specs.declared.step.StepStop.{StepStop}
use Rattle.rv32_core.specs.declared.step.StepStop.TheVariants.{Trap, Mem, WriteFault}
use Rattle.rv32_core.specs.State.{State, ServicesView, with_bytes}
use Rattle.rv32_core.specs.After.{After}
use Rattle.rv32_core.specs.Services.{a1, next_input}

-- The exit code of a step that halted.
abbrev pub exit_of : Step → Option ℕ
exit_of Retired = None
exit_of (Halted code) = Some code

-- what the instruction prints where it is done whole
abbrev pub prints_of : Result After Cause → List ℕ
prints_of (Ok after) = after.prints
prints_of (Err cause) = []

-- the bytes of the input that an instruction takes
abbrev pub input_taken : ServicesView → ServicesView → List ℕ
input_taken old new = next_input old (new.position - old.position)

-- the memory with the first of the bytes that the instruction takes from the input, from a1 on
abbrev pub IsReadInPart : After → State → List ℕ → Type 0
IsReadInPart after old new =
    (count : ℕ) × (new ≡ with_bytes old.memory (a1 old) (take count (input_taken old.calls after.state.calls)))

-- the memory as it was, or as the instruction makes it, or with a part of what it reads
abbrev pub IsHalfDone : Result After Cause → State → List ℕ → Type 0
IsHalfDone (Ok after) old new = (new ≡ old.memory) ⊎ ((new ≡ after.state.memory) ⊎ IsReadInPart after old new)
IsHalfDone (Err cause) old new = new ≡ old.memory

-- a front part of these bytes, and not all of them
abbrev pub IsCutShort : List ℕ → List ℕ → Type 0
IsCutShort printed whole = IsPrefix printed whole × (length printed < length whole)

-- A step led from a state to another, and this was printed, where the plain machine's instruction comes out so:
-- it is that instruction, or that trap with nothing changed, or a stop in the middle of its printing or its reading. A
-- write fault comes before the instruction's last byte is printed.
abbrev pub IsOutcome : Result After Cause → Result Step StepStop → State → State → List ℕ → Type 0
IsOutcome instruction (Ok step) old new printed = instruction ≡ Ok (record { state = new; prints = printed; exit = exit_of step })
IsOutcome instruction (Err (Trap cause)) old new printed = (instruction ≡ Err cause) × (new.memory ≡ old.memory) × (printed ≡ [])
IsOutcome instruction (Err (Mem stop)) old new printed =
    IsPrefix printed (prints_of instruction) × IsHalfDone instruction old new.memory
IsOutcome instruction (Err WriteFault) old new printed =
    IsCutShort printed (prints_of instruction) × (new.memory ≡ old.memory)

-- A step returns the stop that the memory gave in it, and else none but that the emulator is out of memory.
abbrev pub CarriesStop : Option MemStop → Result Step StepStop → Type 0
CarriesStop (Some stop) result = result ≡ Err (Mem stop)
CarriesStop None result = (stop : MemStop) → result ≡ Err (Mem stop) → stop ≡ NoMemory

-- Where the memory did not stop, only an instruction that prints stops as out of memory.
abbrev pub IsSinkStop : Result Step StepStop → Result After Cause → Type 0
IsSinkStop (Ok step) instruction = Unit {0}
IsSinkStop (Err (Trap cause)) instruction = Unit {0}
IsSinkStop (Err (Mem stop)) instruction = 0 < length (prints_of instruction)
IsSinkStop (Err WriteFault) instruction = Unit {0}

-- It went well or trapped. The contracts of private functions alone cite it.
abbrev pub OnlyTraps : Result Step StepStop → Type 0
OnlyTraps (Ok step) = Unit {0}
OnlyTraps (Err (Trap cause)) = Unit {0}
OnlyTraps (Err (Mem stop)) = ⊥
OnlyTraps (Err WriteFault) = ⊥
