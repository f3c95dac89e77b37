-- How a service prints bytes of the memory, and how that stops. The contracts of private functions alone cite it.
use Rattle.std.specs.Prelude.{◌≡◌, ℕ, ◌-◌, ◌%◌, min, List, Option, Some, None, Result, Ok, Err}
use Rattle.sec_base.specs.declared.sink.SinkStop.{SinkStop}
use Rattle.sec_base.specs.declared.sink.SinkStop.TheVariants.{Failed, NoMemory as no_memory}
use Rattle.sec_base.specs.declared.stop.MemStop.{MemStop}
use Rattle.sec_base.specs.declared.stop.MemStop.TheVariants.{NoMemory}
use Rattle.rv32_core.specs.Outcome.{IsCutShort}
use Rattle.rv32_core.specs.declared.step.StepStop.{StepStop}
use Rattle.rv32_core.specs.declared.step.StepStop.TheVariants.{Trap, Mem, WriteFault}

-- What is printed up to an end goes out in pieces, each as soon as it is loaded whole. A piece goes up to the next
-- multiple of 64 of the address, or to the end.
abbrev pub piece_length : ℕ → ℕ → ℕ
piece_length at end = min (64 - at % 64) (end - at)

-- all was printed, or a stop came before the last byte; nothing traps
abbrev pub IsPrinted : Result Unit StepStop → List ℕ → List ℕ → Type 0
IsPrinted (Ok value) whole printed = printed ≡ whole
IsPrinted (Err stop) whole printed = IsCutShort printed whole

-- the call returns the stop that the memory gave in it, and else none but that the emulator is out of memory
abbrev pub StopsAs : Option MemStop → Result Unit StepStop → Type 0
StopsAs (Some stop) result = result ≡ Err (Mem stop)
StopsAs None (Ok value) = Unit {0}
StopsAs None (Err (Trap cause)) = ⊥
StopsAs None (Err (Mem stop)) = stop ≡ NoMemory
StopsAs None (Err WriteFault) = Unit {0}

-- how an instruction stops where the sink does
abbrev pub sink_stop : SinkStop → StepStop
sink_stop Failed = WriteFault
sink_stop no_memory = Mem NoMemory
