-- A fetch, and how it stops. The contract of a private function alone cites it.
use Rattle.std.specs.Prelude.{◌≡◌, ◌+◌, ◌<◌, ◌≤◌, ℕ, List, length, Option, Some, None, Result, Ok, Err}
use Rattle.sec_base.specs.Width.{number_at}
use Rattle.sec_base.specs.declared.width.Width.TheVariants.{Four}
use Rattle.sec_base.specs.declared.ending.Cause.TheVariants.{OutsideMemory}
use Rattle.sec_base.specs.declared.stop.MemStop.{MemStop}
use Rattle.rv32_core.specs.declared.step.StepStop.{StepStop}
use Rattle.rv32_core.specs.declared.step.StepStop.TheVariants.{Trap, Mem, WriteFault}

-- the word is the memory's, or the fetch reaches past its end, or the memory stopped
abbrev pub IsFetched : List ℕ → ℕ → Result ℕ StepStop → Type 0
IsFetched memory pc (Ok word) = (pc + 4 ≤ length memory) × (word ≡ number_at memory pc Four)
IsFetched memory pc (Err (Trap cause)) = (length memory < pc + 4) × (cause ≡ OutsideMemory)
IsFetched memory pc (Err (Mem stop)) = Unit {0}
IsFetched memory pc (Err WriteFault) = ⊥

-- the fetch returns the stop that the memory gave in it, and no other
abbrev pub StopsFetch : Option MemStop → Result ℕ StepStop → Type 0
StopsFetch (Some stop) result = result ≡ Err (Mem stop)
StopsFetch None (Ok word) = Unit {0}
StopsFetch None (Err (Trap cause)) = Unit {0}
StopsFetch None (Err (Mem stop)) = ⊥
StopsFetch None (Err WriteFault) = ⊥
