-- What is seen of a sink.
use Rattle.std.specs.Prelude.{◌≡◌, ℕ, List, ◌++◌, Option, Some, None, Result, Ok, Err}
use Rattle.sec_base.specs.Count.{Rose}
use Rattle.sec_base.specs.Prefix.{IsPrefix}
use Rattle.sec_base.specs.declared.sink.SinkStop.{SinkStop}
use Rattle.sec_base.specs.declared.sink.SinkStop.TheVariants.{Failed, NoMemory}

-- what was written to it, where it tells, and how often a write of it failed
pub record SinkState : Type 0 where
  pub written : Option (List ℕ)
  pub faults : ℕ

-- what is written after more
abbrev pub written_after : List ℕ → Option (List ℕ) → Option (List ℕ)
written_after more None = None
written_after more (Some bytes) = Some (bytes ++ more)

-- the sink gained these bytes and nothing else
abbrev pub Gains : SinkState → List ℕ → SinkState → Type 0
Gains old more new = new.written ≡ written_after more old.written

-- nothing that it tells changed
abbrev pub IsSilent : SinkState → SinkState → Type 0
IsSilent old new = new.written ≡ old.written

-- the sink gained a front part of the bytes and nothing else
abbrev pub GainsFront : SinkState → List ℕ → SinkState → Type 0
GainsFront old bytes new = (front : List ℕ) × IsPrefix front bytes × Gains old front new

-- the bytes were written whole; or a front part of them, where a write failed or the emulator is out of memory
abbrev pub IsWritten : List ℕ → SinkState → SinkState → Result (Unit {0}) SinkStop → Type 0
IsWritten bytes old new (Ok _) = Gains old bytes new
IsWritten bytes old new (Err Failed) = GainsFront old bytes new × Rose old.faults new.faults
IsWritten bytes old new (Err NoMemory) = GainsFront old bytes new
