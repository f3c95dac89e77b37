-- What is printed, as the sink takes it, and as it is digested and counted.
use Rattle.std.specs.Prelude.{◌≡◌, ◌≢◌, ℕ, List, ◌++◌, length, Result, Err}
use Rattle.sha2.specs.Hashers.{Holds256}
use Rattle.sec_base.specs.Count.{more_by}
use Rattle.sec_base.specs.Sink.{SinkState, Gains}
use Rattle.rv32_core.specs.declared.step.StepStop.{StepStop}
use Rattle.rv32_core.specs.declared.step.StepStop.TheVariants.{WriteFault}
use Rattle.rv32_core.specs.declared.taken.Taken.{Taken}

-- what was taken is these bytes: the digest is theirs, and the count says how many they are, up to 2 ^ 64 - 1
abbrev pub HoldsTaken : Taken → List ℕ → Type 0
HoldsTaken taken bytes = Holds256 taken.digest bytes × (taken.count ≡ more_by (length bytes) 0)

-- these bytes were digested and counted behind those that were taken before
abbrev pub Digests : Taken → List ℕ → Taken → Type 0
Digests old bytes new = (held : List ℕ) → HoldsTaken old held → HoldsTaken new (held ++ bytes)

-- the sink gained these bytes and nothing else, and they were digested and counted
abbrev pub Prints : SinkState → Taken → List ℕ → SinkState → Taken → Type 0
Prints out taken printed out' taken' = Gains out printed out' × Digests taken printed taken'

-- no write of the sink failed, unless that stopped the call
abbrev pub KeepsFaults : {A : Type 0} → Result A StepStop → SinkState → SinkState → Type 0
KeepsFaults result old new = result ≢ Err WriteFault → new.faults ≡ old.faults
