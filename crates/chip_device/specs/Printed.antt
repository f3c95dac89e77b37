-- What a sink in memory gathered.
use Rattle.std.specs.Prelude.{ℕ, List, Some}
use Rattle.sec_base.specs.Sink.{SinkState}

-- a sink that has these bytes and never fails
abbrev pub gathered : List ℕ → SinkState
gathered bytes = record { written = Some bytes; faults = 0 }
