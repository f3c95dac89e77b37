-- What is seen of a writer as a sink.
use Rattle.std.specs.Prelude.{None}
use Rattle.sec_base.specs.Sink.{SinkState}
use Rattle.chip_edge.specs.declared.stream.Stream.{Stream}

-- it doesn't tell what was written, only how often a write of it failed
abbrev pub stream_state : {W : Type 0} → Stream W → SinkState
stream_state stream = record { written = None; faults = stream.faults }

-- a stream of which no write failed yet
abbrev pub fresh_stream : SinkState
fresh_stream = record { written = None; faults = 0 }
