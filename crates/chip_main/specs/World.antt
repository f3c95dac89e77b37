-- What a call reads and writes.
use Rattle.sec_base.specs.Files.{FilesState}
use Rattle.sec_base.specs.Sink.{SinkState}

-- the files, the sink for what is printed or made, and the sink for the rest
pub record World : Type 0 where
  pub files : FilesState
  pub out : SinkState
  pub note : SinkState

-- the world of these files, this sink for what is printed or made, and this one for the rest
abbrev pub world : FilesState → SinkState → SinkState → World
world files out note = record { files = files; out = out; note = note }
