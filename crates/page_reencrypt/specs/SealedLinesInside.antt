-- What contracts see of the lines outside, by what is in them.
use Rattle.page_reencrypt.specs.SealedLines.{SealedLinesView}
use Rattle.page_reencrypt.specs.declared.sealed_lines.SealedLines.TheInside.{Inside}

-- what contracts see of these lines: the fields of their parts
abbrev pub sealed_lines_view : {B T : Type 0} → Inside B T → SealedLinesView B T
sealed_lines_view lines = record {
  bus = lines.outside.bus;
  engine = lines.outside.engine;
  pads = lines.outside.pads;
  counters = lines.counters;
  limit = lines.page_limit;
  stopped = lines.stopped;
}
