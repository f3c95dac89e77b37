use Rattle.std.proofs.Common.{◌≡◌, drop, map}
use Rattle.std.specs.Prelude.{string_bytes}
use Rattle.std.specs.List.{concat}
use Rattle.chip_words.proofs.LinesWritten.{GoesOn}
use Rattle.chip_words.proofs.lines.write_lines.Given as goal

abbrev pub invariant-loop-line : goal.invariant-loop-line
invariant-loop-line g l = record {
  goes_on : GoesOn (g.N.Sink.state l.fn.note) (g.N.Sink.state l.note) (concat (map string_bytes l.fn.lines)) (concat (map string_bytes (drop l.line-index l.fn.lines)));
  quiet : (g.N.Sink.state l.note).faults ≡ (g.N.Sink.state l.fn.note).faults;
}
