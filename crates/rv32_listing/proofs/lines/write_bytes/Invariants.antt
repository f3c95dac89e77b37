use Rattle.std.proofs.Common.{◌≡◌, ◌+◌, length}
use Rattle.sec_base.proofs.Writes.{IsPart}
use Rattle.rv32_listing.specs.Lines.{bytes_lines}
use Rattle.rv32_listing.proofs.lines.write_bytes.Given as goal

abbrev pub invariant-loop-rest : goal.invariant-loop-rest
invariant-loop-rest g l = record {
  part : IsPart (g.S.Sink.state l.fn.out) (g.S.Sink.state l.out) (bytes_lines l.fn.addr l.fn.bytes) (bytes_lines l.address l.rest);
  quiet : (g.S.Sink.state l.out).faults ≡ (g.S.Sink.state l.fn.out).faults;
  place : l.address + length l.rest ≡ l.fn.addr + length l.fn.bytes;
}

abbrev pub decreases-loop-rest : goal.decreases-loop-rest
decreases-loop-rest g l = length l.rest
