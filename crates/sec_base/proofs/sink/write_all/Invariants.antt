use Rattle.std.proofs.Common.{◌≡◌, length}
use Rattle.sec_base.proofs.Writes.{IsPart}
use Rattle.sec_base.proofs.sink.write_all.Given as goal

-- so far no write failed
abbrev pub invariant-loop-rest : goal.invariant-loop-rest
invariant-loop-rest g l = record {
  part : IsPart (g.S.Sink.state l.fn.out) (g.S.Sink.state l.out) l.fn.piece l.rest;
  quiet : (g.S.Sink.state l.out).faults ≡ (g.S.Sink.state l.fn.out).faults;
}

abbrev pub decreases-loop-rest : goal.decreases-loop-rest
decreases-loop-rest g l = length l.rest
