use Rattle.std.proofs.Common.{◌≡◌, length}
use Rattle.rv32_core.proofs.Printed.{IsPrintedUpTo}
use Rattle.rv32_core.proofs.print.write_piece.Given as goal

abbrev pub invariant-loop-rest : goal.invariant-loop-rest
invariant-loop-rest g l = record {
  printed : IsPrintedUpTo (g.S.Sink.state l.initial.out) (g.S.Sink.state l.out) l.initial.calls.taken l.calls.taken l.piece l.rest;
  services : l.calls.services ≡ l.initial.calls.services;
  quiet : (g.S.Sink.state l.out).faults ≡ (g.S.Sink.state l.initial.out).faults;
}

abbrev pub decreases-loop-rest : goal.decreases-loop-rest
decreases-loop-rest g l = length l.rest
