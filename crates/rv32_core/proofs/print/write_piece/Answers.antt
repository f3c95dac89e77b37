use Rattle.std.proofs.Common.{◌∙◌, refl}
use Rattle.std.proofs.lemmas.List.{take_rest}
use Rattle.rv32_core.proofs.Printed.{piece_begins, piece_goes_on}
use Rattle.rv32_core.proofs.print.write_piece.Goals as goal

pub loop-rest-init : goal.loop-rest-init
loop-rest-init g c = record { printed = piece_begins _ _ _; services = refl; quiet = refl }

pub loop-rest-preserved : goal.loop-rest-preserved
loop-rest-preserved g c = record {
  printed = rw take_rest (piece_goes_on _ _ _ _ _ _ _ _ _ c.loop-rest.invariant.printed c.in_ok-taken.ensures.taken c.digest.ensures.digest c.write.ensures.faults);
  services = c.digest.ensures.services ∙ c.loop-rest.invariant.services;
  quiet = c.in_ok-taken.ensures.quiet (λ is. cc) ∙ c.loop-rest.invariant.quiet;
}
