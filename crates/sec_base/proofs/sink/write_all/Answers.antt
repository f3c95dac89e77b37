use Rattle.std.proofs.Common.{◌∙◌}
use Rattle.std.proofs.lemmas.List.{take_rest}
use Rattle.sec_base.proofs.Writes.{part_goes_on}
use Rattle.sec_base.proofs.sink.write_all.Goals as goal

pub loop-rest-preserved : goal.loop-rest-preserved
loop-rest-preserved g c = record {
  part = rw take_rest (part_goes_on _ _ _ _ _ _ c.loop-rest.invariant.part c.in_ok-taken.ensures.taken c.write.ensures.faults);
  quiet = c.in_ok-taken.ensures.quiet (λ is. cc) ∙ c.loop-rest.invariant.quiet;
}
