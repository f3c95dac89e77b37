use Rattle.bus_adversary.proofs.PlaceEnds.{behind_mask}
use Rattle.bus_adversary.proofs.adversary.Adversary.flip.Goals as goal
use Rattle.sec_base.specs.Geometry.{slot_len}
use Rattle.std.proofs.Common.{rules, ◌+◌, ◌∙◌}

pub set_line-requires-clause-fits : goal.set_line-requires-clause-fits
set_line-requires-clause-fits c =
    rw (c.flip_at.ensures) (behind_mask c.args.offset (64 + slot_len c.self.inside.places.geometry) c.args.mask.now c.line-bytes.result
    (rw (← c.self.view_is, c.in-Line.is) at c.requires.fits) (search rules) ∙ c.line-bytes.ensures.fits)
