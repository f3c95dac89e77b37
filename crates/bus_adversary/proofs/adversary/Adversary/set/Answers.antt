use Rattle.bus_adversary.proofs.PlaceEnds.{behind_bytes}
use Rattle.bus_adversary.proofs.adversary.Adversary.set.Goals as goal
use Rattle.sec_base.specs.Geometry.{slot_len}
use Rattle.std.proofs.Common.{rules, ◌+◌, ◌∙◌}

pub set_line-requires-clause-fits : goal.set_line-requires-clause-fits
set_line-requires-clause-fits c =
    rw (c.set_at.ensures) (behind_bytes c.args.offset (64 + slot_len c.self.inside.places.geometry) c.args.bytes.now c.line-stored.result
    (rw (← c.self.view_is, c.in-Line.is) at c.requires.fits) (search rules) ∙ c.line-stored.ensures.fits)
