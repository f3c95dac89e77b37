use Rattle.bus_adversary.proofs.PlaceEnds.{tag_behind}
use Rattle.bus_adversary.proofs.adversary.Adversary.sealed.Goals as goal
use Rattle.std.proofs.Common.{rules}

pub returns-clause-fits : goal.returns-clause-fits
returns-clause-fits c =
    rw (← c.self.view_is) (tag_behind c.self.inside.places.geometry c.line.result _ (search rules) c.sealed_of.ensures.tag c.line.ensures.fits)
