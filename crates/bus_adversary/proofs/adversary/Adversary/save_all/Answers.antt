use Rattle.bus_adversary.proofs.adversary.Adversary.save_all.Goals as goal
use Rattle.bus_adversary.specs.Adversary.{FitsRegister}
use Rattle.bus_adversary.specs.StoredPlaces.{StoredPlacesView}
use Rattle.bus_adversary.specs.declared.adversary.Register.TheVariants.{AllPlaces}
use Rattle.std.proofs.Common.{ap, length-set, ◌∙◌}
use Rattle.std.proofs.lemmas.List.Elements.{All-set}

pub invariant_of-self : goal.invariant_of-self
invariant_of-self c = (
  length-set c.self.inside.registers.items c.args.register (AllPlaces c.in_ok-places.places) ∙ c.self.invariant.0,
  All-set (FitsRegister c.self.inside.places.geometry) c.self.inside.registers.items c.args.register (AllPlaces c.in_ok-places.places)
      (ap (λ (p : StoredPlacesView). p.geometry) c.in_ok-places.ensures) c.self.invariant.1,
)
