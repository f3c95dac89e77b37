use Rattle.bus_adversary.proofs.KeptPlaces.{same_pair}
use Rattle.bus_adversary.proofs.stored_places.copy_nodes.Goals as goal
use Rattle.bus_adversary.specs.declared.stored_places.NodeBytes.{NodeBytes}
use Rattle.std.proofs.Common.{ℕ, ◌≡◌}
use Rattle.std.proofs.lemmas.List.Elements.{same_from_all_zip}

pub returns : goal.returns
returns c =
    same_from_all_zip (λ (x : ℕ × NodeBytes) (y : ℕ × NodeBytes). (y.0 ≡ x.0) × (y.1 ≡ x.1)) c.args.nodes.now.entries c.in_ok-clone.field-0.entries
    c.in_ok-clone.ensures.cases (λ x y same. same_pair x y same.0 same.1)
