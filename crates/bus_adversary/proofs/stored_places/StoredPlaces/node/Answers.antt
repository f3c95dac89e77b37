use Rattle.bus_adversary.proofs.KeptPlaces.{kept_there}
use Rattle.bus_adversary.proofs.stored_places.StoredPlaces.node.Goals as goal
use Rattle.bus_adversary.specs.StoredPlaces.{empty_node}
use Rattle.bus_adversary.specs.declared.stored_places.NodeBytes.{NodeBytes}
use Rattle.bus_model.specs.HonestBus.{kept_at}
use Rattle.sec_base.proofs.Numbers.{number_inside}
use Rattle.sec_base.specs.Geometry.{node_end, node_number}
use Rattle.std.proofs.Common.{ap, sym, ◌∙◌}

pub returns : goal.returns
returns c =
    rw (← c.self.view_is) (ap (λ (x : NodeBytes). x.bytes) (c.kept_node.ensures
    ∙ ap (kept_at empty_node c.self.inside.nodes.entries) c.node_number.ensures.number
    ∙ sym (kept_there (node_end c.self.inside.geometry) (node_number c.self.inside.geometry c.args.level c.args.index) empty_node c.self.inside.nodes.entries
    (number_inside c.self.inside.geometry c.args.level c.args.index (rw (← c.self.view_is) at c.requires)))))
