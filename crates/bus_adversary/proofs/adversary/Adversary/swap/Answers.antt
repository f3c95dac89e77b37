use Rattle.bus_adversary.proofs.PlaceChanges.{both_puts_change, first_put_changes}
use Rattle.bus_adversary.proofs.adversary.Adversary.swap.Goals as goal
use Rattle.sec_base.specs.declared.place.Place.TheVariants.{Node}

pub returns-in_err-set_node-in-Node-Node-2-clause-changes : goal.returns-in_err-set_node-in-Node-Node-2-clause-changes
returns-in_err-set_node-in-Node-Node-2-clause-changes c =
    rw (← c.self.view_is, c.in-Node-Node.is-0, c.in-Node-Node.is-1, c.in_err-set_node-in-Node-Node-2.ensures.err, c.in_ok-set_node-in-Node-Node.ensures.ok)
    (first_put_changes (Node c.in-Node-Node.level c.in-Node-Node.index) (Node c.in-Node-Node.other c.in-Node-Node.at) _ c.self.inside.places
    (rw (← c.self.view_is, c.in-Node-Node.is-0) at c.requires.first))

pub returns-in_ok-set_node-in-Node-Node-2-clause-changes : goal.returns-in_ok-set_node-in-Node-Node-2-clause-changes
returns-in_ok-set_node-in-Node-Node-2-clause-changes c =
    rw (← c.self.view_is, c.in-Node-Node.is-0, c.in-Node-Node.is-1, c.in_ok-set_node-in-Node-Node-2.ensures.ok, c.in_ok-set_node-in-Node-Node.ensures.ok)
    (both_puts_change (Node c.in-Node-Node.level c.in-Node-Node.index) (Node c.in-Node-Node.other c.in-Node-Node.at) _ _ c.self.inside.places
    (rw (← c.self.view_is, c.in-Node-Node.is-0) at c.requires.first) (rw (← c.self.view_is, c.in-Node-Node.is-1) at c.requires.second))
