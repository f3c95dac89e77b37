use Rattle.sec_base.specs.declared.place.Place.TheVariants.{Node}
use Rattle.bus_model.specs.HonestBus.{honest_history}
use Rattle.bus_model.proofs.Accesses.{refused_write}
use Rattle.test_protected_runs.proofs.tests.Replays.{own_same, own_wrote}
use Rattle.test_protected_runs.proofs.tests.replay_bus.ReplayBusBus.write_node.Goals as goal

pub returns-in_err-write_node-clause-access : goal.returns-in_err-write_node-clause-access
returns-in_err-write_node-clause-access c =
    rw (← c.self.view_is) (refused_write (Node c.args.level c.args.index) c.args.block.now _ _ c.from_residual.result c.from_residual.ensures.0
    (own_same (honest_history c.self.inside.bus) (honest_history c.write_node.new.self) _ _ _ c.in_err-write_node.ensures.access))

pub returns-clause-access : goal.returns-clause-access
returns-clause-access c =
    rw (← c.self.view_is) (own_wrote (honest_history c.self.inside.bus) (honest_history c.write_node.new.self) _ _ _ _ (Node c.args.level c.args.index)
    c.saturating_add-self-inside.ensures c.args.block.now c.in_ok-write_node.ensures.access)
