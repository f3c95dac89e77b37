use Rattle.std.proofs.Common.{ap}
use Rattle.sec_base.specs.declared.place.Place.TheVariants.{Node}
use Rattle.bus_model.specs.HonestBus.{honest_history}
use Rattle.bus_model.proofs.Accesses.{refused_write}
use Rattle.fakes.specs.ReplayBus.{lied_out}
use Rattle.fakes.proofs.ReplaySteps.{any_write}
use Rattle.fakes.proofs.replay_bus.ReplayBusBus.write_node.Goals as goal

pub returns-in_err-write_node-clause-access : goal.returns-in_err-write_node-clause-access
returns-in_err-write_node-clause-access c =
    rw (← c.self.view_is) (refused_write (Node c.args.level c.args.index) c.args.block.now _ _ c.from_residual.result c.from_residual.ensures.0
    (ap lied_out c.in_err-write_node.ensures.access))

pub returns-clause-access : goal.returns-clause-access
returns-clause-access c =
    rw (← c.self.view_is) (any_write (Node c.args.level c.args.index) c.args.block.now
    (honest_history c.self.inside.bus) (honest_history c.write_node.new.self) c.in_ok-write_node.ensures.access)
