use Rattle.sec_base.specs.declared.place.Place.TheVariants.{Node}
use Rattle.bus_model.specs.HonestBus.{honest_history}
use Rattle.fakes.proofs.ReplaySteps.{any_answer}
use Rattle.fakes.proofs.replay_bus.ReplayBusBus.read_node.Goals as goal

pub returns-clause-access : goal.returns-clause-access
returns-clause-access c =
    rw (← c.self.view_is) (any_answer (Node c.args.level c.args.index) c.in_ok-block.block c.unwrap_or-answer.result
    (honest_history c.self.inside.bus) (honest_history c.read_node.new.self) c.in_ok-block.ensures.access)
