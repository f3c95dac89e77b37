use Rattle.sec_base.specs.declared.place.Place.TheVariants.{Node}
use Rattle.bus_model.specs.HonestBus.{honest_history}
use Rattle.bus_model.proofs.LieSteps.{judged_read}
use Rattle.bus_model.proofs.flip_bus.FlipBusBus.read_node.Goals as goal

pub returns-clause-access : goal.returns-clause-access
returns-clause-access c =
    rw (← c.self.view_is) (judged_read (honest_history c.self.inside.bus) (honest_history c.read_node.new.self) c.self.inside.lies c.judge_block.new.self (Node c.args.level c.args.index) c.in_ok-written.written c.answer_block-answer.result c.accesses-access.result
    c.in_ok-written.ensures.access c.in_ok-written.ensures.answer c.accesses-access.ensures c.judge_block.ensures)
