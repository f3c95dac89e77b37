use Rattle.std.proofs.Common.{subst}
use Rattle.sec_base.specs.declared.place.Place.TheVariants.{Node}
use Rattle.bus_model.specs.Access.{one_write, CameBy}
use Rattle.bus_model.specs.HonestBus.{HonestBusView, honest_history}
use Rattle.test_accesses.proofs.watching_bus.WatchingBusBus.write_node.Goals as goal

pub returns-clause-access : goal.returns-clause-access
returns-clause-access c =
    subst (λ (bus : HonestBusView). CameBy (honest_history bus) (one_write (Node c.args.level c.args.index) c.args.block.now c.write_node.result)
    (honest_history c.write_node.new.self))
    c.mark.ensures c.write_node.ensures.access
