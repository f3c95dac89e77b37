use Rattle.bus_model.proofs.flip_bus.FlipBus.new.Goals as goal
use Rattle.bus_model.proofs.LieSteps.{judged_new}

pub returns-clause-history : goal.returns-clause-history
returns-clause-history c = judged_new _ _ _ c.in_ok-new.ensures c.none.ensures
