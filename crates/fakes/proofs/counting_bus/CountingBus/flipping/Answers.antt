use Rattle.bus_model.proofs.Steps.{nothing_written}
use Rattle.fakes.proofs.counting_bus.CountingBus.flipping.Goals as goal

pub returns-clause-nothing_written : goal.returns-clause-nothing_written
returns-clause-nothing_written c = nothing_written _ _ c.in_ok-new.ensures.history
