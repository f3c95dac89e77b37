use Rattle.fakes.proofs.counting_bus.CountingBus.refusing.Goals as goal

pub returns-clause-history : goal.returns-clause-history
returns-clause-history c = rw c.bus.view_is c.in_ok-bus.ensures.history
