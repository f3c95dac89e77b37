use Rattle.bus_model.specs.HonestBus.{honest_history}
use Rattle.bus_model.proofs.Steps.{nothing_written}
use Rattle.test_accesses.proofs.tests.run_counted.Goals as goal

pub boot-requires-clause-nothing_written : goal.boot-requires-clause-nothing_written
boot-requires-clause-nothing_written c = nothing_written _ (honest_history c.in_ok-bus.bus.bus) c.in_ok-bus.ensures
