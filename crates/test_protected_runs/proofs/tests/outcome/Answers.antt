use Rattle.bus_model.specs.HonestBus.{honest_history}
use Rattle.bus_model.proofs.Steps.{nothing_written}
use Rattle.test_protected_runs.proofs.tests.outcome.Goals as goal

pub run-record-requires-clause-nothing_written : goal.run-record-requires-clause-nothing_written
run-record-requires-clause-nothing_written c = nothing_written _ (honest_history c.in_ok-bus.bus) c.in_ok-bus.ensures
