use Rattle.bus_model.specs.FlipBus.{flip_history}
use Rattle.bus_model.proofs.Steps.{nothing_written}
use Rattle.test_protected_runs.proofs.tests.far_apart.Goals as goal

pub run-record-requires-clause-nothing_written : goal.run-record-requires-clause-nothing_written
run-record-requires-clause-nothing_written g c = nothing_written _ (flip_history c.in_ok-bus.bus) c.in_ok-bus.ensures.history
