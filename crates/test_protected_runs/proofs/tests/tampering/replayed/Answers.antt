use Rattle.bus_model.proofs.Steps.{nothing_written}
use Rattle.test_protected_runs.proofs.tests.tampering.replayed.Goals as goal

pub run-done-requires-clause-nothing_written : goal.run-done-requires-clause-nothing_written
run-done-requires-clause-nothing_written c = nothing_written _ _ c.in_ok-bus.ensures
