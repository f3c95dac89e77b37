use Rattle.bus_model.specs.FlipBus.{flip_history}
use Rattle.bus_model.proofs.Steps.{nothing_written}
use Rattle.test_protected_runs.proofs.tests.tampering.print_before_tampering.Goals as goal

pub run-done-requires-clause-nothing_written : goal.run-done-requires-clause-nothing_written
run-done-requires-clause-nothing_written c = nothing_written _ (flip_history c.in_ok-bus.bus) c.in_ok-bus.ensures.history
