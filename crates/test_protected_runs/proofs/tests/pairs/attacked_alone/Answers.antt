use Rattle.bus_model.specs.FlipBus.{flip_history}
use Rattle.bus_model.proofs.Steps.{nothing_written}
use Rattle.test_protected_runs.proofs.tests.pairs.attacked_alone.Goals as goal

pub run-record-requires-clause-nothing_written : goal.run-record-requires-clause-nothing_written
run-record-requires-clause-nothing_written c = nothing_written _ (flip_history c.in_ok-bus.bus) c.in_ok-bus.ensures.history
