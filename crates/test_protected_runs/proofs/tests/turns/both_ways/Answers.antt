use Rattle.bus_model.specs.FlipBus.{flip_history}
use Rattle.bus_model.proofs.Steps.{nothing_written}
use Rattle.test_protected_runs.proofs.tests.turns.both_ways.Goals as goal

pub in_turns-requires-clause-nothing_written : goal.in_turns-requires-clause-nothing_written
in_turns-requires-clause-nothing_written c = nothing_written _ (flip_history c.in_ok-bus.bus) c.in_ok-bus.ensures.history

pub run-whole-requires-clause-nothing_written : goal.run-whole-requires-clause-nothing_written
run-whole-requires-clause-nothing_written c = nothing_written _ (flip_history c.in_ok-bus-2.bus) c.in_ok-bus-2.ensures.history
