use Rattle.std.proofs.Common.{refl}
use Rattle.bus_model.specs.FlipBus.{flip_history}
use Rattle.bus_model.proofs.Steps.{nothing_written}
use Rattle.test_protected_runs.proofs.tests.pairs.one_is_attacked.Goals as goal

pub run_pair-record-requires-clause-nothing_written1 : goal.run_pair-record-requires-clause-nothing_written1
run_pair-record-requires-clause-nothing_written1 c = nothing_written _ (flip_history c.in_ok-bus1.bus1) c.in_ok-bus1.ensures.history

pub run_pair-record-requires-clause-nothing_written2 : goal.run_pair-record-requires-clause-nothing_written2
run_pair-record-requires-clause-nothing_written2 c = nothing_written _ (flip_history c.in_ok-bus2.bus2) c.in_ok-bus2.ensures.history

pub run_pair-record-requires-clause-order : goal.run_pair-record-requires-clause-order
run_pair-record-requires-clause-order c = c.check_order.ensures.order.0 (rw c.in-Ok.is refl)
