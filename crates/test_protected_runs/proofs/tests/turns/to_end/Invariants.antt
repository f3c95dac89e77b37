use Rattle.std.proofs.Common.{◌-◌}
use Rattle.test_protected_runs.proofs.tests.turns.to_end.Given as goal

abbrev pub invariant-loop-ending : goal.invariant-loop-ending
invariant-loop-ending g l = Unit {0}

abbrev pub decreases-loop-ending : goal.decreases-loop-ending
decreases-loop-ending g l = l.session.execution.budget - l.session.execution.retired
