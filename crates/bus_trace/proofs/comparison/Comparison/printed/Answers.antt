use Rattle.bus_trace.proofs.Comparing.{compares, failed_apart, front_is}
use Rattle.bus_trace.proofs.comparison.Comparison.printed.Goals as goal

pub returns-clause-tests : goal.returns-clause-tests
returns-clause-tests c = rw (← c.self.view_is) (compares c.self.inside.expected.now c.self.inside.agreed c.self.inside.wrong c.is_none.result c.self.invariant.0 (front_is c.self.inside.wrong c.is_none.result c.is_none.ensures))

pub returns-clause-failed : goal.returns-clause-failed
returns-clause-failed c = rw (← c.self.view_is) (failed_apart c.self.inside.wrong c.self.inside.faults c.is_none.result c.self.invariant.1 (front_is c.self.inside.wrong c.is_none.result c.is_none.ensures))
