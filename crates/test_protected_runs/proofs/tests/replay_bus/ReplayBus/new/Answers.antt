use Rattle.std.proofs.Common.{None, ap}
use Rattle.test_protected_runs.proofs.tests.Replays.{with_own}
use Rattle.test_protected_runs.proofs.tests.replay_bus.ReplayBus.new.Goals as goal

pub returns : goal.returns
returns c = ap (with_own 0 0 None) c.in_ok-new.ensures
