use Rattle.fakes.proofs.ReplaySteps.{new_and_lied_out}
use Rattle.fakes.proofs.replay_bus.ReplayBus.new.Goals as goal

pub returns-clause-nothing_written : goal.returns-clause-nothing_written
returns-clause-nothing_written c = new_and_lied_out _ _ c.in_ok-new.ensures
