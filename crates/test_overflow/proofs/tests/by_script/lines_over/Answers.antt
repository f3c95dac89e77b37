use Rattle.bus_adversary.specs.ScriptBus.{script_history}
use Rattle.bus_model.proofs.Steps.{nothing_written}
use Rattle.test_overflow.proofs.tests.by_script.lines_over.Goals as goal

pub boot-lines-requires-clause-nothing_written : goal.boot-lines-requires-clause-nothing_written
boot-lines-requires-clause-nothing_written g c = nothing_written _ (script_history c.in_ok-bus.bus) c.in_ok-bus.ensures.history
