use Rattle.bus_model.proofs.Steps.{nothing_written}
use Rattle.test_memory.proofs.tests.over.Goals as goal

pub boot-requires-clause-nothing_written : goal.boot-requires-clause-nothing_written
boot-requires-clause-nothing_written g c = nothing_written _ (g.B.Bus.history c.args.bus) c.requires.bus
