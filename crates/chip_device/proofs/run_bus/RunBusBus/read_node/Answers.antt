use Rattle.chip_device.proofs.run_bus.RunBusBus.read_node.Goals as goal

pub returns-in-Honest-clause-access : goal.returns-in-Honest-clause-access
returns-in-Honest-clause-access c = rw c.in-Honest.is c.read_node.ensures.access

pub returns-in-Script-clause-access : goal.returns-in-Script-clause-access
returns-in-Script-clause-access c = rw c.in-Script.is (c.read_node-in-Script.ensures.script, c.read_node-in-Script.ensures.access)
