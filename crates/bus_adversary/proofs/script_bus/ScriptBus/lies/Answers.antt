use Rattle.bus_adversary.proofs.script_bus.ScriptBus.lies.Goals as goal

pub returns-clause-first : goal.returns-clause-first
returns-clause-first c = rw (← c.self.view_is) c.self.invariant.0.first

pub returns-clause-stored : goal.returns-clause-stored
returns-clause-stored c = rw (← c.self.view_is) c.self.invariant.0.stored
