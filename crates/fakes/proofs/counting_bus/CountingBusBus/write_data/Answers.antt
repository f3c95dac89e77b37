use Rattle.fakes.proofs.counting_bus.CountingBusBus.write_data.Goals as goal

pub returns-clause-access : goal.returns-clause-access
returns-clause-access c = rw (← c.self.view_is) c.write_data.ensures.access
