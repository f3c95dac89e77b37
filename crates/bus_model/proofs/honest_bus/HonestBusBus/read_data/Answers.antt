use Rattle.std.proofs.Common.{rules}
use Rattle.bus_model.proofs.HonestSteps.{read_line, seen}
use Rattle.bus_model.proofs.honest_bus.HonestBusBus.read_data.Goals as goal

pub returns-clause-access : goal.returns-clause-access
returns-clause-access c =
    rw (← c.self.view_is) (read_line (seen _ _ _ _ _ _) c.args.line _ c.index_mut-reads.result.now _ c.unwrap_or.result (search rules) (search rules) (search rules)
    c.saturating_add-self-inside.ensures c.index_mut-reads.ensures.value c.saturating_add.ensures)
