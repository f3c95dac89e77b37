use Rattle.std.proofs.Common.{rules}
use Rattle.bus_model.proofs.HonestSteps.{seen, wrote_line}
use Rattle.bus_model.proofs.honest_bus.HonestBusBus.write_data.Goals as goal

pub returns-clause-access : goal.returns-clause-access
returns-clause-access c =
    rw (← c.self.view_is) (wrote_line (seen _ _ _ _ _ _) _ c.args.line _ c.args.sealed.now (search rules) c.saturating_add-self-inside.ensures)
