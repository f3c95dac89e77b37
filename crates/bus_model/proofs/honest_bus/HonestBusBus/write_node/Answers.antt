use Rattle.std.proofs.Common.{rules}
use Rattle.bus_model.proofs.HonestSteps.{seen, wrote_node}
use Rattle.bus_model.proofs.honest_bus.HonestBusBus.write_node.Goals as goal

pub returns-clause-access : goal.returns-clause-access
returns-clause-access c =
    rw (← c.self.view_is) (wrote_node (seen _ _ _ _ _ _) _ c.args.level c.args.index _ c.args.block.now (search rules) (search rules) c.saturating_add-self-inside.ensures)
