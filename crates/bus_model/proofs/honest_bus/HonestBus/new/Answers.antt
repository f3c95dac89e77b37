use Rattle.std.proofs.Common.{refl, rules}
use Rattle.bus_model.proofs.HonestSteps.{history_new, seen}
use Rattle.bus_model.proofs.honest_bus.HonestBus.new.Goals as goal

pub returns : goal.returns
returns c =
    history_new (seen _ _ _ _ _ _) c.args.geometry c.lines.result c.node_end.result refl c.new.ensures.empty c.new-2.ensures.empty (search rules) (search rules) refl
