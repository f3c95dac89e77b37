use Rattle.std.proofs.Common.{refl, ◌∙◌, ap, List, ℕ, Option}
use Rattle.std.specs.Option.{unwrap_or}
use Rattle.bus_model.specs.HonestBus.{empty_node}
use Rattle.bus_trace.proofs.Writes.{node_chosen}
use Rattle.bus_trace.proofs.last_writes.keep_node.Goals as goal

pub returns : goal.returns
returns c = λ other at.
    ap (λ (found : Option (List ℕ)). unwrap_or found empty_node) (c.in_ok-insert.ensures.updates.0 (other, at))
    ∙ node_chosen c.args.level c.args.index other at c.args.block.now _ _ refl
