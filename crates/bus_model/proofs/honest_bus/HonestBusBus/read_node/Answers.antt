use Rattle.std.proofs.Common.{rules, ℕ, slice_index_or, ap, ◌∙◌}
use Rattle.bus_model.proofs.HonestSteps.{read_node, seen}
use Rattle.bus_model.proofs.honest_bus.HonestBusBus.read_node.Goals as goal

pub returns-clause-access : goal.returns-clause-access
returns-clause-access c =
    rw (← c.self.view_is, c.node_number-number.ensures.number) (read_node (seen _ _ _ _ _ _) c.args.level c.args.index _ c.index_mut-reads.result.now _ c.unwrap_or.result
    (search rules) (search rules) (search rules) c.saturating_add-self-inside.ensures
    (c.index_mut-reads.ensures.value ∙ ap (λ (n : ℕ). slice_index_or c.self.inside.node_reads.items n c.index_mut-reads.result.now) c.node_number-number.ensures.number)
    c.saturating_add.ensures)
