use Rattle.bus_adversary.proofs.KeptPlaces.{kept_here, kept_set, kept_there}
use Rattle.bus_adversary.proofs.stored_places.StoredPlaces.set_node.Goals as goal
use Rattle.bus_adversary.specs.StoredPlaces.{all_kept, empty_line, empty_node}
use Rattle.bus_adversary.specs.declared.stored_places.NodeBytes.{NodeBytes}
use Rattle.bus_model.specs.HonestBus.{Keeps}
use Rattle.sec_base.proofs.Numbers.{number_inside}
use Rattle.sec_base.specs.Geometry.{line_count, node_end, node_number}
use Rattle.std.proofs.Common.{List, ap, subst, ℕ, ◌∙◌}

pub returns-clause-ok : goal.returns-clause-ok
returns-clause-ok c =
    rw (← c.self.view_is) (ap (λ (l : List NodeBytes). record {
      geometry = c.self.inside.geometry;
      lines = all_kept (line_count c.self.inside.geometry) empty_line c.self.inside.lines.entries;
      nodes = l;
    }) (kept_set (node_end c.self.inside.geometry) (node_number c.self.inside.geometry c.args.level c.args.index) empty_node (record { bytes = c.args.bytes })
    c.self.inside.nodes.entries c.keep_node.new.nodes.entries
    (number_inside c.self.inside.geometry c.args.level c.args.index (rw (← c.self.view_is) at c.requires))
    (subst (λ (n : ℕ). Keeps empty_node n (record { bytes = c.args.bytes }) c.self.inside.nodes.entries c.keep_node.new.nodes.entries)
    c.node_number-number.ensures.number c.in_ok-keep_node.ensures.ok)))

pub returns-clause-here : goal.returns-clause-here
returns-clause-here c =
    ap (λ (x : NodeBytes). x.bytes)
    (kept_there (node_end c.self.inside.geometry) (node_number c.self.inside.geometry c.args.level c.args.index) empty_node c.keep_node.new.nodes.entries
    (number_inside c.self.inside.geometry c.args.level c.args.index (rw (← c.self.view_is) at c.requires))
    ∙ kept_here (node_number c.self.inside.geometry c.args.level c.args.index) empty_node (record { bytes = c.args.bytes })
    c.self.inside.nodes.entries c.keep_node.new.nodes.entries
    (subst (λ (n : ℕ). Keeps empty_node n (record { bytes = c.args.bytes }) c.self.inside.nodes.entries c.keep_node.new.nodes.entries)
    c.node_number-number.ensures.number c.in_ok-keep_node.ensures.ok))
