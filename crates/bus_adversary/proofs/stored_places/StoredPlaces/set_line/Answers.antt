use Rattle.bus_adversary.proofs.KeptPlaces.{kept_here, kept_set, kept_there}
use Rattle.bus_adversary.proofs.PlaceEnds.{kept_ends}
use Rattle.bus_adversary.proofs.stored_places.StoredPlaces.set_line.Goals as goal
use Rattle.bus_adversary.specs.StoredPlaces.{all_kept, empty_line, empty_node}
use Rattle.bus_adversary.specs.declared.stored_places.LineBytes.{LineBytes}
use Rattle.sec_base.specs.Geometry.{line_count, node_end}
use Rattle.std.proofs.Common.{List, ap, ◌∙◌}

pub invariant_of-self-2 : goal.invariant_of-self-2
invariant_of-self-2 c = (
  kept_ends c.self.inside.geometry c.args.line c.args.bytes c.self.inside.lines.entries c.keep_line.new.lines.entries
      (rw (← c.self.view_is) at c.requires.inside) c.in_ok-keep_line.ensures.ok c.self.invariant.0 (rw (← c.self.view_is) at c.requires.fits),
  c.keep_line.ensures.sparse c.self.invariant.1,
  c.self.invariant.2,
)

pub returns-clause-ok : goal.returns-clause-ok
returns-clause-ok c =
    rw (← c.self.view_is) (ap (λ (l : List LineBytes). record {
      geometry = c.self.inside.geometry;
      lines = l;
      nodes = all_kept (node_end c.self.inside.geometry) empty_node c.self.inside.nodes.entries;
    }) (kept_set (line_count c.self.inside.geometry) c.args.line empty_line (record { bytes = c.args.bytes }) c.self.inside.lines.entries c.keep_line.new.lines.entries
    (rw (← c.self.view_is) at c.requires.inside) c.in_ok-keep_line.ensures.ok))

pub returns-clause-here : goal.returns-clause-here
returns-clause-here c =
    ap (λ (x : LineBytes). x.bytes)
    (kept_there (line_count c.self.inside.geometry) c.args.line empty_line c.keep_line.new.lines.entries (rw (← c.self.view_is) at c.requires.inside)
    ∙ kept_here c.args.line empty_line (record { bytes = c.args.bytes }) c.self.inside.lines.entries c.keep_line.new.lines.entries c.in_ok-keep_line.ensures.ok)
