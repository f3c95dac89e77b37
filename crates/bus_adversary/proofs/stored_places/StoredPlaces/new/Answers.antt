use Rattle.bus_adversary.proofs.KeptPlaces.{none_kept}
use Rattle.bus_adversary.proofs.PlaceEnds.{new_ends}
use Rattle.bus_adversary.proofs.stored_places.StoredPlaces.new.Goals as goal
use Rattle.bus_adversary.specs.StoredPlaces.{empty_line, empty_node}
use Rattle.sec_base.specs.Geometry.{line_count, node_end}
use Rattle.std.proofs.Common.{refl, rules}

pub invariant_of-result : goal.invariant_of-result
invariant_of-result c = (
  new_ends c.args.geometry _ (line_count c.args.geometry) (none_kept (line_count c.args.geometry) empty_line _ c.new.ensures.empty),
  search rules,
  search rules,
)

pub returns : goal.returns
returns c =
    rw (none_kept (line_count c.args.geometry) empty_line _ c.new.ensures.empty, none_kept (node_end c.args.geometry) empty_node _ c.new-2.ensures.empty) refl
