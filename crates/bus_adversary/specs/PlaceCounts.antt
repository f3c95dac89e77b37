-- A count for each place.
use Rattle.sec_base.specs.Count.{more_by}
use Rattle.sec_base.specs.Geometry.{GeometryView, line_count, node_end, node_number}
use Rattle.sec_base.specs.declared.place.Place.{Place}
use Rattle.sec_base.specs.declared.place.Place.TheVariants.{Line, Node}
use Rattle.std.specs.Prelude.{List, replicate, slice_index_or, slice_set, ℕ}

-- the geometry of the tree, and a count for each line and each node
pub record PlaceCountsView : Type 0 where
  pub geometry : GeometryView
  pub lines : List ℕ
  pub nodes : List ℕ

-- nothing was counted yet
abbrev pub new_counts : GeometryView → PlaceCountsView
new_counts geometry =
    record { geometry = geometry; lines = replicate (line_count geometry) 0; nodes = replicate (node_end geometry) 0 }

-- the count of a place
abbrev pub count_at : PlaceCountsView → Place → ℕ
count_at counts (Line line) = slice_index_or counts.lines line 0
count_at counts (Node level index) = slice_index_or counts.nodes (node_number counts.geometry level index) 0

-- the same, with one more at a place
abbrev pub with_one_more : Place → PlaceCountsView → PlaceCountsView
with_one_more (Line line) counts =
    record counts { lines = slice_set counts.lines line (more_by 1 (count_at counts (Line line))) }
with_one_more (Node level index) counts =
    record counts {
      nodes = slice_set counts.nodes (node_number counts.geometry level index) (more_by 1 (count_at counts (Node level index)));
    }
