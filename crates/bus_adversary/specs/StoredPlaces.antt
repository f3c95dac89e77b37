-- The bytes that stand at all places.
use Rattle.bus_adversary.specs.declared.stored_places.LineBytes.{LineBytes}
use Rattle.bus_adversary.specs.declared.stored_places.NodeBytes.{NodeBytes}
use Rattle.bus_model.specs.HonestBus.{kept_at}
use Rattle.sec_base.specs.Geometry.{GeometryView, line_count, node_end, node_number, slot_len}
use Rattle.sec_base.specs.declared.geometry.TheConstants.{LINE_LEN}
use Rattle.sec_base.specs.declared.sealed.TheConstants.{TAG_LEN}
use Rattle.sec_base.specs.declared.place.Place.{Place}
use Rattle.sec_base.specs.declared.place.Place.TheVariants.{Line, Node}
use Rattle.std.specs.List.{range_with_len}
use Rattle.std.specs.Prelude.{List, drop, map, replicate, slice_index_or, slice_set, ℕ, ◌+◌, ◌-◌, ◌≡◌}

-- the geometry of the tree, the 80 bytes of each line's place, and the 64 of each node's
pub record StoredPlacesView : Type 0 where
  pub geometry : GeometryView
  pub lines : List LineBytes
  pub nodes : List NodeBytes

-- a place that was never written
abbrev pub empty_line : LineBytes
empty_line = record { bytes = replicate 80 0 }

-- a node's place that was never written holds 64 zeros
abbrev pub empty_node : NodeBytes
empty_node = record { bytes = replicate 64 0 }

-- so many values in the order of their numbers, of which some are kept and the others are empty
abbrev pub all_kept : {A : Type 0} → ℕ → A → List (ℕ × A) → List A
all_kept count empty entries = map (kept_at empty entries) (range_with_len 0 count)

-- zeros at each place
abbrev pub new_places : GeometryView → StoredPlacesView
new_places geometry =
    record {
      geometry = geometry;
      lines = replicate (line_count geometry) empty_line;
      nodes = replicate (node_end geometry) empty_node;
    }

-- what stands at a place
abbrev pub bytes_at : StoredPlacesView → Place → List ℕ
bytes_at places (Line line) = (slice_index_or places.lines line empty_line).bytes
bytes_at places (Node level index) = (slice_index_or places.nodes (node_number places.geometry level index) empty_node).bytes

-- the same, with other bytes at one place
abbrev pub with_place : Place → List ℕ → StoredPlacesView → StoredPlacesView
with_place (Line line) bytes places =
    record places { lines = slice_set places.lines line (record { bytes = bytes }) }
with_place (Node level index) bytes places =
    record places { nodes = slice_set places.nodes (node_number places.geometry level index) (record { bytes = bytes }) }

-- the bytes of a data line's place end in zeros, behind what the chip may set of a tag
abbrev pub EndsInZeros : GeometryView → List ℕ → Type 0
EndsInZeros geometry bytes = drop (LINE_LEN + slot_len geometry) bytes ≡ replicate (TAG_LEN - slot_len geometry) 0

-- and so do those of each line
pub record EndInZeros (geometry : GeometryView) (lines : List LineBytes) : Type 0 where
  pub fits : (line : ℕ) → EndsInZeros geometry (slice_index_or lines line empty_line).bytes
