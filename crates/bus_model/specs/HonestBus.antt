-- An honest bus: what it keeps, and what that stands for.
use Rattle.std.specs.Prelude.{◌≡◌, ◌≢◌, ◌==◌, ℕ, ◌+◌, List, replicate, slice_index, Some, None, Bool, ◌&&◌, nat_eq, nat_lt, if◌then◌else◌}
use Rattle.std.specs.Map.{lookup}
use Rattle.std.specs.Option.{unwrap_or}
use Rattle.sec_base.specs.Geometry.{GeometryView, node_number, width}
use Rattle.sec_base.specs.Evidence.{sealed_bytes}
use Rattle.sec_base.specs.Tag.{IsTag}
use Rattle.sec_base.specs.declared.geometry.Layout.{Layout}
use Rattle.sec_base.specs.declared.place.Place.{Place}
use Rattle.sec_base.specs.declared.place.Place.TheVariants.{Line, Node}
use Rattle.sec_base.specs.declared.sealed.Sealed.{Sealed}
use Rattle.bus_model.specs.BusHistory.{BusHistory}

-- the shape of the tree; the lines and the nodes that are kept, by the line and by the node's number; for how many more
-- there is memory; how often each place was read, and how many reads and writes there were
pub record HonestBusView : Type 0 where
  pub geometry : GeometryView
  pub lines : List (ℕ × Sealed)
  pub nodes : List (ℕ × List ℕ)
  pub room : ℕ
  pub line_reads : List ℕ
  pub node_reads : List ℕ
  pub accesses : ℕ

-- What the place of a line holds that is not kept.
abbrev pub empty_line : Sealed
empty_line = record { cipher = replicate 64 0; tag = replicate 16 0 }

-- what the place of a node holds that is not kept
abbrev pub empty_node : List ℕ
empty_node = replicate 64 0

-- what is kept under a number, or what is there where nothing is kept
abbrev pub kept_at : {A : Type 0} → A → List (ℕ × A) → ℕ → A
kept_at empty entries number = unwrap_or (lookup (nat_eq number) entries) empty

-- a value is kept under a number, and what is kept under others stays
abbrev pub Keeps : {A : Type 0} → A → ℕ → A → List (ℕ × A) → List (ℕ × A) → Type 0
Keeps empty number value old new = (other : ℕ) → kept_at empty new other ≡ (if other == number then value else kept_at empty old other)

-- nothing is kept that would be there anyway
pub record IsSparse {A : Type 0} (empty : A) (entries : List (ℕ × A)) : Type 0 where
  pub some : (number : ℕ) → lookup (nat_eq number) entries ≢ Some empty

-- the tags of all lines are tags of this layout
pub record HoldsTags (layout : Layout) (lines : List (ℕ × Sealed)) : Type 0 where
  pub fits : (line : ℕ) → IsTag layout (kept_at empty_line lines line).tag

-- the node is one of the tree's
abbrev pub is_node : GeometryView → ℕ → ℕ → Bool
is_node geometry level index = nat_lt level (geometry.levels + 1) && nat_lt index (width geometry level)

-- what was written at a place; nothing was at a node that is none of the tree's
abbrev pub place_bytes : HonestBusView → Place → List ℕ
place_bytes kept (Line line) = sealed_bytes (kept_at empty_line kept.lines line)
place_bytes kept (Node level index) =
    if is_node kept.geometry level index then kept_at empty_node kept.nodes (node_number kept.geometry level index) else empty_node

-- how often a place was read
abbrev pub place_reads : HonestBusView → Place → ℕ
place_reads kept (Line line) = slice_index kept.line_reads line
place_reads kept (Node level index) =
    if is_node kept.geometry level index then slice_index kept.node_reads (node_number kept.geometry level index) else 0

-- each answer was what had been written
abbrev pub honest_history : HonestBusView → BusHistory
honest_history kept =
    record {
      geometry = kept.geometry;
      written = place_bytes kept;
      reads = place_reads kept;
      accesses = kept.accesses;
      lies = 0;
      lie = None;
    }
