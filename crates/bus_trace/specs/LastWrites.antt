-- What is kept of the writes among entries. Contracts of private calls alone cite it.
use Rattle.std.specs.Prelude.{◌≡◌, ◌==◌, ℕ, List, Bool, ◌&&◌, if◌then◌else◌}
use Rattle.std.specs.Map.{lookup}
use Rattle.std.specs.Option.{unwrap_or}
use Rattle.sec_base.specs.Evidence.{sealed_bytes}
use Rattle.sec_base.specs.declared.place.Place.{Place}
use Rattle.sec_base.specs.declared.place.Place.TheVariants.{Line, Node}
use Rattle.sec_base.specs.declared.sealed.Sealed.{Sealed}
use Rattle.bus_model.specs.HonestBus.{empty_line, empty_node, kept_at}

-- the lines and the nodes that were written, and what was written there last
pub record LastWritesView : Type 0 where
  pub lines : List (ℕ × Sealed)
  pub nodes : List ((ℕ × ℕ) × List ℕ)

-- two nodes are the same
abbrev pub node_eq : ℕ × ℕ → ℕ × ℕ → Bool
node_eq node other = (node.0 == other.0) && (node.1 == other.1)

-- what was written last at a node, zeros where nothing was
abbrev pub node_at : List ((ℕ × ℕ) × List ℕ) → ℕ → ℕ → List ℕ
node_at nodes level index = unwrap_or (lookup (node_eq (level, index)) nodes) empty_node

-- what was written last at a place
abbrev pub last_write : LastWritesView → Place → List ℕ
last_write kept (Line line) = sealed_bytes (kept_at empty_line kept.lines line)
last_write kept (Node level index) = node_at kept.nodes level index

-- a block is kept at a node, and what is kept at others stays
abbrev pub KeepsNode : ℕ → ℕ → List ℕ → List ((ℕ × ℕ) × List ℕ) → List ((ℕ × ℕ) × List ℕ) → Type 0
KeepsNode level index block old new =
    (other at : ℕ) → node_at new other at ≡ (if (other == level) && (at == index) then block else node_at old other at)
