-- Which nodes calls of the tree had on the chip, in order, and what that makes of the sets of their levels.
use Rattle.std.specs.Prelude.{◌≡◌, ◌==◌, ◌⊎◌, ℕ, ◌+◌, ◌-◌, ◌%◌, ◌<◌, ◌≤◌, List, [], ◌∷◌, ◌++◌, drop, length, map, Bool, not, false, slice_index_or, if◌then◌else◌}
use Rattle.std.specs.List.{Contains, filter, list_any}
use Rattle.sec_base.specs.Geometry.{GeometryView, parent}
use Rattle.sec_base.specs.declared.message.Message.{Message}
use Rattle.sec_base.specs.declared.message.Message.TheVariants.{Node}
use Rattle.sec_base.specs.declared.place.Place.{Place}
use Rattle.sec_base.specs.declared.place.Place.TheVariants.{Node as node_place}
use Rattle.cache_set.specs.Cache.{place_of}
use Rattle.bus_model.specs.BusHistory.{BusHistory}
use Rattle.bonsai_tree.specs.Node.{path_index}
use Rattle.bonsai_tree.specs.NodeCache.{level_cache, node_sets}
use Rattle.bonsai_tree.specs.Tree.{HasChild, TreeView, above}

-- the nodes of a set of a level that have a copy, the least recently used one first
abbrev pub set_order : TreeView → ℕ → ℕ → List ℕ
set_order tree level set = map place_of (slice_index_or (level_cache tree.caches level) set [])

-- a node is among them
abbrev pub is_in : ℕ → List ℕ → Bool
is_in index order = list_any (λ other. other == index) order

-- without the least recently used one of two
abbrev pub with_room_in : List ℕ → List ℕ
with_room_in [] = []
with_room_in (index ∷ []) = index ∷ []
with_room_in (index ∷ next ∷ order) = next ∷ order

-- A node of the set was had: it is the most recently used one, and where it had no copy and there were two, the least recently
-- used one of them is gone.
abbrev pub once_had : ℕ → List ℕ → List ℕ
once_had index order =
    (if is_in index order then filter (λ other. not (other == index)) order else with_room_in order) ++ index ∷ []

-- the level and the index of a node are of this set
abbrev pub is_of_set : ℕ → ℕ → ℕ × ℕ → Bool
is_of_set level set node = if node.0 == level then node.1 % node_sets == set else false

-- the order of a set of a level once these nodes were had, of whatever level and set
abbrev pub after_had : ℕ → ℕ → List (ℕ × ℕ) → List ℕ → List ℕ
after_had level set [] order = order
after_had level set (node ∷ had) order =
    after_had level set had (if is_of_set level set node then once_had node.1 order else order)

-- one, where a node was had that had no copy
abbrev pub miss_of : ℕ → ℕ → ℕ × ℕ → List ℕ → ℕ
miss_of level index node order =
    if node.0 == level then (if node.1 == index then (if is_in index order then 0 else 1) else 0) else 0

-- how often a node was had that had no copy
abbrev pub misses : ℕ → ℕ → List (ℕ × ℕ) → List ℕ → ℕ
misses level index [] order = 0
misses level index (node ∷ had) order = miss_of level index node order
    + misses level index had (if is_of_set level (index % node_sets) node then once_had node.1 order else order)

-- a node above one of which these messages are
pub record IsAboveMade (geometry : GeometryView) (more : List Message) (level index : ℕ) : Type 0 where
  pub below : ℕ
  pub child : ℕ
  pub block : List ℕ
  pub listed : Contains more (Node below child block)
  pub higher : below < level
  pub on_path : index ≡ above geometry child (level - below)

-- a node on the path of a page whose place may be named, or above a node that was made
abbrev pub MayBeHad : GeometryView → (Place → Type 0) → List Message → ℕ → ℕ → Type 0
MayBeHad geometry Where more level index =
    ((page : ℕ) × Where (node_place 0 page) × (index ≡ path_index geometry level page)) ⊎ IsAboveMade geometry more level index

-- Nodes of a level and of those above it were had, one after another, all that must be and none but those that may be: each is
-- the most recently used one of its set then, and only of a full set one goes out for it, the least recently used one. A node is
-- read once at most for each time that it had no copy.
pub record NodesHad (May Must : ℕ → ℕ → Type 0) (from : ℕ) (tree : TreeView) (old : BusHistory) (tree' : TreeView) (new : BusHistory)
    : Type 0 where
  pub had : List (ℕ × ℕ)
  pub each : (level index : ℕ) → Contains had (level, index) → (from ≤ level) × May level index
  pub all : (level index : ℕ) → Must level index → Contains had (level, index)
  -- with each node below the top that had no copy at first, its parent was had
  pub climbed : (level index : ℕ) → Contains had (level, index) → level < tree.geometry.levels →
      is_in index (set_order tree level (index % node_sets)) ≡ false → Contains had (parent tree.geometry level index)
  pub orders : (level set : ℕ) → set_order tree' level set ≡ after_had level set had (set_order tree level set)
  pub reads : (level index : ℕ) → from ≤ level →
      new.reads (node_place level index)
      ≤ old.reads (node_place level index) + misses level index had (set_order tree level (index % node_sets))

-- What follows serves private contracts alone.

-- the messages that came to those that were made
abbrev pub since : List Message → List Message → List Message
since made made' = drop (length made) made'

-- a node or one above it, or above one that was made
abbrev pub MayClimb : GeometryView → ℕ → ℕ → List Message → ℕ → ℕ → Type 0
MayClimb geometry level index more other at =
    ((level ≤ other) × (at ≡ above geometry index (other - level))) ⊎ IsAboveMade geometry more other at

-- the node itself, where the tree has its level, or the parent of one that was made
abbrev pub MustClimb : GeometryView → ℕ → ℕ → List Message → ℕ → ℕ → Type 0
MustClimb geometry level index more other at =
    ((level ≤ geometry.levels) × (other ≡ level) × (at ≡ index)) ⊎ HasChild geometry more other at

-- the order of each set is the same
abbrev pub SameOrders : TreeView → TreeView → Type 0
SameOrders tree tree' = (level set : ℕ) → set_order tree' level set ≡ set_order tree level set

-- A set of a level has this order now, and all others are the same.
pub record SetBecomes (level set : ℕ) (order : List ℕ) (tree tree' : TreeView) : Type 0 where
  pub order_is : set_order tree' level set ≡ order
  pub others : (other at : ℕ) → ¬ ((other ≡ level) × (at ≡ set)) → set_order tree' other at ≡ set_order tree other at

-- Nodes of the levels above were had, and none of the level itself was read.
pub record HadAbove (May Must : ℕ → ℕ → Type 0) (level : ℕ) (tree : TreeView) (old : BusHistory) (tree' : TreeView) (new : BusHistory)
    : Type 0 where
  pub had : NodesHad May Must (level + 1) tree old tree' new
  pub unread : (index : ℕ) → new.reads (node_place level index) ≡ old.reads (node_place level index)

-- So it was, and then the least recently used one of two nodes is gone of the set of a node, which has room.
pub record RoomHad (May Must : ℕ → ℕ → Type 0) (level index : ℕ) (tree : TreeView) (old : BusHistory) (tree' : TreeView) (new : BusHistory)
    : Type 0 where
  pub mid : TreeView
  pub above : HadAbove May Must level tree old mid new
  pub room : SetBecomes level (index % node_sets) (with_room_in (set_order mid level (index % node_sets))) mid tree'

-- A node came, as the most recently used one of its set, and was read once at most, and no other.
pub record NodeAdded (level index : ℕ) (tree : TreeView) (old : BusHistory) (tree' : TreeView) (new : BusHistory) : Type 0 where
  pub added : SetBecomes level (index % node_sets) (set_order tree level (index % node_sets) ++ index ∷ []) tree tree'
  pub once : new.reads (node_place level index) ≤ old.reads (node_place level index) + 1
  pub alone : (other at : ℕ) → ¬ ((other ≡ level) × (at ≡ index)) → new.reads (node_place other at) ≡ old.reads (node_place other at)
