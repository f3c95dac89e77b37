-- The copies of nodes on the chip: each level above level 0 has a cache of its own.
use Rattle.std.specs.Prelude.{◌≡◌, ◌≢◌, ℕ, zero, suc, ◌<◌, ◌≤◌, List, [], length, slice_index_or, Option, Some, None}
use Rattle.std.specs.Option.{option_map}
use Rattle.sec_base.specs.Geometry.{GeometryView, IsNode}
use Rattle.cache_set.specs.declared.way.Way.{Way}
use Rattle.cache_set.specs.Cache.{IsCache, IsLatest, places, way_at}
use Rattle.bonsai_tree.specs.Node.{CachedNode}

-- how many sets of two ways a level has, and how many copies at most
abbrev pub node_sets : ℕ
node_sets = 8

-- how many nodes the cache of one level has room for: two in each set
abbrev pub most_copies : ℕ
most_copies = 16

-- the shape of the tree, and the caches of level 1 and of those above it
pub record NodeCacheView : Type 0 where
  pub geometry : GeometryView
  pub caches : List (List (List Way))

-- the cache of a level: level 0 has none
abbrev pub level_cache : List (List (List Way)) → ℕ → List (List Way)
level_cache caches zero = []
level_cache caches (suc level) = slice_index_or caches level []

-- the way of a node in the cache of its level
abbrev pub node_way : List (List (List Way)) → ℕ → ℕ → Option Way
node_way caches level index = way_at (level_cache caches level) index

-- the copy of a node
abbrev pub copy_of : Way → CachedNode
copy_of way = record { block = way.copy; changed = way.changed }

-- the copy of a node in the cache of its level: its block, and whether it is dirty
abbrev pub node_copy : List (List (List Way)) → ℕ → ℕ → Option CachedNode
node_copy caches level index = option_map copy_of (node_way caches level index)

-- the nodes of a level that have a copy
abbrev pub copied_nodes : List (List (List Way)) → ℕ → List ℕ
copied_nodes caches level = places (level_cache caches level)

-- no node has one
abbrev pub AreEmpty : List (List (List Way)) → Type 0
AreEmpty caches = (level index : ℕ) → node_way caches level index ≡ None

-- the node is the most recently used one of its set
abbrev pub IsLatestNode : List (List (List Way)) → ℕ → ℕ → Type 0
IsLatestNode caches level index = IsLatest (level_cache caches level) index

-- the caches of all other levels are the same
abbrev pub OtherLevels : ℕ → List (List (List Way)) → List (List (List Way)) → Type 0
OtherLevels level old new = (other : ℕ) → other ≢ level → level_cache new other ≡ level_cache old other

-- the copies of all other nodes are the same
abbrev pub OtherNodes : ℕ → ℕ → List (List (List Way)) → List (List (List Way)) → Type 0
OtherNodes level index old new = (other at : ℕ) → ¬ ((other ≡ level) × (at ≡ index)) → node_way new other at ≡ node_way old other at

-- Each level from 1 to the top has its cache, of copies of its own nodes.
pub record AreNodeCaches (geometry : GeometryView) (caches : List (List (List Way))) : Type 0 where
  pub all : length caches ≡ geometry.levels
  pub each : (level : ℕ) → 0 < level → level ≤ geometry.levels → IsCache node_sets (level_cache caches level)
  pub nodes : (level index : ℕ) (way : Way) → node_way caches level index ≡ Some way → IsNode geometry level index
  pub whole : (level index : ℕ) (way : Way) → node_way caches level index ≡ Some way → length way.copy ≡ 64
