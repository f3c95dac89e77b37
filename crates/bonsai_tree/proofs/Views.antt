-- What becomes of the tree that contracts see, by what becomes of the caches of its nodes.
use Rattle.std.proofs.Common.{◌≡◌, ◌≢◌, ℕ, List, Option, Some, None, IsSome, ap, sym, ◌∙◌}
use Rattle.std.specs.Option.{option_map}
use Rattle.cache_set.specs.declared.way.Way.{Way}
use Rattle.cache_set.specs.Cache.{set_at}
use Rattle.cache_set.proofs.Ways.{latest_found}
use Rattle.bonsai_tree.specs.NodeCache.{IsLatestNode, NodeCacheView, OtherLevels, OtherNodes, copy_of, level_cache, node_way}
use Rattle.bonsai_tree.specs.Tree.{TreeView, cached_node}
use Rattle.bonsai_tree.proofs.Nodes.{SameNode}

-- the tree over caches of nodes
abbrev pub tree_of : List ℕ → NodeCacheView → TreeView
tree_of root nodes = record { geometry = nodes.geometry; root = root; caches = nodes.caches }

pub some_copy : (found : Option Way) → IsSome found → option_map copy_of found ≢ None
some_copy None some none = absurd (cc)
some_copy (Some way) some none = absurd (cc)

-- a node whose copy is the most recently used one has a copy
pub latest_cached : (tree : TreeView) (level index : ℕ) → IsLatestNode tree.caches level index → cached_node tree level index ≢ None
latest_cached tree level index latest =
    some_copy (node_way tree.caches level index) (latest_found index (set_at (level_cache tree.caches level) index) latest)

module _ {tree : TreeView} (root : List ℕ) (nodes nodes' : NodeCacheView) (view_is : tree_of root nodes ≡ tree) where
  pub geometry_as : nodes'.geometry ≡ nodes.geometry → nodes'.geometry ≡ tree.geometry
  geometry_as same = same ∙ ap (λ (v : TreeView). v.geometry) view_is

  pub root_as : root ≡ tree.root
  root_as = ap (λ (v : TreeView). v.root) view_is

  pub others_as : (level : ℕ) → OtherLevels level nodes.caches nodes'.caches → OtherLevels level tree.caches nodes'.caches
  others_as level others other apart = others other apart ∙ ap (λ (v : TreeView). level_cache v.caches other) view_is

  pub same_as : (level index : ℕ) → OtherNodes level index nodes.caches nodes'.caches → (other at : ℕ) → ¬ (SameNode level index other at) →
      cached_node (tree_of root nodes') other at ≡ cached_node tree other at
  same_as level index same other at apart = ap (option_map copy_of) (same other at apart) ∙ ap (λ (v : TreeView). cached_node v other at) view_is

  pub all_as : ((other at : ℕ) → node_way nodes'.caches other at ≡ node_way nodes.caches other at) → (other at : ℕ) →
      cached_node (tree_of root nodes') other at ≡ cached_node tree other at
  all_as same other at = ap (option_map copy_of) (same other at) ∙ ap (λ (v : TreeView). cached_node v other at) view_is

-- a node that has no way in the caches has no copy
pub not_held : (tree : TreeView) (root : List ℕ) (nodes : NodeCacheView) (level index : ℕ) → tree_of root nodes ≡ tree →
    node_way nodes.caches level index ≡ None → cached_node tree level index ≡ None
not_held tree root nodes level index view_is none =
    sym (ap (λ (v : TreeView). cached_node v level index) view_is) ∙ ap (option_map copy_of) none
