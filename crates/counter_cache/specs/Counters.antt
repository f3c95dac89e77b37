-- What contracts see of the counters of all pages: the tree over their counter blocks, and the copies of counter blocks.
use Rattle.std.specs.Prelude.{◌≡◌, ◌≢◌, ◌⊎◌, ℕ, ◌*◌, ◌<◌, List, [], ◌∷◌, ◌++◌, length, true, false, Option, Some, None}
use Rattle.std.specs.Option.{option_map}
use Rattle.sec_base.specs.Geometry.{GeometryView, page_count}
use Rattle.sec_base.specs.LastMessage.{last_node}
use Rattle.sec_base.specs.declared.evidence.Evidence.{Evidence}
use Rattle.sec_base.specs.declared.evidence.Evidence.TheVariants.{Collision}
use Rattle.sec_base.specs.declared.message.Message.{Message}
use Rattle.cache_set.specs.declared.way.Way.{Way}
use Rattle.cache_set.specs.Cache.{IsCache, place_of, places, victim_for, way_at}
use Rattle.bus_model.specs.BusHistory.{BusHistory}
use Rattle.tag_engine.specs.TagEngine.{TagEngineView}
use Rattle.split_counter.specs.CounterBlock.{CounterBlockView, block_of}
use Rattle.bonsai_tree.specs.Node.{CachedNode, current_of, level_blocks, page_block}
use Rattle.bonsai_tree.specs.NodeCache.{copy_of}
use Rattle.bonsai_tree.specs.Tree.{HasFewNodes, HoldsTree, IsKept, NodeCame, TreeView, path_accesses}

-- how many sets of two ways there are, and how many copies at most
abbrev pub block_sets : ℕ
block_sets = 16

-- how many counter blocks the cache has room for: two in each set
abbrev pub most_blocks : ℕ
most_blocks = 32

-- the tree over the counter blocks, and the sets of ways with copies of them
pub record CountersView : Type 0 where
  pub tree : TreeView
  pub blocks : List (List Way)

-- the pages whose counter block has a copy on the chip
abbrev pub cached_pages : CountersView → List ℕ
cached_pages counters = places counters.blocks

-- the copy of a page's block
abbrev pub cached_block : CountersView → ℕ → Option CachedNode
cached_block counters page = option_map copy_of (way_at counters.blocks page)

-- the current block of a page: its copy on the chip, else that of its last message, else zeros
abbrev pub current_page : CountersView → List Message → ℕ → List ℕ
current_page counters made page = current_of (cached_block counters page) (last_node 0 page made)

-- the current counters of a page
abbrev pub counters_in : CountersView → List Message → ℕ → CounterBlockView
counters_in counters made page = block_of (current_page counters made page)

-- The page whose copy goes out where that of another page comes: the least recently used one of its set, where both ways are in
-- use. None does where the page has a copy.
abbrev pub leaving_page : CountersView → ℕ → Option ℕ
leaving_page counters page = option_map place_of (victim_for counters.blocks page)

-- it was not changed, or none goes out
abbrev pub LeavesClean : CountersView → ℕ → Type 0
LeavesClean counters page = (other : ℕ) (copy : CachedNode) → leaving_page counters page ≡ Some other → cached_block counters other ≡ Some copy →
    copy.changed ≡ false

-- One message more of a counter block was made: that of the copy, which was changed, of the page that leaves for another.
pub record LeavingIsMade (counters : CountersView) (page : ℕ) (made made' : List Message) : Type 0 where
  pub other : ℕ
  pub block : List ℕ
  pub leaves : leaving_page counters page ≡ Some other
  pub changed : cached_block counters other ≡ Some (record { block = block; changed = true })
  pub one : level_blocks 0 made' ≡ level_blocks 0 made ++ (other, block) ∷ []

-- none was made, or that one
abbrev pub OnlyLeavingIsMade : CountersView → ℕ → List Message → List Message → Type 0
OnlyLeavingIsMade counters page made made' = (level_blocks 0 made' ≡ level_blocks 0 made) ⊎ LeavingIsMade counters page made made'

-- Each copy is of a page's block, and whole.
pub record AreBlocks (geometry : GeometryView) (blocks : List (List Way)) : Type 0 where
  pub cache : IsCache block_sets blocks
  pub pages : (page : ℕ) (way : Way) → way_at blocks page ≡ Some way → page < page_count geometry
  pub whole : (page : ℕ) (way : Way) → way_at blocks page ≡ Some way → length way.copy ≡ 64

-- The copies of blocks are right, and there are few of nodes.
pub record AreCopies (counters : CountersView) : Type 0 where
  pub blocks : AreBlocks counters.tree.geometry counters.blocks
  pub few_nodes : HasFewNodes counters.tree

-- There is evidence, or the tree over the counter blocks fits, and a copy that was not changed is the last block of its page.
pub record HoldsCounters {T : Type 0} (tags : TagEngineView T → Message → List ℕ) (counters : CountersView)
    (history : BusHistory) (engine : TagEngineView T) : Type 0 where
  pub tree : HoldsTree tags counters.tree history engine
  pub clean : engine.evidence ≡ None → (page : ℕ) (copy : CachedNode) → cached_block counters page ≡ Some copy → copy.changed ≡ false →
      copy.block ≡ page_block page engine.made

-- The current counters of all pages are the same.
abbrev pub SameCounters : CountersView → List Message → CountersView → List Message → Type 0
SameCounters counters made counters' made' = (page : ℕ) → counters_in counters' made' page ≡ counters_in counters made page

-- How many accesses and messages a get and a bump make at most: what it takes to write a victim, and to fetch the page's block.
abbrev pub counter_accesses : ℕ → ℕ
counter_accesses levels = 2 * path_accesses levels

-- a page's block was never made before the call, or was read from its place
abbrev pub CameFrom : List Message → BusHistory → BusHistory → ℕ → Type 0
CameFrom made old new page = NodeCame made 0 page old new

-- Each page whose block has a copy had one before and has the same last block; or its block was read from its place, or never
-- made: so was one that went out with other counters, and came again.
abbrev pub BlocksCameUnlessHeld : CountersView → BusHistory → List Message → CountersView → BusHistory → List Message → Type 0
BlocksCameUnlessHeld counters old made counters' new made' = (page : ℕ) → cached_block counters' page ≢ None →
    ((cached_block counters page ≢ None) × (last_node 0 page made' ≡ last_node 0 page made)) ⊎ NodeCame made' 0 page old new

-- The block is the copy that a page has; where it has none, one with the tag that the tree keeps of the page's block after it,
-- or zeros, where it keeps none.
abbrev pub IsCopyOrTagged : Option CachedNode → (Message → List ℕ) → TreeView → List Message → ℕ → List ℕ → Type 0
IsCopyOrTagged (Some copy) tag_of tree made page block = block ≡ copy.block
IsCopyOrTagged None tag_of tree made page block = IsKept tag_of tree made 0 page block

-- The block of a page that a call had, as it was answered.
pub record IsHad (tag_of : Message → List ℕ) (counters counters' : CountersView) (made' : List Message) (page : ℕ) (before after : Option Evidence)
    (block : List ℕ) : Type 0 where
  pub copy_or_tagged : IsCopyOrTagged (cached_block counters page) tag_of counters'.tree made' page block
  pub accepted : before ≡ None → (made_at : ℕ) (bytes tag : List ℕ) → after ≡ Some (Collision 0 page made_at bytes tag) → block ≡ bytes
