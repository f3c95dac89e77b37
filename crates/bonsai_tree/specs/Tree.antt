-- The tree over the counter blocks (a Bonsai Merkle tree: Rogers et al., MICRO 2007), and when it fits the messages that
-- were made and what stands outside.
use Rattle.std.specs.Prelude.{◌≡◌, ◌⊎◌, ℕ, ◌+◌, ◌-◌, ◌/◌, ◌%◌, ◌^◌, ◌<◌, ◌≤◌, List, length, false, nat_lt, if◌then◌else◌, Option, Some, None, Contains, Result, Ok, Err, ◌≢◌, ◌++◌, ◌∷◌, true}
use Rattle.std.specs.Option.{option_map}
use Rattle.sec_base.specs.Count.{Rose, RoseBy, more_by}
use Rattle.sec_base.specs.Geometry.{GeometryView, IsNode, arity, child, parent, slot}
use Rattle.sec_base.specs.LastMessage.{last_node}
use Rattle.sec_base.specs.Place.{zeros_of}
use Rattle.sec_base.specs.declared.message.Message.{Message}
use Rattle.sec_base.specs.declared.message.Message.TheVariants.{Node}
use Rattle.sec_base.specs.declared.place.Place.{Place}
use Rattle.sec_base.specs.declared.place.Place.TheVariants.{Node as node_place}
use Rattle.sec_base.specs.declared.stop.MemStop.{MemStop}
use Rattle.sec_base.specs.declared.stop.MemStop.TheVariants.{NoMemory as no_memory}
use Rattle.sec_base.specs.declared.stop.NoMemory.{NoMemory}
use Rattle.cache_set.specs.declared.way.Way.{Way}
use Rattle.bus_model.specs.BusHistory.{BusHistory}
use Rattle.tag_engine.specs.TagEngine.{TagEngineView}
use Rattle.checked_bus.specs.Steps.{unwritten_in}
use Rattle.bonsai_tree.specs.Node.{CachedNode, block_or_zeros, current_of, no_block, no_tag, path_index, tag_in_slot, tag_of_last, times_made, unread_count}
use Rattle.bonsai_tree.specs.NodeCache.{copied_nodes, most_copies, node_copy, node_sets}

-- the geometry, the root register, which has the tag that is kept of the top node, and the copies of nodes on the chip
pub record TreeView : Type 0 where
  pub geometry : GeometryView
  pub root : List ℕ
  pub caches : List (List (List Way))

-- the copy of a node on the chip: one of level 0 has none
abbrev pub cached_node : TreeView → ℕ → ℕ → Option CachedNode
cached_node tree level index = node_copy tree.caches level index

-- a node has a copy that is marked as changed
abbrev pub IsMarked : TreeView → ℕ → ℕ → Type 0
IsMarked tree level index = option_map (λ copy. copy.changed) (cached_node tree level index) ≡ Some true

-- the nodes of a level with a copy on the chip
abbrev pub cached_nodes : TreeView → ℕ → List ℕ
cached_nodes tree level = copied_nodes tree.caches level

-- no level has more copies of nodes than its sets have ways
abbrev pub HasFewNodes : TreeView → Type 0
HasFewNodes tree = (level : ℕ) → length (cached_nodes tree level) ≤ most_copies

-- the current block of a node: its copy on the chip, else that of its last message, else zeros
abbrev pub current_block : TreeView → List Message → ℕ → ℕ → List ℕ
current_block tree made level index = current_of (cached_node tree level index) (last_node level index made)

-- the tag that the chip can rely on for a node: in its parent's current block, or of the top node in the root register
abbrev pub kept_tag : TreeView → List Message → ℕ → ℕ → List ℕ
kept_tag tree made level index =
    if nat_lt level tree.geometry.levels
    then tag_in_slot tree.geometry (slot tree.geometry index)
    (current_block tree made (parent tree.geometry level index).0 (parent tree.geometry level index).1)
    else tree.root

-- what may be answered for a node: zeros, where no tag is kept of it; else a block with the tag that is kept
abbrev pub IsKept : (Message → List ℕ) → TreeView → List Message → ℕ → ℕ → List ℕ → Type 0
IsKept tag_of tree made level index block =
    ((kept_tag tree made level index ≡ no_tag) × (block ≡ no_block)) ⊎ (tag_of (Node level index block) ≡ kept_tag tree made level index)

-- The tree fits the messages and what stands outside.
pub record IsTree (tag_of : Message → List ℕ) (tree : TreeView) (made : List Message) (written : Place → List ℕ) : Type 0 where
  -- the tag of each node's last block is kept by its parent, and that of the top node in the root register; zeros are, of
  -- a node that was never made
  pub slots : (level index : ℕ) → IsNode tree.geometry level index →
      kept_tag tree made level index ≡ tag_of_last tag_of level index (last_node level index made)
  -- each node's place holds its last block, or zeros where it was never made, and a copy that did not change is the same
  pub stored : (level index : ℕ) → IsNode tree.geometry level index →
      written (node_place level index) ≡ block_or_zeros (last_node level index made)
  pub clean : (level index : ℕ) (copy : CachedNode) → IsNode tree.geometry level index →
      cached_node tree level index ≡ Some copy → copy.changed ≡ false → copy.block ≡ block_or_zeros (last_node level index made)
  pub long : (level index : ℕ) → IsNode tree.geometry level index → length (current_block tree made level index) ≡ 64

-- There is evidence, or the tree fits.
pub record HoldsTree {T : Type 0} (tags : TagEngineView T → Message → List ℕ) (tree : TreeView) (history : BusHistory)
    (engine : TagEngineView T) : Type 0 where
  pub fits : engine.evidence ≡ None → IsTree (tags engine) tree engine.made history.written

-- the tree fitted as a call began, and there is no evidence as it ends
abbrev pub EndsQuietly : {T : Type 0} → (TagEngineView T → Message → List ℕ) → TreeView → BusHistory → TagEngineView T → TagEngineView T → Type 0
EndsQuietly tags tree history engine engine' = HoldsTree tags tree history engine × (engine'.evidence ≡ None)

-- Each node's place holds zeros or a block that was made for it.
pub record NodesAreMade (geometry : GeometryView) (made : List Message) (written : Place → List ℕ) : Type 0 where
  pub holds : (level index : ℕ) → IsNode geometry level index →
      (written (node_place level index) ≡ zeros_of (node_place level index))
      ⊎ Contains made (Node level index (written (node_place level index)))

-- The place of each node that was made holds its last block.
pub record NodesHoldLast (geometry : GeometryView) (made : List Message) (written : Place → List ℕ) : Type 0 where
  pub holds : (level index : ℕ) (block : List ℕ) → IsNode geometry level index → last_node level index made ≡ Some block →
      written (node_place level index) ≡ block

-- Each time a node above level 0 was made, each of its slots had the tag of that child's last message, or zeros where the
-- child was never made.
pub record SlotsAreTags (tag_of : Message → List ℕ) (geometry : GeometryView) (made : List Message) : Type 0 where
  pub tagged : (before after : List Message) (level index at : ℕ) (block : List ℕ) →
      made ≡ before ++ Node (level + 1) index block ∷ after → at < arity geometry →
      tag_in_slot geometry at block ≡ tag_of_last tag_of level (child geometry index at) (last_node level (child geometry index at) before)

-- a node's place was read, or none of these messages is of the node
abbrev pub NodeCame : List Message → ℕ → ℕ → BusHistory → BusHistory → Type 0
NodeCame made level index old new =
    (last_node level index made ≡ None) ⊎ Rose (old.reads (node_place level index)) (new.reads (node_place level index))

-- the place of a page's block was read exactly where a tag is kept of it, once
abbrev pub IsReadByTag : List ℕ → ℕ → BusHistory → BusHistory → Type 0
IsReadByTag tag page old new = ((tag ≡ no_tag) × (new.reads (node_place 0 page) ≡ old.reads (node_place 0 page)))
    ⊎ ((tag ≢ no_tag) × (new.reads (node_place 0 page) ≡ more_by 1 (old.reads (node_place 0 page))))

-- no place was read of a node that was never made
abbrev pub UnmadeAreUnread : BusHistory → List Message → BusHistory → Type 0
UnmadeAreUnread old made' new = (level index : ℕ) → last_node level index made' ≡ None →
    new.reads (node_place level index) ≡ old.reads (node_place level index)

-- The nodes on a page's path were read from a level on, up to the lowest one with a copy on the chip; where none has one,
-- all of them. A node that was never made is not read.
pub record PathWasRead (tree : TreeView) (made : List Message) (from page : ℕ) (old new : BusHistory) : Type 0 where
  pub rose : (level : ℕ) → from ≤ level → level ≤ tree.geometry.levels →
      ((lower : ℕ) → from ≤ lower → lower ≤ level → cached_node tree lower (path_index tree.geometry lower page) ≡ None) →
      NodeCame made level (path_index tree.geometry level page) old new

-- a node so many levels above another, on the path to the top
abbrev pub above : GeometryView → ℕ → ℕ → ℕ
above geometry index more = index / arity geometry ^ more

-- The nodes from a node up were read, up to the lowest one that had a copy. A node that was never made is not read.
pub record WasReadUp (tree : TreeView) (made : List Message) (level index : ℕ) (old new : BusHistory) : Type 0 where
  pub rose : (more : ℕ) → level + more ≤ tree.geometry.levels →
      ((lower : ℕ) → lower ≤ more → cached_node tree (level + lower) (above tree.geometry index lower) ≡ None) →
      NodeCame made (level + more) (above tree.geometry index more) old new

-- Each node that has a copy had one before and has the same last block, or was never made, or was read: so was one that went out
-- with another block, and came again.
abbrev pub CameUnlessHeld : TreeView → BusHistory → List Message → TreeView → BusHistory → List Message → Type 0
CameUnlessHeld tree old made tree' new made' = (level index : ℕ) → cached_node tree' level index ≢ None →
    ((cached_node tree level index ≢ None) × (last_node level index made' ≡ last_node level index made)) ⊎ NodeCame made' level index old new

-- a place is that of a node of this level or of one above it
pub record IsNodeFrom (geometry : GeometryView) (from : ℕ) (place : Place) : Type 0 where
  pub level : ℕ
  pub index : ℕ
  pub node : IsNode geometry level index
  pub above : from ≤ level
  pub place_is : place ≡ node_place level index

-- a place that is read where a page's block is fetched: its own, or that of a node above level 0, since the path of a victim
-- is read as well
abbrev pub IsFetchPlace : GeometryView → ℕ → Place → Type 0
IsFetchPlace geometry page place = (place ≡ node_place 0 page) ⊎ IsNodeFrom geometry 1 place

-- No node of level 0 was made or written.
pub record SamePages (old : BusHistory) (made : List Message) (new : BusHistory) (made' : List Message) : Type 0 where
  pub last : (page : ℕ) → last_node 0 page made' ≡ last_node 0 page made
  pub written : (page : ℕ) → new.written (node_place 0 page) ≡ old.written (node_place 0 page)

-- a node of which a child has one of these messages
pub record HasChild (geometry : GeometryView) (more : List Message) (level index : ℕ) : Type 0 where
  pub below : ℕ
  pub child : ℕ
  pub block : List ℕ
  pub listed : Contains more (Node below child block)
  pub parent_is : parent geometry below child ≡ (level, index)

-- a copy that is as it was, or came and is not changed, or is of a node of which a child has one of these messages
abbrev pub IsCopyAfter : Type 0 → TreeView → BusHistory → List Message → BusHistory → List Message → ℕ → ℕ → CachedNode → Type 0
IsCopyAfter quiet tree old made new more level index copy =
    (cached_node tree level index ≡ Some copy)
    ⊎ (((copy.changed ≡ false) × (quiet → NodeCame made level index old new)) ⊎ HasChild tree.geometry more level index)

-- Nodes of a level and of those above it are written back. What was read is said where the call was quiet: where the tree
-- fitted before it and there is no evidence after it.
pub record WritesBack (quiet : Type 0) (from : ℕ) (tree : TreeView) (old : BusHistory) (made : List Message) (tree' : TreeView) (new : BusHistory)
    (made' : List Message) (stop : Option MemStop) : Type 0 where
  pub more : List Message
  pub made_more : made' ≡ made ++ more
  -- what was made of a node is a copy that was changed, unless a child of it was made
  pub changed : (level index : ℕ) (block : List ℕ) → from ≤ level → Contains more (Node level index block) →
      (cached_node tree level index ≡ Some (record { block = block; changed = true })) ⊎ HasChild tree.geometry more level index
  -- a node was made once at most for each copy of it that was there, was read, or came unread since the node had never been
  -- made, and that is gone; out of memory, one message of each node does not count
  pub once_a_copy : quiet → (level index : ℕ) → from ≤ level →
      RoseBy (times_made level index more + unread_count (cached_node tree' level index) (last_node level index made')
      - (unread_count (cached_node tree level index) (last_node level index made) + unwritten_in stop))
      (old.reads (node_place level index)) (new.reads (node_place level index))
  -- a changed copy that is gone, or is not changed any more, was made
  pub unmarked : (level index : ℕ) → IsMarked tree level index → ¬ IsMarked tree' level index → 0 < times_made level index more
  -- a copy is as it was, or came and is not changed, unless a child of its node was made
  pub copies : (level index : ℕ) (copy : CachedNode) → cached_node tree' level index ≡ Some copy →
      IsCopyAfter quiet tree old made new more level index copy

-- another node of the set that a node is in came
pub record CameBeside (geometry : GeometryView) (made : List Message) (level index : ℕ) (old new : BusHistory) : Type 0 where
  pub other : ℕ
  pub node : IsNode geometry level other
  pub differs : other ≢ index
  pub set : other % node_sets ≡ index % node_sets
  pub came : NodeCame made level other old new

-- Where a copy was evicted, another node of its set came: one is enough for both ways of the set.
pub record GoesOutFor (tree : TreeView) (old : BusHistory) (made : List Message) (tree' : TreeView) (new : BusHistory) : Type 0 where
  pub out : (level index : ℕ) → cached_node tree level index ≢ None → cached_node tree' level index ≡ None →
      CameBeside tree.geometry made level index old new

-- the stop of a call that can only find no memory
abbrev pub want_of : {A : Type 0} → Result A NoMemory → Option MemStop
want_of (Ok value) = None
want_of (Err stop) = Some no_memory

-- How many accesses it takes at most to have a node of a level on the chip: what it takes for the node above it, twice, once
-- for that of the victim and once for its own, a write of the victim and its own read.
abbrev pub present_accesses : ℕ → ℕ → ℕ
present_accesses levels level = 2 ^ (levels + 2 - level) - 2

-- How many accesses a fetch and an update make at most, and how many messages: what it takes for the node above the page's,
-- and one more.
abbrev pub path_accesses : ℕ → ℕ
path_accesses levels = 2 ^ (levels + 1) - 1
