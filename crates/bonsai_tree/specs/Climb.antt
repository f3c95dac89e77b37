-- What a call makes of the tree, the bus and the tag engine that reads and writes nodes of a level and of those above it
-- alone. It serves private contracts alone.
use Rattle.std.specs.Prelude.{◌≡◌, ◌≢◌, ◌⊎◌, ℕ, ◌+◌, ◌%◌, ◌<◌, ◌≤◌, List, length, true, Option, Some, None, Contains}
use Rattle.sec_base.specs.Count.{Rose}
use Rattle.sec_base.specs.Evidence.{evidence_place}
use Rattle.sec_base.specs.LastMessage.{last_node}
use Rattle.sec_base.specs.declared.counter.Counter.{Counter}
use Rattle.sec_base.specs.declared.evidence.Evidence.{Evidence}
use Rattle.sec_base.specs.declared.message.Message.{Message}
use Rattle.sec_base.specs.declared.message.Message.TheVariants.{Node}
use Rattle.sec_base.specs.declared.place.Place.{Place}
use Rattle.sec_base.specs.declared.place.Place.TheVariants.{Node as node_place}
use Rattle.sec_base.specs.declared.stop.MemStop.{MemStop}
use Rattle.sec_base.specs.declared.stop.MemStop.TheVariants.{Tampered, Spent, NoMemory}
use Rattle.cache_set.specs.declared.way.Way.{Way}
use Rattle.bus_model.specs.BusHistory.{BusHistory}
use Rattle.tag_engine.specs.TagEngine.{TagEngineView}
use Rattle.checked_bus.specs.Steps.{IsAccounted, Moves, SameLines}
use Rattle.bonsai_tree.specs.Node.{level_blocks, times_made}
use Rattle.bonsai_tree.specs.NodeCache.{AreNodeCaches, level_cache, node_sets}
use Rattle.bonsai_tree.specs.Tree.{HoldsTree, IsNodeFrom, NodesAreMade, NodesHoldLast, SlotsAreTags, TreeView, CameBeside, UnmadeAreUnread, WasReadUp, WritesBack, cached_node}

-- What a call on nodes of the level `from` and above makes of the tree, the bus and the tag engine.
pub record Climbs {T : Type 0} (tags : TagEngineView T → Message → List ℕ) (from : ℕ) (tree : TreeView) (old : BusHistory)
    (engine : TagEngineView T) (tree' : TreeView) (new : BusHistory) (engine' : TagEngineView T) (stop : Option MemStop) : Type 0 where
  pub moves : Moves old engine new engine'
  pub lines : SameLines old engine.made new engine'.made
  pub geometry : tree'.geometry ≡ tree.geometry
  pub root : tree'.root ≡ tree.root
  pub nodes : AreNodeCaches tree.geometry tree.caches → AreNodeCaches tree'.geometry tree'.caches
  -- levels below are left alone
  pub copies : (level : ℕ) → level < from → level_cache tree'.caches level ≡ level_cache tree.caches level
  pub last : (level index : ℕ) → level < from → last_node level index engine'.made ≡ last_node level index engine.made
  pub blocks : (level : ℕ) → level < from → level_blocks level engine'.made ≡ level_blocks level engine.made
  pub written : (level index : ℕ) → level < from → new.written (node_place level index) ≡ old.written (node_place level index)
  pub reads : (level index : ℕ) → level < from → new.reads (node_place level index) ≡ old.reads (node_place level index)
  -- the tree fits still; false answers are accounted for, and both tampering and evidence come only where one was
  pub holds : HoldsTree tags tree old engine → stop ≢ Some NoMemory → HoldsTree tags tree' new engine'
  pub honest : HoldsTree tags tree old engine → (used : List (ℕ × Counter)) →
      IsAccounted (tags engine) used engine.made old None engine.evidence →
      IsAccounted (tags engine) used engine'.made new stop engine'.evidence
  pub lied : HoldsTree tags tree old engine → engine.evidence ≡ None → (place : Place) → stop ≡ Some (Tampered place) →
      Rose old.lies new.lies
  pub shown : HoldsTree tags tree old engine → engine.evidence ≡ None → engine'.evidence ≢ None → Rose old.lies new.lies
  pub tampered : (place : Place) → stop ≡ Some (Tampered place) → IsNodeFrom tree.geometry from place
  pub found : engine.evidence ≡ None → (evidence : Evidence) → engine'.evidence ≡ Some evidence →
      IsNodeFrom tree.geometry from (evidence_place evidence)
  pub unspent : (spent : ℕ) → stop ≢ Some (Spent spent)
  -- what was made took its room
  pub room : engine.room ≤ engine'.room + length moves.more
  pub no_rise : engine'.room ≤ engine.room
  pub made_blocks : NodesAreMade tree.geometry engine.made old.written → NodesAreMade tree.geometry engine'.made new.written
  pub last_blocks : stop ≢ Some NoMemory → NodesHoldLast tree.geometry engine.made old.written → NodesHoldLast tree.geometry engine'.made new.written
  -- slots of nodes that were made have the tags of their children's last messages, or zeros
  pub slots : HoldsTree tags tree old engine → engine'.evidence ≡ None → SlotsAreTags (tags engine) tree.geometry engine.made →
      SlotsAreTags (tags engine) tree.geometry engine'.made
  -- what has a copy came, or had one; a node that was never made is not read
  pub read : HoldsTree tags tree old engine → engine'.evidence ≡ None → (level index : ℕ) → cached_node tree' level index ≢ None →
      WasReadUp tree engine.made level index old new
  pub unread : HoldsTree tags tree old engine → engine'.evidence ≡ None → UnmadeAreUnread old engine'.made new

-- no node
abbrev pub NoNode : ℕ → ℕ → List ℕ → Type 0
NoNode level index block = ⊥

-- a node with its block
abbrev pub IsBlockOf : ℕ → ℕ → List ℕ → ℕ → ℕ → List ℕ → Type 0
IsBlockOf level index block other at bytes = (other ≡ level) × (at ≡ index) × (bytes ≡ block)

-- the node of a changed way with its copy, where it was made and perhaps written
abbrev pub IsVictim : ℕ → Way → Option MemStop → ℕ → ℕ → List ℕ → Type 0
IsVictim level way stop other at bytes =
    IsBlockOf level way.place way.copy other at bytes × (way.changed ≡ true) × ((stop ≡ None) ⊎ (stop ≡ Some NoMemory))

-- Nodes from a level up are written back, and what was made below it is as said, of each node once at most.
pub record WritesUp (quiet : Type 0) (from : ℕ) (Own : ℕ → ℕ → List ℕ → Type 0) (tree : TreeView) (old : BusHistory) (made : List Message) (tree' : TreeView)
    (new : BusHistory) (made' : List Message) (stop : Option MemStop) : Type 0 where
  pub back : WritesBack quiet from tree old made tree' new made' stop
  pub own : (level index : ℕ) (block : List ℕ) → level < from → Contains back.more (Node level index block) → Own level index block
  pub once : (level index : ℕ) → level < from → times_made level index back.more ≤ 1

-- A copy goes out for a node, which may not have come yet, or for another that came.
pub record MakesRoom (level index : ℕ) (tree : TreeView) (old : BusHistory) (made : List Message) (tree' : TreeView) (new : BusHistory)
    : Type 0 where
  pub out : (other at : ℕ) → cached_node tree other at ≢ None → cached_node tree' other at ≡ None →
      ((other ≡ level) × (at % node_sets ≡ index % node_sets)) ⊎ CameBeside tree.geometry made other at old new
