-- What calls make of the tree, the bus and the tag engine. It holds where nothing was called, and of two calls one after the other
-- where it holds of each and the first did not stop.
use Rattle.std.specs.Prelude.{◌≡◌, ◌≢◌, ℕ, ◌≤◌, List, Option, Some, None}
use Rattle.sec_base.specs.Count.{Rose}
use Rattle.sec_base.specs.Evidence.{evidence_place}
use Rattle.sec_base.specs.declared.counter.Counter.{Counter}
use Rattle.sec_base.specs.declared.evidence.Evidence.{Evidence}
use Rattle.sec_base.specs.declared.message.Message.{Message}
use Rattle.sec_base.specs.declared.place.Place.{Place}
use Rattle.sec_base.specs.declared.stop.MemStop.{MemStop}
use Rattle.sec_base.specs.declared.stop.MemStop.TheVariants.{Tampered, Spent, NoMemory}
use Rattle.bus_model.specs.BusHistory.{BusHistory}
use Rattle.tag_engine.specs.TagEngine.{TagEngineView}
use Rattle.checked_bus.specs.Steps.{IsAccounted, Moves, SameLines}
use Rattle.bonsai_tree.specs.NodesHad.{MayBeHad, NodesHad}
use Rattle.bonsai_tree.specs.Tree.{CameUnlessHeld, EndsQuietly, GoesOutFor, HasChild, HasFewNodes, HoldsTree, NodesAreMade, NodesHoldLast, SlotsAreTags, TreeView, UnmadeAreUnread, WasReadUp, WritesBack, cached_node}

-- The places that tampering and evidence may name are among these.
pub record TreeSteps {T : Type 0} (tags : TagEngineView T → Message → List ℕ) (Where : Place → Type 0) (tree : TreeView) (old : BusHistory)
    (engine : TagEngineView T) (tree' : TreeView) (new : BusHistory) (engine' : TagEngineView T) (stop : Option MemStop) : Type 0 where
  pub moves : Moves old engine new engine'
  pub lines : SameLines old engine.made new engine'.made
  pub geometry : tree'.geometry ≡ tree.geometry
  pub root : tree'.root ≡ tree.root
  pub few_nodes : HasFewNodes tree → HasFewNodes tree'
  pub no_rise : engine'.room ≤ engine.room
  -- the tree fits still, unless there was no memory
  pub holds : HoldsTree tags tree old engine → stop ≢ Some NoMemory → HoldsTree tags tree' new engine'
  -- A false answer is shown as evidence or taken for tampering, and both come only where one was.
  pub honest : HoldsTree tags tree old engine → (used : List (ℕ × Counter)) →
      IsAccounted (tags engine) used engine.made old None engine.evidence →
      IsAccounted (tags engine) used engine'.made new stop engine'.evidence
  pub lied : HoldsTree tags tree old engine → engine.evidence ≡ None → (place : Place) → stop ≡ Some (Tampered place) →
      Rose old.lies new.lies
  pub shown : HoldsTree tags tree old engine → engine.evidence ≡ None → engine'.evidence ≢ None → Rose old.lies new.lies
  pub tampered : (place : Place) → stop ≡ Some (Tampered place) → Where place
  pub found : engine.evidence ≡ None → (evidence : Evidence) → engine'.evidence ≡ Some evidence → Where (evidence_place evidence)
  pub unspent : (spent : ℕ) → stop ≢ Some (Spent spent)
  pub made_blocks : NodesAreMade tree.geometry engine.made old.written → NodesAreMade tree.geometry engine'.made new.written
  pub last_blocks : stop ≢ Some NoMemory → NodesHoldLast tree.geometry engine.made old.written →
      NodesHoldLast tree.geometry engine'.made new.written
  -- Each time a node above level 0 was made, each of its slots had the tag of that child's last message, or zeros where the
  -- child was never made.
  pub slots : HoldsTree tags tree old engine → engine'.evidence ≡ None → SlotsAreTags (tags engine) tree.geometry engine.made →
      SlotsAreTags (tags engine) tree.geometry engine'.made
  -- What has a copy on the chip was read, with the nodes above it, unless it had one or was never made before. Unless memory ran
  -- out, it was also read where it went out with another block, and came again. What was never made is not read.
  pub read : HoldsTree tags tree old engine → engine'.evidence ≡ None → (level index : ℕ) → cached_node tree' level index ≢ None →
      WasReadUp tree engine.made level index old new
  pub came : HoldsTree tags tree old engine → engine'.evidence ≡ None → stop ≢ Some NoMemory →
      CameUnlessHeld tree old engine.made tree' new engine'.made
  pub unread : HoldsTree tags tree old engine → engine'.evidence ≡ None → UnmadeAreUnread old engine'.made new
  -- What is made of a node above level 0 is a copy that was changed, unless a child of it was made in the call; and with evidence
  -- too, a changed copy that is gone was made. Where there is no evidence, a node is made once at most for each copy of it that was
  -- there before, was read in the call, or came unread since the node had never been made, and that is gone after it; out of
  -- memory, once more.
  pub written_back : WritesBack (EndsQuietly tags tree old engine engine') 1 tree old engine.made tree' new engine'.made stop
  -- Unless a call is refused, a copy is evicted only where another node of its set came: one is enough for both ways of the set.
  pub out_for : HoldsTree tags tree old engine → engine'.evidence ≡ None → stop ≡ None → GoesOutFor tree old engine.made tree' new
  -- With evidence too: which nodes were had, in which order, and what that makes of each set, unless the call is refused. Each of
  -- them is on the path of the page that is fetched, or above a node that was made, and the parent of each node that was made is
  -- among them.
  pub nodes_had : stop ≡ None →
      NodesHad (MayBeHad tree.geometry Where moves.more) (HasChild tree.geometry moves.more) 1 tree old tree' new
