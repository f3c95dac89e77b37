-- A node that is had by the tag that is kept of it: zeros where none is kept, else read from its place and checked. It serves
-- private contracts alone.
use Rattle.std.specs.Prelude.{◌≡◌, ◌≢◌, ◌⊎◌, ℕ, ◌+◌, ◌≤◌, List, Some, None, Result, Ok, Err, IfOk}
use Rattle.std.specs.Result.{result_err}
use Rattle.sec_base.specs.Count.{Rose, more_by}
use Rattle.sec_base.specs.Evidence.{evidence_place}
use Rattle.sec_base.specs.LastMessage.{last_node}
use Rattle.sec_base.specs.declared.counter.Counter.{Counter}
use Rattle.sec_base.specs.declared.evidence.Evidence.{Evidence}
use Rattle.sec_base.specs.declared.evidence.Evidence.TheVariants.{Collision}
use Rattle.sec_base.specs.declared.message.Message.{Message}
use Rattle.sec_base.specs.declared.message.Message.TheVariants.{Node}
use Rattle.sec_base.specs.declared.place.Place.{Place}
use Rattle.sec_base.specs.declared.place.Place.TheVariants.{Node as node_place}
use Rattle.sec_base.specs.declared.stop.MemStop.{MemStop}
use Rattle.sec_base.specs.declared.stop.MemStop.TheVariants.{Tampered, Spent, NoMemory}
use Rattle.bus_model.specs.BusHistory.{BusHistory}
use Rattle.tag_engine.specs.TagEngine.{TagEngineView}
use Rattle.checked_bus.specs.Steps.{IsAccounted, IsCurrentNode, Moves, SameLines}
use Rattle.bonsai_tree.specs.Node.{block_or_zeros, no_block, no_tag}
use Rattle.bonsai_tree.specs.Tree.{NodeCame, UnmadeAreUnread}

-- the tag is that of the node's last block, which stands at its place; or it is zeros, and the node was never made
abbrev pub IsKeptNode : (Message → List ℕ) → List Message → (Place → List ℕ) → ℕ → ℕ → List ℕ → Type 0
IsKeptNode tag_of made written level index tag =
    ((tag ≡ no_tag) × (last_node level index made ≡ None)) ⊎ IsCurrentNode tag_of made written level index tag

-- What it makes of the bus and the tag engine: nothing is made or written, and one place is read at most.
pub record ReadsKept {T : Type 0} (tags : TagEngineView T → Message → List ℕ) (level index : ℕ) (tag : List ℕ) (old : BusHistory)
    (engine : TagEngineView T) (new : BusHistory) (engine' : TagEngineView T) (result : Result (List ℕ) MemStop) : Type 0 where
  pub moves : Moves old engine new engine'
  pub lines : SameLines old engine.made new engine'.made
  pub made : engine'.made ≡ engine.made
  pub room : engine'.room ≡ engine.room
  pub written : new.written ≡ old.written
  pub most : new.accesses ≤ old.accesses + 1
  pub one : new.reads (node_place level index) ≤ old.reads (node_place level index) + 1
  -- what is answered has the tag that is kept; where that is right, it is the node's last block, or zeros where it has none
  pub checked : IfOk result (λ block. ((tag ≡ no_tag) × (block ≡ no_block)) ⊎ (tags engine (Node level index block) ≡ tag))
  pub block : IsKeptNode (tags engine) engine.made old.written level index tag → engine'.evidence ≡ None →
      IfOk result (λ block. block ≡ block_or_zeros (last_node level index engine.made))
  -- nothing is done where no tag is kept; else its place is read once, and that of no other node
  pub unasked : tag ≡ no_tag → (new ≡ old) × (engine' ≡ engine) × (result ≡ Ok no_block)
  pub asked : tag ≢ no_tag → result_err result ≢ Some NoMemory →
      new.reads (node_place level index) ≡ more_by 1 (old.reads (node_place level index))
  pub alone : (other at : ℕ) → ¬ ((other ≡ level) × (at ≡ index)) → new.reads (node_place other at) ≡ old.reads (node_place other at)
  -- where the tag is right, the node came, and none was read that was never made
  pub came : IsKeptNode (tags engine) engine.made old.written level index tag → result_err result ≢ Some NoMemory →
      NodeCame engine.made level index old new
  pub unread : IsKeptNode (tags engine) engine.made old.written level index tag → UnmadeAreUnread old engine.made new
  -- a false answer is shown as evidence or taken for tampering, both of this node
  pub honest : (used : List (ℕ × Counter)) → (engine.evidence ≡ None → IsKeptNode (tags engine) engine.made old.written level index tag) →
      IsAccounted (tags engine) used engine.made old None engine.evidence →
      IsAccounted (tags engine) used engine'.made new (result_err result) engine'.evidence
  pub shown : IsKeptNode (tags engine) engine.made old.written level index tag → engine.evidence ≡ None →
      engine'.evidence ≢ None → Rose old.lies new.lies
  pub found : (evidence : Evidence) → engine.evidence ≡ None → engine'.evidence ≡ Some evidence → evidence_place evidence ≡ node_place level index
  pub accepted : (made_at : ℕ) (bytes under : List ℕ) → engine.evidence ≡ None →
      engine'.evidence ≡ Some (Collision level index made_at bytes under) → result ≡ Ok bytes
  pub tampered : (place : Place) → result ≡ Err (Tampered place) → (place ≡ node_place level index)
      × (IsKeptNode (tags engine) engine.made old.written level index tag → Rose old.lies new.lies)
  pub unspent : (page : ℕ) → result ≢ Err (Spent page)
