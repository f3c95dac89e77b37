-- What writes of nodes make of the bus and the tag engine. It serves private contracts alone.
use Rattle.std.specs.Prelude.{◌≡◌, ℕ, ◌+◌, ◌≤◌, List, length, None}
use Rattle.sec_base.specs.Geometry.{GeometryView}
use Rattle.sec_base.specs.declared.counter.Counter.{Counter}
use Rattle.sec_base.specs.declared.message.Message.{Message}
use Rattle.bus_model.specs.BusHistory.{BusHistory}
use Rattle.tag_engine.specs.TagEngine.{TagEngineView}
use Rattle.checked_bus.specs.Steps.{IsAccounted, Moves, SameLines}
use Rattle.bonsai_tree.specs.Tree.{NodesAreMade, NodesHoldLast}

-- Messages of nodes were made one after another, and each was written at once, but for so many at the end.
pub record WritesNodes {T : Type 0} (tags : TagEngineView T → Message → List ℕ) (geometry : GeometryView) (old : BusHistory) (engine : TagEngineView T)
    (new : BusHistory) (engine' : TagEngineView T) (unwritten : ℕ) : Type 0 where
  pub moves : Moves old engine new engine'
  pub lines : SameLines old engine.made new engine'.made
  pub evidence : engine'.evidence ≡ engine.evidence
  pub room : engine.room ≤ engine'.room + length moves.more
  pub reads : new.reads ≡ old.reads
  pub made_blocks : NodesAreMade geometry engine.made old.written → NodesAreMade geometry engine'.made new.written
  pub last_blocks : unwritten ≡ 0 → NodesHoldLast geometry engine.made old.written → NodesHoldLast geometry engine'.made new.written
  pub honest : (used more : List (ℕ × Counter)) → IsAccounted (tags engine) used engine.made old None engine.evidence →
      IsAccounted (tags engine) more engine'.made new None engine'.evidence
