-- What a fetch and an update make of the tree, the bus and the tag engine, and how much of it at most.
use Rattle.std.specs.Prelude.{ℕ, ◌+◌, ◌≤◌, List, length, Option}
use Rattle.sec_base.specs.declared.message.Message.{Message}
use Rattle.sec_base.specs.declared.place.Place.{Place}
use Rattle.sec_base.specs.declared.stop.MemStop.{MemStop}
use Rattle.bus_model.specs.BusHistory.{BusHistory}
use Rattle.tag_engine.specs.TagEngine.{TagEngineView}
use Rattle.bonsai_tree.specs.Tree.{HasFewNodes, TreeView, path_accesses}
use Rattle.bonsai_tree.specs.TreeSteps.{TreeSteps}

-- The places that tampering and evidence may name are among these.
pub record TreeCall {T : Type 0} (tags : TagEngineView T → Message → List ℕ) (Where : Place → Type 0) (tree : TreeView) (old : BusHistory)
    (engine : TagEngineView T) (tree' : TreeView) (new : BusHistory) (engine' : TagEngineView T) (stop : Option MemStop) : Type 0 where
  pub steps : TreeSteps tags Where tree old engine tree' new engine' stop
  -- how many accesses and messages there are at most, and how much room is taken
  pub once : new.accesses ≤ old.accesses + path_accesses tree.geometry.levels
  pub few : length engine'.made ≤ length engine.made + path_accesses tree.geometry.levels
  pub room : engine.room ≤ engine'.room + path_accesses tree.geometry.levels
  -- no level has more copies than its sets have ways
  pub few_nodes : HasFewNodes tree'
