-- What a call makes of the counters, the bus and the tag engine that has a page's block on the chip, or makes room for one: no
-- counter changes.
use Rattle.std.specs.Prelude.{◌≡◌, ◌≢◌, ◌⊎◌, ℕ, List, Option, Some, None}
use Rattle.sec_base.specs.declared.message.Message.{Message}
use Rattle.sec_base.specs.declared.place.Place.{Place}
use Rattle.sec_base.specs.declared.place.Place.TheVariants.{Node as node_place}
use Rattle.sec_base.specs.declared.stop.MemStop.{MemStop}
use Rattle.sec_base.specs.declared.stop.MemStop.TheVariants.{NoMemory}
use Rattle.bus_model.specs.BusHistory.{BusHistory}
use Rattle.tag_engine.specs.TagEngine.{TagEngineView}
use Rattle.bonsai_tree.specs.TreeSteps.{TreeSteps}
use Rattle.counter_cache.specs.Counters.{AreBlocks, CameFrom, CountersView, HoldsCounters, SameCounters, cached_block}

-- The places that tampering and evidence may name are among these.
pub record Has {T : Type 0} (tags : TagEngineView T → Message → List ℕ) (Where : Place → Type 0) (counters : CountersView) (old : BusHistory)
    (engine : TagEngineView T) (counters' : CountersView) (new : BusHistory) (engine' : TagEngineView T) (stop : Option MemStop) : Type 0 where
  -- what it makes of the tree: which nodes were had, read and written back, and what became of false answers
  pub tree : TreeSteps tags Where counters.tree old engine counters'.tree new engine' stop
  pub blocks : AreBlocks counters.tree.geometry counters.blocks → AreBlocks counters'.tree.geometry counters'.blocks
  -- what holds, holds still, unless there was no memory, and no counter changes
  pub holds : HoldsCounters tags counters old engine → stop ≢ Some NoMemory → HoldsCounters tags counters' new engine'
  pub same : HoldsCounters tags counters old engine → engine'.evidence ≡ None → SameCounters counters engine.made counters' engine'.made
  -- a block that has a copy had one, or is of a page that may be named, and was read or never made
  pub copied : HoldsCounters tags counters old engine → engine'.evidence ≡ None → (page : ℕ) → cached_block counters' page ≢ None →
      (cached_block counters page ≢ None) ⊎ (Where (node_place 0 page) × CameFrom engine.made old new page)
