-- What a call makes that has the counters of a page, and a count of a write by them.
use Rattle.std.specs.Prelude.{◌≡◌, ◌≢◌, ◌⊎◌, ℕ, ◌+◌, ◌<◌, ◌≤◌, ◌^◌, List, length, true, Option, Some, None, Result, Ok, Err}
use Rattle.std.specs.List.{Contains}
use Rattle.std.specs.Result.{result_err}
use Rattle.sec_base.specs.Geometry.{parent}
use Rattle.sec_base.specs.declared.counter.Counter.{Counter}
use Rattle.sec_base.specs.declared.evidence.Evidence.{Evidence}
use Rattle.sec_base.specs.declared.evidence.Evidence.TheVariants.{Collision}
use Rattle.sec_base.specs.declared.message.Message.{Message}
use Rattle.sec_base.specs.declared.place.Place.TheVariants.{Node as node_place}
use Rattle.sec_base.specs.declared.stop.MemStop.{MemStop}
use Rattle.cache_set.specs.declared.way.Way.{Way}
use Rattle.cache_set.specs.Bringing.{brought, with_changed, with_room}
use Rattle.cache_set.specs.Cache.{IsLatest, copy_at, way_at}
use Rattle.bus_model.specs.BusHistory.{BusHistory}
use Rattle.tag_engine.specs.TagEngine.{TagEngineView}
use Rattle.split_counter.specs.declared.bumped.Bumped.{Bumped}
use Rattle.split_counter.specs.declared.bumped.Bumped.TheVariants.{Line, Page, Spent}
use Rattle.split_counter.specs.CounterBlock.{after_bump, block_bytes, block_of, bumped, counter_number, counter_of}
use Rattle.bonsai_tree.specs.Node.{CachedNode}
use Rattle.bonsai_tree.specs.Tree.{IsFetchPlace, PathWasRead, cached_node, path_accesses}
use Rattle.counter_cache.specs.Counters.{AreCopies, BlocksCameUnlessHeld, CountersView, HoldsCounters, IsHad, LeavesClean, LeavingIsMade, OnlyLeavingIsMade, cached_block, cached_pages, counter_accesses, counters_in, most_blocks}
use Rattle.counter_cache.specs.Having.{Has}

-- A page's block has a copy with these bytes, the most recently used one of its set. It had one, or one came in unchanged, and the
-- least recently used one of a full set went out for it.
pub record BlockHad (tag_of : Message → List ℕ) (counters counters' : CountersView) (made' : List Message) (page : ℕ)
    (before after : Option Evidence) : Type 0 where
  pub bytes : List ℕ
  pub copied : copy_at counters'.blocks page ≡ Some bytes
  pub latest : IsLatest counters'.blocks page
  pub had : IsHad tag_of counters counters' made' page before after bytes
  pub brought_is : counters'.blocks ≡ brought counters.blocks page bytes

-- A page without a copy gets none where the call stops: the copies are as they were, or the one that goes out for it is gone.
pub record BlockMissed (counters counters' : CountersView) (page : ℕ) : Type 0 where
  pub absent : way_at counters.blocks page ≡ None
  pub left : (counters'.blocks ≡ counters.blocks) ⊎ (counters'.blocks ≡ with_room counters.blocks page)

-- the copies of blocks after a call, which stopped or did not
abbrev pub AreBlocksAfter : (Message → List ℕ) → CountersView → CountersView → List Message → ℕ → Option Evidence → Option Evidence →
    Option MemStop → Type 0
AreBlocksAfter tag_of counters counters' made' page before after None = BlockHad tag_of counters counters' made' page before after
AreBlocksAfter tag_of counters counters' made' page before after (Some stop) = BlockMissed counters counters' page

-- A call had the counters of a page, or it stopped. No counter changed.
pub record HadCounters {T : Type 0} (tags : TagEngineView T → Message → List ℕ) (counters : CountersView) (old : BusHistory)
    (engine : TagEngineView T) (counters' : CountersView) (new : BusHistory) (engine' : TagEngineView T) (page : ℕ) (stop : Option MemStop) : Type 0 where
  pub has : Has tags (IsFetchPlace counters.tree.geometry page) counters old engine counters' new engine' stop
  pub copies : AreCopies counters'
  pub few_blocks : length (cached_pages counters') ≤ most_blocks
  pub blocks : AreBlocksAfter (tags engine) counters counters' engine'.made page engine.evidence engine'.evidence stop
  -- the only block that is made is that of a changed copy which goes out; a block that went out, and came again, was read
  pub written : OnlyLeavingIsMade counters page engine.made engine'.made
  pub blocks_came : HoldsCounters tags counters old engine → engine'.evidence ≡ None → stop ≡ None →
      BlocksCameUnlessHeld counters old engine.made counters' new engine'.made
  -- with evidence too, a changed copy that is gone was made
  pub gone : (other : ℕ) (copy : CachedNode) → cached_block counters other ≡ Some copy → copy.changed ≡ true →
      cached_block counters' other ≡ None → LeavingIsMade counters page engine.made engine'.made
  -- a block that passed is used
  pub accepted : engine.evidence ≡ None → (made_at : ℕ) (bytes tag : List ℕ) →
      engine'.evidence ≡ Some (Collision 0 page made_at bytes tag) → stop ≡ None
  -- a page that has a copy makes no access
  pub hit : Contains (cached_pages counters) page → (stop ≡ None) × (new ≡ old) × (engine' ≡ engine) × (counters'.tree ≡ counters.tree)
  -- The block of one that has none is had by the node above it, which has a copy then. It is read, and so are the nodes above it,
  -- up to the lowest one that has a copy; but none that was never made. It is read once at most, and no other page's.
  pub parent : ¬ Contains (cached_pages counters) page → stop ≡ None → cached_node counters'.tree 1 (parent counters.tree.geometry 0 page).1 ≢ None
  pub path : HoldsCounters tags counters old engine → engine'.evidence ≡ None → ¬ Contains (cached_pages counters) page →
      stop ≡ None → PathWasRead counters.tree engine.made 0 page old new
  pub alone : (other : ℕ) → other ≢ page → new.reads (node_place 0 other) ≡ old.reads (node_place 0 other)
  pub block_once : new.reads (node_place 0 page) ≤ old.reads (node_place 0 page) + 1
  -- how many accesses and messages there are, and how much room is taken
  pub once : new.accesses ≤ old.accesses + counter_accesses counters.tree.geometry.levels
  pub once_clean : LeavesClean counters page → new.accesses ≤ old.accesses + path_accesses counters.tree.geometry.levels
  pub few : length engine'.made ≤ length engine.made + counter_accesses counters.tree.geometry.levels
  pub room : engine.room ≤ engine'.room + counter_accesses counters.tree.geometry.levels

-- the copies once a write was counted: the page's has these bytes and is changed, unless the line is spent
abbrev pub counted : Bumped → List (List Way) → ℕ → List ℕ → List (List Way)
counted (Line counter) blocks page copy = with_changed blocks page copy
counted (Page next) blocks page copy = with_changed blocks page copy
counted Spent blocks page copy = blocks

-- A write of the line at a place of a page was counted, by the page's copy, which spells the counters after it. None of them falls.
pub record IsCounted (counters counters' : CountersView) (page place limit : ℕ) (outcome : Bumped) : Type 0 where
  pub bytes : List ℕ
  pub copied : copy_at counters.blocks page ≡ Some bytes
  pub comes : outcome ≡ bumped limit (counter_of place (block_of bytes))
  pub blocks_are : counters'.blocks ≡ counted outcome counters.blocks page (block_bytes (after_bump place limit (block_of bytes)).1)
  pub rises : (at : ℕ) → at < 64 → counter_number (counter_of at (block_of bytes))
      ≤ counter_number (counter_of at (after_bump place limit (block_of bytes)).1)
  pub counters_are : (made : List Message) → counters_in counters' made page ≡ (after_bump place limit (block_of bytes)).1
  pub tree : counters'.tree ≡ counters.tree

-- it was counted, or the call stopped before it
abbrev pub IsCountedIf : CountersView → CountersView → ℕ → ℕ → ℕ → Result Bumped MemStop → Type 0
IsCountedIf counters counters' page place limit (Ok outcome) = IsCounted counters counters' page place limit outcome
IsCountedIf counters counters' page place limit (Err stop) = counters' ≡ counters

-- A page's counters were had, and a write was counted by them; or the call stopped before it.
pub record IsBumped {T : Type 0} (tags : TagEngineView T → Message → List ℕ) (counters : CountersView) (old : BusHistory)
    (engine : TagEngineView T) (counters' : CountersView) (new : BusHistory) (engine' : TagEngineView T) (page place limit : ℕ)
    (result : Result Bumped MemStop) : Type 0 where
  pub middle : CountersView
  pub had : HadCounters tags counters old engine middle new engine' page (result_err result)
  pub counted : IsCountedIf middle counters' page place limit result

-- a counter of a line that was written: 7 bits, and 64 of its page
pub record IsLineCounter (counter : Counter) : Type 0 where
  pub written : 0 < counter.line
  pub line : counter.line < 128
  pub page : counter.page < 2 ^ 64
