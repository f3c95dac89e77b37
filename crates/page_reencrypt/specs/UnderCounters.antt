-- The counters of a page are had before a line of it is read or written, and both go by them. It holds with evidence too.
use Rattle.std.specs.Prelude.{◌≡◌, ◌≢◌, ◌⊎◌, ℕ, ◌+◌, ◌≤◌, List, ◌++◌, length, map, take, Option, Some, None, Result, Err, IfOk}
use Rattle.std.specs.Result.{result_err}
use Rattle.sec_base.specs.Geometry.{page_of}
use Rattle.sec_base.specs.declared.counter.Counter.{Counter}
use Rattle.sec_base.specs.declared.evidence.Evidence.{Evidence}
use Rattle.sec_base.specs.declared.message.Message.{Message}
use Rattle.sec_base.specs.declared.place.Place.TheVariants.{Node as node_place}
use Rattle.sec_base.specs.declared.stop.MemStop.{MemStop}
use Rattle.sec_base.specs.declared.stop.MemStop.TheVariants.{Spent as spent_page, NoMemory}
use Rattle.bus_model.specs.Access.{Access}
use Rattle.bus_model.specs.BusHistory.{BusHistory}
use Rattle.tag_engine.specs.TagEngine.{TagEngineView}
use Rattle.checked_bus.specs.Makes.{MakesAccesses}
use Rattle.split_counter.specs.declared.bumped.Bumped.{Bumped}
use Rattle.split_counter.specs.declared.bumped.Bumped.TheVariants.{Line, Page, Spent}
use Rattle.split_counter.specs.CounterBlock.{bumped, counter_of, place_of}
use Rattle.counter_cache.specs.Counters.{CountersView, counters_in}
use Rattle.counter_cache.specs.HadCounters.{HadCounters, IsCounted}
use Rattle.page_reencrypt.specs.Contents.{lines_encrypted, never_written}
use Rattle.page_reencrypt.specs.Outside.{DiffersInRoom, OutsideView}
use Rattle.page_reencrypt.specs.SealedLines.{IsReadUnder}

-- the counter that a write encrypts under, by what counting it came to; a spent line is not encrypted
abbrev pub counter_under : Bumped → Counter
counter_under (Line counter) = counter
counter_under (Page next) = record { page = next; line = 0 }
counter_under Spent = never_written

module _ {B T : Type 0} (history : B → BusHistory) (bus_moved : B → List Access → B → Type 0) (tags : TagEngineView T → Message → List ℕ) where
  -- The counters of a line's page were had, or the call was refused them.
  pub record HadFirst (line : ℕ) (old : OutsideView B T) (counters : CountersView) (between : OutsideView B T) (counters' : CountersView)
      (refused : Option MemStop) : Type 0 where
    pub had : HadCounters tags counters (history old.bus) old.engine counters' (history between.bus) between.engine (page_of line) refused
    pub trace : MakesAccesses bus_moved (tags old.engine) old.bus old.engine between.bus between.engine refused
    pub pads : between.pads ≡ old.pads

  -- A line was read: its page's counters were had, and then it was read under the one that they have for it, by one access at
  -- most.
  pub record ReadUnderCounters (line : ℕ) (old : OutsideView B T) (counters : CountersView) (new : OutsideView B T) (counters' : CountersView)
      (answer : Result (List ℕ) MemStop) : Type 0 where
    pub between : OutsideView B T
    pub refused : Option MemStop
    pub had : HadFirst line old counters between counters' refused
    pub ends : (why : MemStop) → refused ≡ Some why → (new ≡ between) × (answer ≡ Err why)
    -- the accesses that it made once its counters were had
    pub trace : refused ≡ None →
        MakesAccesses bus_moved (tags between.engine) between.bus between.engine new.bus new.engine (result_err answer)
    pub read : (going : refused ≡ None) → IfOk answer (IsReadUnder (tags between.engine) between.pads.key line
        (counter_of (place_of line) (counters_in counters' between.engine.made (page_of line))) (trace going).accesses)
    pub once : (history new.bus).accesses ≤ (history between.bus).accesses + 1
    pub nodes : (level index : ℕ) → (history new.bus).reads (node_place level index) ≡ (history between.bus).reads (node_place level index)
    pub made : new.engine.made ≡ between.engine.made
    -- the first evidence stays
    pub first : (evidence : Evidence) → between.engine.evidence ≡ Some evidence → new.engine.evidence ≡ Some evidence

  -- A write was counted by the copy of its page's counters, and lines were encrypted under the counter that it came to: a front
  -- part of those that it encrypts. No other message was made.
  pub record IsCountedUp (limit line : ℕ) (outcome : Bumped) (counters : CountersView) (between : OutsideView B T) (counters' : CountersView)
      (new : OutsideView B T) : Type 0 where
    pub counted : IsCounted counters counters' (page_of line) (place_of line) limit outcome
    pub count : ℕ
    pub entries : new.pads.used ≡ between.pads.used
        ++ map (λ at. (at, counter_under outcome)) (take count (lines_encrypted (counter_under outcome) line))
    pub messages : length new.engine.made ≡ length between.engine.made + count
    -- without an overflow it is the line alone, by one access at most
    pub alone : (counter : Counter) → outcome ≡ Line counter →
        (count ≡ 1) × ((history new.bus).accesses ≤ (history between.bus).accesses + 1)
    pub few : (history new.bus).accesses ≤ (history between.bus).accesses + 127

  -- A line was written: its page's counters were had, and it was counted by them, or memory was refused before. It is spent
  -- exactly where these say so.
  pub record WrittenUnderCounters (limit line : ℕ) (old : OutsideView B T) (counters : CountersView) (new : OutsideView B T)
      (counters' : CountersView) (stop : Option MemStop) : Type 0 where
    pub between : OutsideView B T
    pub counters_had : CountersView
    pub refused : Option MemStop
    pub had : HadFirst line old counters between counters_had refused
    pub ends : (why : MemStop) → refused ≡ Some why → (new ≡ between) × (counters' ≡ counters_had) × (stop ≡ Some why)
    pub outcome : Bumped
    pub comes : refused ≡ None →
        outcome ≡ bumped limit (counter_of (place_of line) (counters_in counters_had between.engine.made (page_of line)))
    pub spent : refused ≡ None → outcome ≡ Spent → (new ≡ between) × (counters' ≡ counters_had) × (stop ≡ Some (spent_page (page_of line)))
    pub only_spent : (page : ℕ) → stop ≡ Some (spent_page page) → (refused ≡ None) × (outcome ≡ Spent)
    -- the accesses that it made once its counters were had
    pub trace : refused ≡ None → MakesAccesses bus_moved (tags between.engine) between.bus between.engine new.bus new.engine stop
    pub counted : refused ≡ None → outcome ≢ Spent →
        (DiffersInRoom between new × (counters' ≡ counters_had) × (stop ≡ Some NoMemory))
        ⊎ IsCountedUp limit line outcome counters_had between counters' new
