-- What contracts see of the memory outside, and what reads and writes of lines under given counters make of it.
use Rattle.std.specs.Prelude.{◌≡◌, ◌≢◌, ◌⊎◌, ℕ, ◌+◌, ◌<◌, ◌≤◌, List, [], ◌++◌, length, map, take, Option, Some, None, Contains, Result, Ok, Err, IfOk}
use Rattle.std.specs.List.{slice_get}
use Rattle.std.specs.Result.{result_err}
use Rattle.sec_base.specs.declared.counter.Counter.{Counter}
use Rattle.sec_base.specs.declared.evidence.Evidence.{Evidence}
use Rattle.sec_base.specs.declared.evidence.Evidence.TheVariants.{Forgery}
use Rattle.sec_base.specs.Evidence.{evidence_place}
use Rattle.sec_base.specs.declared.sealed.Sealed.{Sealed}
use Rattle.sec_base.specs.declared.geometry.TheConstants.{LINES_PER_PAGE}
use Rattle.sec_base.specs.declared.message.Message.{Message}
use Rattle.sec_base.specs.declared.place.Place.{Place}
use Rattle.sec_base.specs.declared.place.Place.TheVariants.{Line as line_place, Node as node_place}
use Rattle.sec_base.specs.declared.stop.MemStop.{MemStop}
use Rattle.sec_base.specs.declared.stop.MemStop.TheVariants.{Tampered, Spent, NoMemory}
use Rattle.sec_base.specs.Count.{Rose}
use Rattle.sec_base.specs.Geometry.{GeometryView, line_count, page_count, page_of}
use Rattle.sec_base.specs.LastMessage.{data_pairs, last_data, last_node, last_pair, IsFresh}
use Rattle.bus_model.specs.Access.{Access}
use Rattle.bus_model.specs.BusHistory.{BusHistory}
use Rattle.tag_engine.specs.TagEngine.{TagEngineView, tags_of, with_room as tags_with_room}
use Rattle.pad_stream.specs.Pad.{cipher_of}
use Rattle.pad_stream.specs.PadEngine.{PadEngineView, with_room as pads_with_room}
use Rattle.pad_stream.specs.Pads.{AreRising}
use Rattle.checked_bus.specs.Makes.{MakesAccesses}
use Rattle.checked_bus.specs.Steps.{IsAccounted, Moves as StepMoves, SameLines}
use Rattle.split_counter.specs.CounterBlock.{last_counter, next_counter, place_of}
use Rattle.bonsai_tree.specs.Tree.{IsFetchPlace, NodesHoldLast, PathWasRead, UnmadeAreUnread}
use Rattle.counter_cache.specs.Counters.{CountersView, HoldsCounters, SameCounters, cached_pages, counter_accesses, counters_in}
use Rattle.page_reencrypt.specs.Consistency.{IsConsistent}
use Rattle.page_reencrypt.specs.Contents.{HoldsLast, NodesSay, counter_in, line_bytes, lines_encrypted, never_written}
use Rattle.page_reencrypt.specs.SealedLines.{AreReread, CopiesCame, IsBeside, KeepsFew, IsOfPage, IsReadUnder, SealedLinesView}
use Rattle.page_reencrypt.specs.Stops.{lasting_stop}

-- the bus, the tag engine and the pads
pub record OutsideView (B T : Type 0) : Type 0 where
  pub bus : B
  pub engine : TagEngineView T
  pub pads : PadEngineView

-- the memory outside, of such lines
abbrev pub outside_of : {B T : Type 0} → SealedLinesView B T → OutsideView B T
outside_of lines = record { bus = lines.bus; engine = lines.engine; pads = lines.pads }

-- How a memory is seen: by its bus's history, what accesses make of a bus, the tags of its messages, and its geometry.
pub record MemoryTerms (B : Type 0) : Type 1 where
  pub history : B → BusHistory
  pub moved : B → List Access → B → Type 0
  pub tag_of : Message → List ℕ
  pub geometry : GeometryView

-- the terms of this memory: its tags are those of its tag engine, and so is its geometry
abbrev pub terms_of : {B T : Type 0} → (B → BusHistory) → (B → List Access → B → Type 0) → (T → List ℕ → List ℕ) → (T → List ℕ → List ℕ) → OutsideView B T → MemoryTerms B
terms_of history moved data_tag_of node_tag_of outside = record {
  history = history;
  moved = moved;
  tag_of = tags_of data_tag_of node_tag_of outside.engine;
  geometry = outside.engine.geometry;
}

-- a line that is written, its new bytes, and the counter that the write encrypts under
pub record LineWrite : Type 0 where
  pub line : ℕ
  pub bytes : List ℕ
  pub counter : Counter

-- This holds of a line that was accepted since though it was never tagged, if one was, and of how many messages were made by
-- then.
abbrev pub Accepts : {B T : Type 0} → OutsideView B T → OutsideView B T → (ℕ → ℕ → Type 0) → Type 0
Accepts old new is = (at : ℕ) (under : Counter) (sealed : Sealed) (made_count : ℕ) → old.engine.evidence ≡ None →
    new.engine.evidence ≡ Some (Forgery at under sealed made_count) → is at made_count

-- it is another line of the page, and was read when so many messages were made and those of the page's lines before it
abbrev pub IsAcceptedBeside : ℕ → ℕ → ℕ → ℕ → Type 0
IsAcceptedBeside line begun at made_count = IsBeside line (line_place at) × (made_count ≡ begun + place_of at)

-- the counter is the line's last; a line that was never written has that of such a line
abbrev pub HasCounter : List (ℕ × Counter) → ℕ → Counter → Type 0
HasCounter used line counter = (IsFresh line used × (counter ≡ never_written))
    ⊎ ((last_pair line used ≡ Some counter) × (counter ≢ never_written))

module _ {B T : Type 0} (terms : MemoryTerms B) where
  -- the messages, the counters that were used and what stands outside fit one another
  abbrev pub AreConsistent : OutsideView B T → Type 0
  AreConsistent outside =
      IsConsistent terms.tag_of terms.geometry (terms.history outside.bus) outside.engine.made outside.pads.used

  -- the places of lines, and those of nodes, hold what was made last for them
  abbrev pub HaveLast : OutsideView B T → Type 0
  HaveLast outside = HoldsLast terms.tag_of (line_count terms.geometry) outside.engine.made (terms.history outside.bus).written

  -- the places of nodes hold what was made last for them
  abbrev pub HaveLastNodes : OutsideView B T → Type 0
  HaveLastNodes outside = NodesHoldLast terms.geometry outside.engine.made (terms.history outside.bus).written

  -- there is evidence, or the counters of each line rise
  abbrev pub HaveRisen : OutsideView B T → Type 0
  HaveRisen outside = outside.engine.evidence ≡ None → AreRising outside.pads.used

  -- there is evidence, or the tree under the counters and the copies of counter blocks fit
  abbrev pub CountersFit : OutsideView B T → CountersView → Type 0
  CountersFit outside counters = HoldsCounters (λ engine. terms.tag_of) counters (terms.history outside.bus) outside.engine

  -- there is evidence, or the counter blocks of all pages say the last entries of their lines
  abbrev pub CountersSay : OutsideView B T → CountersView → Type 0
  CountersSay outside counters = outside.engine.evidence ≡ None → (page : ℕ) → page < page_count terms.geometry →
      IsOfPage outside.pads.used page (counters_in counters outside.engine.made page)

  -- there is evidence, or what was made of nodes says tags and counters alone still
  abbrev pub NodesSayStill : OutsideView B T → OutsideView B T → Type 0
  NodesSayStill old new = new.engine.evidence ≡ None → NodesSay terms.tag_of terms.geometry old.pads.used old.engine.made →
      NodesSay terms.tag_of terms.geometry new.pads.used new.engine.made

  -- the false answers are accounted for, where a call stopped so
  abbrev pub AreAccounted : OutsideView B T → Option MemStop → Type 0
  AreAccounted outside stop =
      IsAccounted terms.tag_of outside.pads.used outside.engine.made (terms.history outside.bus) stop outside.engine.evidence

  -- evidence comes only of a false answer
  abbrev pub ShowsLies : OutsideView B T → OutsideView B T → Type 0
  ShowsLies old new = old.engine.evidence ≡ None →
      (new.engine.evidence ≡ None) ⊎ Rose (terms.history old.bus).lies (terms.history new.bus).lies

  -- No node was touched: their places were not read and hold what they held, and their last messages are the same.
  pub record SameNodes (old new : OutsideView B T) : Type 0 where
    pub reads : (level index : ℕ) → (terms.history new.bus).reads (node_place level index) ≡ (terms.history old.bus).reads (node_place level index)
    pub written : (level index : ℕ) → (terms.history new.bus).written (node_place level index) ≡ (terms.history old.bus).written (node_place level index)
    pub last : (level index : ℕ) → last_node level index new.engine.made ≡ last_node level index old.engine.made

  -- Counters were had: no line was touched, and nothing was encrypted.
  pub record IsNodeStep (old new : OutsideView B T) (stop : Option MemStop) : Type 0 where
    pub trace : MakesAccesses terms.moved terms.tag_of old.bus old.engine new.bus new.engine stop
    pub step : StepMoves (terms.history old.bus) old.engine (terms.history new.bus) new.engine
    pub pairs : data_pairs step.more ≡ []
    pub lines : SameLines (terms.history old.bus) old.engine.made (terms.history new.bus) new.engine.made
    pub used : new.pads.used ≡ old.pads.used
    pub key : new.pads.key ≡ old.pads.key
    pub consistent : AreConsistent new
    pub holds_last : HaveLast new
    pub nodes_hold_last : stop ≢ Some NoMemory → HaveLastNodes new

  -- A line was read from its place under a counter, by one access at most, or not at all where that is the counter of a line that
  -- was never written. Nothing was encrypted, tagged or written.
  pub record IsReadAt (line : ℕ) (counter : Counter) (old new : OutsideView B T) (result : Result (List ℕ) MemStop) : Type 0 where
    pub value : new.engine.evidence ≡ None → IfOk result (λ bytes. bytes ≡ line_bytes old.pads.key old.engine.made line)
    pub fresh : old.engine.evidence ≡ None → IsFresh line old.pads.used → (result_err result ≡ None) × (new ≡ old)
    pub trace : MakesAccesses terms.moved terms.tag_of old.bus old.engine new.bus new.engine (result_err result)
    pub step : StepMoves (terms.history old.bus) old.engine (terms.history new.bus) new.engine
    pub made : new.engine.made ≡ old.engine.made
    pub room : new.engine.room ≡ old.engine.room
    pub pads : new.pads ≡ old.pads
    pub written : (terms.history new.bus).written ≡ (terms.history old.bus).written
    pub once : (terms.history new.bus).accesses ≤ (terms.history old.bus).accesses + 1
    pub alone : (other : ℕ) → other ≢ line → (terms.history new.bus).reads (line_place other) ≡ (terms.history old.bus).reads (line_place other)
    pub nodes : (level index : ℕ) → (terms.history new.bus).reads (node_place level index) ≡ (terms.history old.bus).reads (node_place level index)
    pub rose : old.engine.evidence ≡ None → result_err result ≢ Some NoMemory → IsFresh line old.pads.used
        ⊎ Rose ((terms.history old.bus).reads (line_place line)) ((terms.history new.bus).reads (line_place line))
    -- a false answer is shown as evidence or taken for tampering, both of this line
    pub accounted : AreAccounted old None → AreAccounted new (result_err result)
    pub shows : ShowsLies old new
    pub found : (evidence : Evidence) → old.engine.evidence ≡ None → new.engine.evidence ≡ Some evidence → evidence_place evidence ≡ line_place line
    pub under : IfOk result (IsReadUnder terms.tag_of old.pads.key line counter trace.accesses)
    pub accepted : (at : ℕ) (accepted_under : Counter) (sealed : Sealed) (made_count : ℕ) → old.engine.evidence ≡ None →
        new.engine.evidence ≡ Some (Forgery at accepted_under sealed made_count) →
        (at ≡ line) × (made_count ≡ length new.engine.made) × (result ≡ Ok (cipher_of old.pads.key line accepted_under sealed.cipher))
    pub tampered : (place : Place) → result ≡ Err (Tampered place) → (place ≡ line_place line)
        × (old.engine.evidence ≡ None → Rose (terms.history old.bus).lies (terms.history new.bus).lies)
    pub unspent : (page : ℕ) → result ≢ Err (Spent page)

  -- A line was read under its counter, once its page's counters were had; or what was done of it where it stopped.
  pub record IsLineRead (line : ℕ) (old : OutsideView B T) (counters : CountersView) (new : OutsideView B T) (counters' : CountersView)
      (result : Result (List ℕ) MemStop) : Type 0 where
    pub trace : MakesAccesses terms.moved terms.tag_of old.bus old.engine new.bus new.engine (result_err result)
    pub step : StepMoves (terms.history old.bus) old.engine (terms.history new.bus) new.engine
    pub pairs : data_pairs step.more ≡ []
    pub geometry : counters'.tree.geometry ≡ counters.tree.geometry
    pub pads : new.pads ≡ old.pads
    pub once : (terms.history new.bus).accesses ≤ (terms.history old.bus).accesses + (counter_accesses terms.geometry.levels + 1)
    -- the counters make no access where they are on the chip
    pub hit : Contains (cached_pages counters) (page_of line) → (terms.history new.bus).accesses ≤ (terms.history old.bus).accesses + 1
    pub written : (at : ℕ) → (terms.history new.bus).written (line_place at) ≡ (terms.history old.bus).written (line_place at)
    pub alone : (other : ℕ) → other ≢ line → (terms.history new.bus).reads (line_place other) ≡ (terms.history old.bus).reads (line_place other)
    pub consistent : AreConsistent new
    pub holds_last : HaveLast new
    pub nodes_hold_last : result_err result ≢ Some NoMemory → HaveLastNodes new
    pub fits : result_err result ≡ None → CountersFit new counters'
    pub same : new.engine.evidence ≡ None → SameCounters counters old.engine.made counters' new.engine.made
    pub few : KeepsFew counters counters'
    pub copies : new.engine.evidence ≡ None →
        CopiesCame (page_of line) (terms.history old.bus) old.engine.made counters (terms.history new.bus) new.engine.made counters' (result_err result)
    pub nodes : NodesSayStill old new
    pub value : new.engine.evidence ≡ None → IfOk result (λ bytes. bytes ≡ line_bytes old.pads.key old.engine.made line)
    -- what was read of the bus
    pub unread : new.engine.evidence ≡ None → UnmadeAreUnread (terms.history old.bus) new.engine.made (terms.history new.bus)
    pub path : new.engine.evidence ≡ None → result_err result ≡ None → ¬ Contains (cached_pages counters) (page_of line) →
        PathWasRead counters.tree old.engine.made 0 (page_of line) (terms.history old.bus) (terms.history new.bus)
    pub rose : new.engine.evidence ≡ None → result_err result ≡ None → IsFresh line old.pads.used
        ⊎ Rose ((terms.history old.bus).reads (line_place line)) ((terms.history new.bus).reads (line_place line))
    pub fresh : new.engine.evidence ≡ None → IsFresh line old.pads.used →
        (terms.history new.bus).reads (line_place line) ≡ (terms.history old.bus).reads (line_place line)
    -- a false answer is shown as evidence or taken for tampering
    pub accounted : AreAccounted old None → AreAccounted new (result_err result)
    pub shows : ShowsLies old new
    pub accepted : (at : ℕ) (under : Counter) (sealed : Sealed) (made_count : ℕ) → old.engine.evidence ≡ None →
        new.engine.evidence ≡ Some (Forgery at under sealed made_count) →
        (at ≡ line) × (made_count ≡ length new.engine.made) × (result ≡ Ok (cipher_of old.pads.key line under sealed.cipher))
    pub tampered : (place : Place) → result ≡ Err (Tampered place) → ((place ≡ line_place line) ⊎ IsFetchPlace terms.geometry (page_of line) place)
        × (old.engine.evidence ≡ None → Rose (terms.history old.bus).lies (terms.history new.bus).lies)
    pub unspent : (page : ℕ) → result ≢ Err (Spent page)

  -- Lines were encrypted under the counter of a write, one after another, each once; a message of each was tagged, and
  -- written but for the last where there was no memory.
  pub record AreSealed (write : LineWrite) (old : OutsideView B T) (lines : List ℕ) (new : OutsideView B T) (stop : Option MemStop) : Type 0 where
    pub trace : MakesAccesses terms.moved terms.tag_of old.bus old.engine new.bus new.engine stop
    pub step : StepMoves (terms.history old.bus) old.engine (terms.history new.bus) new.engine
    pub nodes : SameNodes old new
    pub key : new.pads.key ≡ old.pads.key
    pub entries : new.pads.used ≡ old.pads.used ++ map (λ line. (line, write.counter)) lines
    pub pairs : data_pairs step.more ≡ map (λ line. (line, write.counter)) lines
    pub as_many : length step.more ≡ length lines
    pub room : old.engine.room ≤ new.engine.room + length lines
    pub pads_room : old.pads.room ≤ new.pads.room + length lines
    -- what fit together before fits after it
    pub consistent : AreConsistent new
    pub risen : HaveRisen new
    pub holds_last : stop ≢ Some NoMemory → HaveLast new
    -- the places of all other lines hold what they held
    pub untouched : (other : ℕ) → ¬ Contains lines other →
        (terms.history new.bus).written (line_place other) ≡ (terms.history old.bus).written (line_place other)
    -- where the written line is among them, its message is of the new bytes; all other lines keep their bytes, unless
    -- there is evidence
    pub own : Contains lines write.line → last_data write.line new.engine.made
        ≡ Some (write.counter, cipher_of old.pads.key write.line write.counter write.bytes)
    pub own_bytes : Contains lines write.line → line_bytes old.pads.key new.engine.made write.line ≡ write.bytes
    pub not_yet : ¬ Contains lines write.line → last_data write.line new.engine.made ≡ last_data write.line old.engine.made
    pub others : new.engine.evidence ≡ None → (other : ℕ) → other ≢ write.line →
        line_bytes old.pads.key new.engine.made other ≡ line_bytes old.pads.key old.engine.made other
    -- false answers are accounted for, and tampering is of another line of the page
    pub accounted : AreAccounted old None → AreAccounted new stop
    pub shows : ShowsLies old new
    pub lied : (place : Place) → stop ≡ Some (Tampered place) → old.engine.evidence ≡ None →
        Rose (terms.history old.bus).lies (terms.history new.bus).lies
    pub tampered : (place : Place) → stop ≡ Some (Tampered place) → IsBeside write.line place
    pub unspent : (page : ℕ) → stop ≢ Some (Spent page)

  -- all of these lines in their order, or where a call stopped a front part of them
  pub record AreSealedInOrder (write : LineWrite) (old : OutsideView B T) (lines : List ℕ) (new : OutsideView B T) (stop : Option MemStop) : Type 0 where
    pub count : ℕ
    pub within : count ≤ length lines
    pub sealed : AreSealed write old (take count lines) new stop
    pub reread : new.engine.evidence ≡ None →
        AreReread write.line (take count lines) old.pads.used (terms.history old.bus) (terms.history new.bus)
    pub whole : stop ≡ None → count ≡ length lines
    -- the line that failed is the next one
    pub failed : (other : ℕ) → stop ≡ Some (Tampered (line_place other)) → slice_get lines count ≡ Some other

  -- A write of a line: its page's counters are had and counted up, and then its lines are sealed; or what was done of it
  -- where it stopped.
  pub record IsWrite (limit line : ℕ) (bytes : List ℕ) (old : OutsideView B T) (counters : CountersView) (new : OutsideView B T)
      (counters' : CountersView) (stop : Option MemStop) : Type 0 where
    pub trace : MakesAccesses terms.moved terms.tag_of old.bus old.engine new.bus new.engine stop
    pub step : StepMoves (terms.history old.bus) old.engine (terms.history new.bus) new.engine
    pub geometry : counters'.tree.geometry ≡ counters.tree.geometry
    pub key : new.pads.key ≡ old.pads.key
    pub consistent : AreConsistent new
    pub risen : HaveRisen new
    pub holds_last : stop ≢ Some NoMemory → HaveLast new
    pub nodes_hold_last : stop ≢ Some NoMemory → HaveLastNodes new
    -- a front part of its lines was encrypted and tagged, under the line's next counter where there is no evidence
    pub counter : Counter
    pub next : new.engine.evidence ≡ None → counter ≡ next_counter (counter_in old.pads.used line)
    pub count : ℕ
    pub within : count ≤ length (lines_encrypted counter line)
    pub whole : stop ≡ None → count ≡ length (lines_encrypted counter line)
    pub entries : new.pads.used ≡ old.pads.used ++ map (λ at. (at, counter)) (take count (lines_encrypted counter line))
    pub pairs : data_pairs step.more ≡ map (λ at. (at, counter)) (take count (lines_encrypted counter line))
    pub unwritten : count ≡ 0 → (at : ℕ) → (terms.history new.bus).written (line_place at) ≡ (terms.history old.bus).written (line_place at)
    pub own : Contains (take count (lines_encrypted counter line)) line →
        last_data line new.engine.made ≡ Some (counter, cipher_of old.pads.key line counter bytes)
    pub own_bytes : Contains (take count (lines_encrypted counter line)) line → line_bytes old.pads.key new.engine.made line ≡ bytes
    pub not_yet : ¬ Contains (take count (lines_encrypted counter line)) line → last_data line new.engine.made ≡ last_data line old.engine.made
    pub others : new.engine.evidence ≡ None → (other : ℕ) → other ≢ line →
        line_bytes old.pads.key new.engine.made other ≡ line_bytes old.pads.key old.engine.made other
    pub reread : new.engine.evidence ≡ None →
        AreReread line (take count (lines_encrypted counter line)) old.pads.used (terms.history old.bus) (terms.history new.bus)
    -- the counters fit what was used, unless a stop lasts
    pub fits : lasting_stop stop ≡ None → CountersFit new counters'
    pub current : lasting_stop stop ≡ None → CountersSay new counters'
    pub nodes : NodesSayStill old new
    -- a counter changes only where there was memory for the entries and the messages of a whole page
    pub reserved : ((count ≡ 0) × (new.engine.evidence ≡ None → SameCounters counters old.engine.made counters' new.engine.made))
        ⊎ ((length old.pads.used + LINES_PER_PAGE ≤ length new.pads.used + new.pads.room)
        × (length old.engine.made + LINES_PER_PAGE ≤ length new.engine.made + new.engine.room))
    -- no node was read that was never made; the path of its page was read but for these, unless its counters were on the chip
    pub unread : new.engine.evidence ≡ None → UnmadeAreUnread (terms.history old.bus) new.engine.made (terms.history new.bus)
    pub path : new.engine.evidence ≡ None → stop ≡ None → ¬ Contains (cached_pages counters) (page_of line) →
        PathWasRead counters.tree old.engine.made 0 (page_of line) (terms.history old.bus) (terms.history new.bus)
    pub few : KeepsFew counters counters'
    pub copies : new.engine.evidence ≡ None →
        CopiesCame (page_of line) (terms.history old.bus) old.engine.made counters (terms.history new.bus) new.engine.made counters' stop
    -- false answers are accounted for, and tampering is of a node that was read to have the counters or, with an overflow, of
    -- another line of the page
    pub accounted : AreAccounted old None → AreAccounted new stop
    pub shows : ShowsLies old new
    pub lied : (place : Place) → stop ≡ Some (Tampered place) → old.engine.evidence ≡ None →
        Rose (terms.history old.bus).lies (terms.history new.bus).lies
    pub tampered : (place : Place) → stop ≡ Some (Tampered place) →
        IsFetchPlace terms.geometry (page_of line) place ⊎ (IsBeside line place × (counter.line ≡ 0))
    pub failed : (other : ℕ) → stop ≡ Some (Tampered (line_place other)) → slice_get (lines_encrypted counter line) count ≡ Some other
    -- it is spent only where the line has the last counter; and where it has, no line is sealed, and its counters alone were
    -- had, so that tampering is of a node
    pub spent : (page : ℕ) → stop ≡ Some (Spent page) → (page ≡ page_of line) × (count ≡ 0)
        × (new.engine.evidence ≡ None → counter_in old.pads.used line ≡ last_counter limit)
    pub used_up : new.engine.evidence ≡ None → counter_in old.pads.used line ≡ last_counter limit → (count ≡ 0) × (stop ≢ None)
        × SameCounters counters old.engine.made counters' new.engine.made
        × ((terms.history new.bus).accesses ≤ (terms.history old.bus).accesses + counter_accesses terms.geometry.levels)
        × ((place : Place) → stop ≡ Some (Tampered place) → IsFetchPlace terms.geometry (page_of line) place)

-- there is memory for so many messages and so many entries
abbrev pub with_room : {B T : Type 0} → ℕ → ℕ → OutsideView B T → OutsideView B T
with_room messages entries outside =
    record outside { engine = tags_with_room messages outside.engine; pads = pads_with_room entries outside.pads }

-- nothing changed but that memory may have been taken for messages to come
pub record DiffersInRoom {B T : Type 0} (old new : OutsideView B T) : Type 0 where
  pub room : ℕ
  pub bus : new.bus ≡ old.bus
  pub engine : new.engine ≡ tags_with_room room old.engine
  pub pads : new.pads ≡ old.pads
