-- What contracts see of the lines outside, and what calls make of them.
use Rattle.std.specs.Prelude.{◌≡◌, ◌≢◌, ◌⊎◌, ◌↔◌, ℕ, ◌+◌, ◌<◌, ◌≤◌, List, [], ◌∷◌, ◌++◌, length, Option, Some, None, Contains, replicate, false}
use Rattle.sec_base.specs.declared.place.Place.{Place}
use Rattle.sec_base.specs.declared.place.Place.TheVariants.{Line as line_place}
use Rattle.sec_base.specs.declared.counter.Counter.{Counter}
use Rattle.sec_base.specs.declared.evidence.Evidence.{Evidence}
use Rattle.sec_base.specs.declared.message.Message.{Message}
use Rattle.sec_base.specs.declared.message.Message.TheVariants.{Line}
use Rattle.sec_base.specs.declared.sealed.Sealed.{Sealed}
use Rattle.sec_base.specs.declared.stop.MemStop.{MemStop}
use Rattle.sec_base.specs.declared.stop.MemStop.TheVariants.{Spent, NoMemory}
use Rattle.sec_base.specs.Count.{Rose}
use Rattle.sec_base.specs.Evidence.{sealed_bytes}
use Rattle.sec_base.specs.LastMessage.{IsFresh, last_data, data_pairs}
use Rattle.sec_base.specs.Geometry.{GeometryView, line_count, page_count, page_of}
use Rattle.bus_model.specs.Access.{Access, Read}
use Rattle.bus_model.specs.BusHistory.{BusHistory}
use Rattle.tag_engine.specs.TagEngine.{TagEngineView, tags_of}
use Rattle.pad_stream.specs.Pad.{cipher_of}
use Rattle.pad_stream.specs.PadEngine.{PadEngineView}
use Rattle.pad_stream.specs.Pads.{of_lines}
use Rattle.checked_bus.specs.Steps.{IsAccounted, Moves as StepMoves}
use Rattle.split_counter.specs.CounterBlock.{CounterBlockView, counter_of, place_of}
use Rattle.checked_bus.specs.Makes.{MakesAccesses}
use Rattle.bonsai_tree.specs.Node.{CachedNode, no_tag, page_block}
use Rattle.bonsai_tree.specs.NodeCache.{most_copies}
use Rattle.bonsai_tree.specs.Tree.{CameUnlessHeld, IsTree, NodesHoldLast, PathWasRead, WasReadUp, cached_node, cached_nodes}
use Rattle.counter_cache.specs.Counters.{BlocksCameUnlessHeld, CameFrom, CountersView, cached_block, cached_pages, counters_in, most_blocks}
use Rattle.page_reencrypt.specs.Consistency.{IsConsistent}
use Rattle.page_reencrypt.specs.Contents.{AreSuccessive, ArePaged, AreWithin, HoldsLast, IsSpent, NodesSay, contents_of, counter_in, never_written}
use Rattle.page_reencrypt.specs.Stops.{lasting_stop}

-- the bus, the tag engine, the pads, the counters of the pages, how high a page counter may rise, and the stop that was
-- answered, if one was
pub record SealedLinesView (B T : Type 0) : Type 0 where
  pub bus : B
  pub engine : TagEngineView T
  pub pads : PadEngineView
  pub counters : CountersView
  pub limit : ℕ
  pub stopped : Option MemStop

-- what was tagged and what lines were encrypted under, in order; what passed a check though it was never tagged; and
-- the key that lines are encrypted under
abbrev pub made : {B T : Type 0} → SealedLinesView B T → List Message
made lines = lines.engine.made

-- the line and the counter of each encryption, in order
abbrev pub used : {B T : Type 0} → SealedLinesView B T → List (ℕ × Counter)
used lines = lines.pads.used

-- the message that passed its check though this memory never tagged it, where there is one
abbrev pub evidence : {B T : Type 0} → SealedLinesView B T → Option Evidence
evidence lines = lines.engine.evidence

-- the key that lines are encrypted under
abbrev pub enc_key : {B T : Type 0} → SealedLinesView B T → List ℕ
enc_key lines = lines.pads.key

-- the geometry of the memory's tree, and how many lines it has
abbrev pub geometry : {B T : Type 0} → SealedLinesView B T → GeometryView
geometry lines = lines.engine.geometry

-- how many lines the memory has
abbrev pub lines_of : {B T : Type 0} → SealedLinesView B T → ℕ
lines_of lines = line_count (geometry lines)

-- the line is one of the memory's
abbrev pub IsLineOf : {B T : Type 0} → SealedLinesView B T → ℕ → Type 0
IsLineOf lines line = line < lines_of lines

-- all bytes, in order
abbrev pub contents : {B T : Type 0} → SealedLinesView B T → List ℕ
contents lines = contents_of (enc_key lines) (lines_of lines) (made lines)

-- the current counters of a page
abbrev pub page_counters : {B T : Type 0} → SealedLinesView B T → ℕ → CounterBlockView
page_counters lines page = counters_in lines.counters (made lines) page

-- nothing passed a check though it was never tagged
abbrev pub IsQuiet : {B T : Type 0} → SealedLinesView B T → Type 0
IsQuiet lines = evidence lines ≡ None

-- the tags of its messages, by those of its tagger
abbrev pub tag_in : {B T : Type 0} → (T → List ℕ → List ℕ) → (T → List ℕ → List ℕ) → SealedLinesView B T → Message → List ℕ
tag_in data_tag_of node_tag_of lines = tags_of data_tag_of node_tag_of lines.engine

-- What holds at all times: the messages, the list of what was used and what stands outside fit one another; and each
-- place holds the last message that was made for it, unless there was no memory to write one.
pub record IsProtected (tag_of : Message → List ℕ) (geometry : GeometryView) (history : BusHistory) (made : List Message)
    (used : List (ℕ × Counter)) (stopped : Option MemStop) : Type 0 where
  pub consistent : IsConsistent tag_of geometry history made used
  pub holds_last : stopped ≢ Some NoMemory → HoldsLast tag_of (line_count geometry) made history.written
  pub nodes_hold_last : stopped ≢ Some NoMemory → NodesHoldLast geometry made history.written

-- What holds of the counters where there is no evidence: those of each line are counted up and keep to the limit; and a page that
-- is spent has a line with the last one.
pub record CountersRise (geometry : GeometryView) (limit : ℕ) (used : List (ℕ × Counter)) (stopped : Option MemStop) : Type 0 where
  pub successive : AreSuccessive used
  pub within : AreWithin (line_count geometry) limit used
  -- in the middle of an overflow the lines of its page have two page counters
  pub paged : lasting_stop stopped ≡ None → ArePaged (line_count geometry) used
  pub spent : (page : ℕ) → stopped ≡ Some (Spent page) → IsSpent (line_count geometry) limit used page

-- the block of a page says the counters of its lines
abbrev pub IsOfPage : List (ℕ × Counter) → ℕ → CounterBlockView → Type 0
IsOfPage used page block = (line : ℕ) → page_of line ≡ page → counter_in used line ≡ counter_of (place_of line) block

-- The counters on the chip and outside, the entries, the messages and what stands outside fit together. It holds whenever no
-- call is under way, where there is neither evidence nor a stop that lasts.
pub record FitsTogether (tag_of : Message → List ℕ) (geometry : GeometryView) (counters : CountersView) (history : BusHistory)
    (made : List Message) (used : List (ℕ × Counter)) : Type 0 where
  -- the tag of each node's last block is in the current block of its parent and that of the top node in the root register,
  -- each node's place holds its last block, and a copy that was not changed is that block: of a node, and of a counter block;
  -- of a node that was never made the tag and the block are zeros
  pub tree : IsTree tag_of counters.tree made history.written
  pub clean : (page : ℕ) (copy : CachedNode) → cached_block counters page ≡ Some copy → copy.changed ≡ false → copy.block ≡ page_block page made
  -- the current counter block of each page says the last entries of its lines, and a line is fresh exactly where that is
  -- the counter of one that was never written
  pub current : (page : ℕ) → page < page_count geometry → IsOfPage used page (counters_in counters made page)
  pub fresh : (line : ℕ) → (counter_in used line ≡ never_written) ↔ IsFresh line used
  -- the messages of lines are those of the entries, in order
  pub paired : data_pairs made ≡ of_lines (line_count geometry) used
  -- the place of each line that is not fresh holds its last message with its tag
  pub stored : HoldsLast tag_of (line_count geometry) made history.written
  -- the counters of each line are counted up; and where a page counter is above 0, no line of the page is fresh
  pub successive : AreSuccessive used
  pub whole_pages : (page line : ℕ) → page < page_count geometry → 0 < (counters_in counters made page).page → page_of line ≡ page → ¬ IsFresh line used

-- the lines outside and what the chip has of them fit together
abbrev pub LinesFit : {B T : Type 0} → (T → List ℕ → List ℕ) → (T → List ℕ → List ℕ) → (B → BusHistory) → SealedLinesView B T → Type 0
LinesFit data_tag_of node_tag_of history lines =
    FitsTogether (tag_in data_tag_of node_tag_of lines) (geometry lines) lines.counters (history lines.bus) (made lines) (used lines)

-- only pages of the memory have a copy of their counter block
abbrev pub AreOfPages : GeometryView → CountersView → Type 0
AreOfPages geometry counters = (page : ℕ) → Contains (cached_pages counters) page → page < page_count geometry

-- What holds between calls: at all times, where there is no evidence, and where there is also no stop that lasts.
pub record AreProtected {B T : Type 0} (data_tag_of node_tag_of : T → List ℕ → List ℕ) (history : B → BusHistory) (lines : SealedLinesView B T) : Type 0 where
  -- the tree over the counters is that of the memory
  pub tree_geometry : lines.counters.tree.geometry ≡ geometry lines
  pub pages : AreOfPages (geometry lines) lines.counters
  pub always : IsProtected (tag_in data_tag_of node_tag_of lines) (geometry lines) (history lines.bus) (made lines) (used lines) lines.stopped
  pub rise : IsQuiet lines → CountersRise (geometry lines) lines.limit (used lines) lines.stopped
  -- what was made of nodes says the tags of its children's last messages, or zeros, and counters of its lines, and nothing else
  pub nodes : IsQuiet lines → NodesSay (tag_in data_tag_of node_tag_of lines) (geometry lines) (used lines) (made lines)
  pub fits : lasting_stop lines.stopped ≡ None → IsQuiet lines → LinesFit data_tag_of node_tag_of history lines

-- the false answers of the bus are accounted for
abbrev pub AccountsForAll : {B T : Type 0} → (TagEngineView T → Message → List ℕ) → (B → BusHistory) → SealedLinesView B T → Type 0
AccountsForAll tags history lines =
    IsAccounted (tags lines.engine) (used lines) (made lines) (history lines.bus) lines.stopped (evidence lines)

-- A memory over this bus of which nothing was made: neither its bus nor its tag engine was used.
pub record AreNew {B T : Type 0} (bus : B) (tagger : T) (key : List ℕ) (shape : GeometryView) (limit : ℕ) (lines : SealedLinesView B T) : Type 0 where
  pub bus_is : lines.bus ≡ bus
  pub tagger_is : lines.engine.tagger ≡ tagger
  pub geometry_is : geometry lines ≡ shape
  pub tree_geometry : lines.counters.tree.geometry ≡ shape
  pub root_is : lines.counters.tree.root ≡ no_tag
  pub key_is : enc_key lines ≡ key
  pub limit_is : lines.limit ≡ limit
  pub unmade : made lines ≡ []
  pub unused : used lines ≡ []
  pub no_blocks : cached_pages lines.counters ≡ []
  pub no_nodes : (level : ℕ) → cached_nodes lines.counters.tree level ≡ []
  pub quiet : IsQuiet lines
  pub going : lines.stopped ≡ None

-- What calls leave as it was, add to, or carry on. What they encrypt is of the lines that are allowed.
pub record Moves {B T : Type 0} (history : B → BusHistory) (bus_moved : B → List Access → B → Type 0) (tags : TagEngineView T → Message → List ℕ)
    (allowed : ℕ → Type 0) (old new : SealedLinesView B T) : Type 0 where
  -- unless a stop lasted before: which accesses there were
  pub trace : lasting_stop old.stopped ≡ None →
      MakesAccesses bus_moved (tags old.engine) old.bus old.engine new.bus new.engine new.stopped
  pub step : StepMoves (history old.bus) old.engine (history new.bus) new.engine
  pub key : enc_key new ≡ enc_key old
  pub limit : new.limit ≡ old.limit
  pub entries : List (ℕ × Counter)
  pub used_more : used new ≡ used old ++ entries
  pub entries_allowed : (line : ℕ) (counter : Counter) → Contains entries (line, counter) → allowed line
  -- after a stop that lasts nothing is done
  pub idle : (stop : MemStop) → lasting_stop old.stopped ≡ Some stop → new ≡ old
  pub accounted : AccountsForAll tags history old → AccountsForAll tags history new

-- No more counter blocks and nodes have copies on the chip than may.
pub record KeepsFew (counters counters' : CountersView) : Type 0 where
  pub blocks : length (cached_pages counters) ≤ most_blocks → length (cached_pages counters') ≤ most_blocks
  pub nodes : (level : ℕ) → length (cached_nodes counters.tree level) ≤ most_copies → length (cached_nodes counters'.tree level) ≤ most_copies

-- The copies on the chip after a call on a line of a page. A counter block that has one had it before, or is the page's own,
-- which was read from its place or never made. A node that has one had it before, or was read or never made, and so were those
-- above it, up to the lowest one that had one. Unless the call ran out of memory, a node that went out with another block, and
-- came again, was read; and so was a counter block, unless a stop lasts.
pub record CopiesCame (page : ℕ) (old : BusHistory) (made : List Message) (counters : CountersView) (new : BusHistory)
    (made' : List Message) (counters' : CountersView) (stop : Option MemStop) : Type 0 where
  pub blocks : (other : ℕ) → Contains (cached_pages counters') other → Contains (cached_pages counters) other
      ⊎ ((other ≡ page) × CameFrom made old new page)
  pub nodes : (level index : ℕ) → cached_node counters'.tree level index ≢ None → WasReadUp counters.tree made level index old new
  pub nodes_came : stop ≢ Some NoMemory → CameUnlessHeld counters.tree old made counters'.tree new made'
  pub blocks_came : lasting_stop stop ≡ None → BlocksCameUnlessHeld counters old made counters' new made'

-- Where there is neither a stop that lasts nor evidence, the nodes on the path of the line's page were read, unless its
-- counters were on the chip or they were never made; and the line was read or had never been tagged.
pub record WasRead {B T : Type 0} (history : B → BusHistory) (old : SealedLinesView B T) (line : ℕ) (new : SealedLinesView B T) : Type 0 where
  pub path : lasting_stop new.stopped ≡ None → IsQuiet new → ¬ Contains (cached_pages old.counters) (page_of line) →
      PathWasRead old.counters.tree (made old) 0 (page_of line) (history old.bus) (history new.bus)
  pub read : lasting_stop new.stopped ≡ None → IsQuiet new →
      (last_data line (made old) ≡ None) ⊎ Rose ((history old.bus).reads (line_place line)) ((history new.bus).reads (line_place line))

-- The bytes are those that a line was read as under a counter, by these accesses: zeros, without an access, where that is the
-- counter of a line that was never written; else what its place answered to one read, with the tag of its message, as it was
-- decrypted.
abbrev pub IsReadUnder : (Message → List ℕ) → List ℕ → ℕ → Counter → List Access → List ℕ → Type 0
IsReadUnder tag_of key line counter accesses bytes = ((counter ≡ never_written) × (accesses ≡ []) × (bytes ≡ replicate 64 0))
    ⊎ ((counter ≢ never_written) × (sealed : Sealed) × (sealed.tag ≡ tag_of (Line line counter sealed.cipher))
    × (accesses ≡ Read (line_place line) (sealed_bytes sealed) ∷ []) × (bytes ≡ cipher_of key line counter sealed.cipher))

-- Of these lines each that was written before was read from its place, but for the line that is written.
abbrev pub AreReread : ℕ → List ℕ → List (ℕ × Counter) → BusHistory → BusHistory → Type 0
AreReread line lines used old new = (other : ℕ) → Contains lines other → other ≢ line →
    IsFresh other used ⊎ Rose (old.reads (line_place other)) (new.reads (line_place other))

-- The counters of all pages are the same.
abbrev pub SameCounters : {B T : Type 0} → SealedLinesView B T → SealedLinesView B T → Type 0
SameCounters old new = (page : ℕ) → page_counters new page ≡ page_counters old page

-- No line was encrypted or tagged, and no line's place was written.
pub record IsUnsealed {B T : Type 0} (history : B → BusHistory) (old new : SealedLinesView B T) : Type 0 where
  pub unused : used new ≡ used old
  pub more : List Message
  pub messages : made new ≡ made old ++ more
  pub untagged : data_pairs more ≡ []
  pub unwritten_to : (line : ℕ) → (history new.bus).written (line_place line) ≡ (history old.bus).written (line_place line)

-- a place is that of another line of the written line's page
pub record IsBeside (line : ℕ) (place : Place) : Type 0 where
  pub other : ℕ
  pub place_is : place ≡ line_place other
  pub of_page : page_of other ≡ page_of line
  pub apart : other ≢ line

-- What a write of the line accepted though it was never tagged is another line of the page. It was read when the lines before
-- it in the page had been sealed: since then as many messages were made as lines were sealed.
pub record IsAcceptedInWrite (line : ℕ) (used used' : List (ℕ × Counter)) (made' : List Message) (at made_count : ℕ) : Type 0 where
  pub beside : IsBeside line (line_place at)
  pub since : made_count + length used' ≡ length made' + (length used + place_of at)
