-- What contracts see of the memory that the processor sees, and what calls make of it.
use Rattle.std.specs.Prelude.{◌≡◌, ◌≢◌, ◌⊎◌, ℕ, ◌≤◌, List, ◌++◌, length, map, Option, Some, None, Contains}
use Rattle.sec_base.specs.declared.counter.Counter.{Counter}
use Rattle.sec_base.specs.declared.evidence.Evidence.{Evidence}
use Rattle.sec_base.specs.declared.message.Message.{Message}
use Rattle.sec_base.specs.declared.place.Place.TheVariants.{Line as line_place}
use Rattle.sec_base.specs.declared.stop.MemStop.{MemStop}
use Rattle.sec_base.specs.declared.stop.MemStop.TheVariants.{NoMemory}
use Rattle.sec_base.specs.Count.{Rose}
use Rattle.sec_base.specs.Geometry.{GeometryView, page_of}
use Rattle.sec_base.specs.LastMessage.{last_data}
use Rattle.sec_base.specs.Lines.{line_at}
use Rattle.bus_model.specs.Access.{Access}
use Rattle.bus_model.specs.BusHistory.{BusHistory}
use Rattle.tag_engine.specs.TagEngine.{TagEngineView}
use Rattle.bonsai_tree.specs.Node.{CachedNode}
use Rattle.bonsai_tree.specs.NodeCache.{most_copies}
use Rattle.bonsai_tree.specs.Tree.{CameUnlessHeld, PathWasRead, UnmadeAreUnread, WasReadUp}
use Rattle.bonsai_tree.specs.Tree as tree
use Rattle.counter_cache.specs.Counters.{BlocksCameUnlessHeld, CameFrom, most_blocks}
use Rattle.counter_cache.specs.Counters as page_counters
use Rattle.page_reencrypt.specs.LineMoves.{FitsUnlessStopped}
use Rattle.page_reencrypt.specs.SealedLines.{IsLineOf, Moves, SealedLinesView, enc_key}
use Rattle.page_reencrypt.specs.SealedLines as sealed_lines
use Rattle.cache_set.specs.declared.way.Way.{Way}
use Rattle.cache_set.specs.Cache.{places}
use Rattle.line_cache.specs.LineCache.{contents_over, most_held}
use Rattle.secure_memory.specs.Encrypted.{EncryptsContents}

-- the lines outside, and the sets of ways with copies of lines
pub record SecureRamView (B T : Type 0) : Type 0 where
  pub lines : SealedLinesView B T
  pub ways : List (List Way)

-- what was tagged and what lines were encrypted under, in order; what passed a check though it was never tagged; and
-- the stop that is answered to each call, if there was one
abbrev pub made : {B T : Type 0} → SecureRamView B T → List Message
made memory = sealed_lines.made memory.lines

-- the line and the counter of each encryption, in order
abbrev pub used : {B T : Type 0} → SecureRamView B T → List (ℕ × Counter)
used memory = sealed_lines.used memory.lines

-- the message that passed its check though this memory never tagged it, where there is one
abbrev pub evidence : {B T : Type 0} → SecureRamView B T → Option Evidence
evidence memory = sealed_lines.evidence memory.lines

-- the last stop that a read or write of a line outside answered, where one did
abbrev pub stopped : {B T : Type 0} → SecureRamView B T → Option MemStop
stopped memory = memory.lines.stopped

-- the geometry of its tree, how many lines it has, and all its bytes, in order
abbrev pub geometry : {B T : Type 0} → SecureRamView B T → GeometryView
geometry memory = sealed_lines.geometry memory.lines

-- how many lines the memory has
abbrev pub lines_of : {B T : Type 0} → SecureRamView B T → ℕ
lines_of memory = sealed_lines.lines_of memory.lines

-- (of a held line, those of its copy)
abbrev pub contents : {B T : Type 0} → SecureRamView B T → List ℕ
contents memory = contents_over (sealed_lines.contents memory.lines) (lines_of memory) memory.ways

-- nothing passed a check though it was never tagged
abbrev pub IsQuiet : {B T : Type 0} → SecureRamView B T → Type 0
IsQuiet memory = evidence memory ≡ None

-- the lines that have a copy on the chip, and the pages whose counter blocks do
abbrev pub held_lines : {B T : Type 0} → SecureRamView B T → List ℕ
held_lines memory = places memory.ways

-- the pages whose counter blocks have a copy on the chip
abbrev pub cached_pages : {B T : Type 0} → SecureRamView B T → List ℕ
cached_pages memory = page_counters.cached_pages memory.lines.counters

-- the nodes of a level that have one, and the copy of a node
abbrev pub cached_nodes : {B T : Type 0} → SecureRamView B T → ℕ → List ℕ
cached_nodes memory level = tree.cached_nodes memory.lines.counters.tree level

-- the copy of a node on the chip, where it has one
abbrev pub cached_node : {B T : Type 0} → SecureRamView B T → ℕ → ℕ → Option CachedNode
cached_node memory level index = tree.cached_node memory.lines.counters.tree level index

-- the pages of which something is on the chip
abbrev pub pages_on_chip : {B T : Type 0} → SecureRamView B T → List ℕ
pages_on_chip memory = map page_of (held_lines memory) ++ cached_pages memory

-- The line was held before, or was never tagged, or was read from its place.
abbrev pub LineHad : {B T : Type 0} → (B → BusHistory) → SecureRamView B T → SecureRamView B T → ℕ → Type 0
LineHad history old new line = Contains (held_lines old) line ⊎ ((last_data line (made old) ≡ None)
    ⊎ Rose ((history old.lines.bus).reads (line_place line)) ((history new.lines.bus).reads (line_place line)))

-- The page's counter block was never tagged, or was read from its place.
abbrev pub PageRead : {B T : Type 0} → (B → BusHistory) → SecureRamView B T → SecureRamView B T → ℕ → Type 0
PageRead history old new page = CameFrom (made old) (history old.lines.bus) (history new.lines.bus) page

-- Something of the page was on the chip before, or its counter block was read from its place or never tagged.
abbrev pub PageHad : {B T : Type 0} → (B → BusHistory) → SecureRamView B T → SecureRamView B T → ℕ → Type 0
PageHad history old new page = Contains (pages_on_chip old) page ⊎ PageRead history old new page

-- The line was held before, or its page's counters were on the chip, or the nodes on the path of its page were read, up to the
-- lowest one that had a copy, but for those that were never made.
abbrev pub PathHad : {B T : Type 0} → (B → BusHistory) → SecureRamView B T → SecureRamView B T → ℕ → Type 0
PathHad history old new line = ¬ Contains (held_lines old) line → ¬ Contains (cached_pages old) (page_of line) →
    PathWasRead old.lines.counters.tree (made old) 0 (page_of line) (history old.lines.bus) (history new.lines.bus)

-- No more counter blocks and nodes have copies than may. Where there is no evidence, each block that has one had it before, or
-- was read from its place, or was never made; and each node that has one had it before, or was read from its place or never made, and
-- so were the nodes above it, up to the lowest one that had one. Unless memory ran out, a node that went out with another block,
-- and came again, was read; and so was a counter block, unless the memory stopped.
pub record CopiesHad {B T : Type 0} (history : B → BusHistory) (old new : SecureRamView B T) : Type 0 where
  pub tree_geometry : new.lines.counters.tree.geometry ≡ old.lines.counters.tree.geometry
  pub few_blocks : length (cached_pages old) ≤ most_blocks → length (cached_pages new) ≤ most_blocks
  pub few_nodes : (level : ℕ) → length (cached_nodes old level) ≤ most_copies → length (cached_nodes new level) ≤ most_copies
  pub blocks : IsQuiet new → (page : ℕ) → Contains (cached_pages new) page → Contains (cached_pages old) page ⊎ PageRead history old new page
  pub nodes : IsQuiet new → (level index : ℕ) → cached_node new level index ≢ None →
      WasReadUp old.lines.counters.tree (made old) level index (history old.lines.bus) (history new.lines.bus)
  pub nodes_came : IsQuiet new → stopped new ≢ Some NoMemory →
      CameUnlessHeld old.lines.counters.tree (history old.lines.bus) (made old) new.lines.counters.tree (history new.lines.bus) (made new)
  pub blocks_came : IsQuiet new → stopped new ≡ None →
      BlocksCameUnlessHeld old.lines.counters (history old.lines.bus) (made old) new.lines.counters (history new.lines.bus) (made new)

-- Each line that was touched or is held was held before, or was read from its place or never tagged, and so was its page's
-- counter block.
pub record WereHad {B T : Type 0} (history : B → BusHistory) (old : SecureRamView B T) (lines : List ℕ) (new : SecureRamView B T) : Type 0 where
  pub touched : (line : ℕ) → Contains lines line → LineHad history old new line × PageHad history old new (page_of line)
  pub held : (line : ℕ) → Contains (held_lines new) line → LineHad history old new line × PageHad history old new (page_of line)

-- what calls with these lines make of a memory that answers its first stop to each later call
pub record IsMoved {B T : Type 0} (history : B → BusHistory) (bus_moved : B → List Access → B → Type 0) (tags : TagEngineView T → Message → List ℕ)
    (old : SecureRamView B T) (lines : List ℕ) (new : SecureRamView B T) : Type 0 where
  pub moves : Moves history bus_moved tags (IsLineOf old.lines) old.lines new.lines
  pub stays : (stop : MemStop) → stopped old ≡ Some stop → stopped new ≡ Some stop
  pub few : length (held_lines old) ≤ most_held → length (held_lines new) ≤ most_held
  pub copies : CopiesHad history old new
  -- no node was read that was never made
  pub unread : IsQuiet new → UnmadeAreUnread (history old.lines.bus) (made new) (history new.lines.bus)
  -- what stands outside fits what the chip has of it, unless it stopped or there is evidence
  pub fits : FitsUnlessStopped history bus_moved tags old.lines → FitsUnlessStopped history bus_moved tags new.lines
  pub had : stopped new ≡ None → IsQuiet new → WereHad history old lines new
  -- what the messages that were made say of the lines, and that a line that no call touches keeps its bytes
  pub encrypts : IsQuiet new →
      EncryptsContents (enc_key old.lines) (made new) (length (made old)) (length (made new)) lines (contents old) (contents new)
  pub untouched : IsQuiet new → (line : ℕ) → ¬ Contains lines line → line_at (contents new) line ≡ line_at (contents old) line
