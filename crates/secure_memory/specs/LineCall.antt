-- What a load or a store of a line makes of the memory: a line that is not held is read, once the changed one that goes out for
-- it was written.
use Rattle.std.specs.Prelude.{◌≡◌, ◌≢◌, ◌⊎◌, ℕ, ◌+◌, ◌≤◌, ◌++◌, length, map, take, Option, Some, None, Contains}
use Rattle.sec_base.specs.declared.counter.Counter.{Counter}
use Rattle.sec_base.specs.declared.place.Place.{Place}
use Rattle.sec_base.specs.declared.place.Place.TheVariants.{Line as line_place}
use Rattle.sec_base.specs.declared.stop.MemStop.{MemStop}
use Rattle.sec_base.specs.declared.stop.MemStop.TheVariants.{Tampered, Spent}
use Rattle.sec_base.specs.Count.{Rose}
use Rattle.sec_base.specs.Geometry.{page_of}
use Rattle.sec_base.specs.LastMessage.{IsFresh}
use Rattle.bus_model.specs.BusHistory.{BusHistory}
use Rattle.split_counter.specs.CounterBlock.{last_counter, next_counter}
use Rattle.bonsai_tree.specs.Tree.{IsFetchPlace}
use Rattle.page_reencrypt.specs.Contents.{counter_in, lines_encrypted}
use Rattle.page_reencrypt.specs.LineMoves.{overflow_accesses, read_accesses, write_accesses}
use Rattle.page_reencrypt.specs.SealedLines.{IsBeside, IsUnsealed, SameCounters}
use Rattle.cache_set.specs.declared.way.Way.{Way}
use Rattle.secure_memory.specs.SecureRam.{IsQuiet, LineHad, PathHad, SecureRamView, held_lines, geometry, used}

-- the place of the line, or of a node that is read to have its page's counters
abbrev pub IsOfLine : {B T : Type 0} → SecureRamView B T → ℕ → Place → Type 0
IsOfLine memory line place = (place ≡ line_place line) ⊎ IsFetchPlace (geometry memory) (page_of line) place

-- The changed line that goes out, if one does:

-- a place that its write may name is that of a node that is read to have its page's counters, or of another line of the page
abbrev pub IsOfLeaving : {B T : Type 0} → SecureRamView B T → Option Way → Place → Type 0
IsOfLeaving memory None place = ⊥
IsOfLeaving memory (Some way) place = IsFetchPlace (geometry memory) (page_of way.place) place ⊎ IsBeside way.place place

-- its write is no overflow
abbrev pub HasNoOverflow : {B T : Type 0} → SecureRamView B T → Option Way → Type 0
HasNoOverflow memory None = Unit {0}
HasNoOverflow memory (Some way) = (next_counter (counter_in (used memory) way.place)).line ≢ 0

-- it has the last counter that the limit allows
abbrev pub IsUsedUp : {B T : Type 0} → SecureRamView B T → Option Way → Type 0
IsUsedUp memory None = ⊥
IsUsedUp memory (Some way) = counter_in (used memory) way.place ≡ last_counter memory.lines.limit

-- it is of this page
abbrev pub IsOfLeavingPage : Option Way → ℕ → Type 0
IsOfLeavingPage None page = ⊥
IsOfLeavingPage (Some way) page = page ≡ page_of way.place

-- how many accesses its write makes at most, without an overflow and with one
abbrev pub short_accesses : ℕ → Option Way → ℕ
short_accesses levels None = 0
short_accesses levels (Some way) = write_accesses levels

-- how many accesses the write back of a dirty victim makes at most, an overflow counted in
abbrev pub leaving_accesses : ℕ → Option Way → ℕ
leaving_accesses levels None = 0
leaving_accesses levels (Some way) = overflow_accesses levels

-- The entries of a write of this line were added, under one counter: its next one, where there is no evidence.
pub record IsWrittenAnew {B T : Type 0} (line : ℕ) (old new : SecureRamView B T) : Type 0 where
  pub counter : Counter
  pub next : IsQuiet new → counter ≡ next_counter (counter_in (used old) line)
  pub entries : used new ≡ used old ++ map (λ at. (at, counter)) (lines_encrypted counter line)

-- A front part of them was.
pub record IsWrittenInPart {B T : Type 0} (line : ℕ) (old new : SecureRamView B T) : Type 0 where
  pub counter : Counter
  pub next : IsQuiet new → counter ≡ next_counter (counter_in (used old) line)
  pub count : ℕ
  pub within : count ≤ length (lines_encrypted counter line)
  pub entries : used new ≡ used old ++ map (λ at. (at, counter)) (take count (lines_encrypted counter line))

-- A call on a line, with the changed line that goes out for it, if one does, and the stop that it answers, if it answers one.
pub record IsLineCall {B T : Type 0} (history : B → BusHistory) (old : SecureRamView B T) (line : ℕ) (out : Option Way) (stop : Option MemStop)
    (new : SecureRamView B T) : Type 0 where
  -- a line that is held is not looked up outside, and no line goes out for it
  pub hit : Contains (held_lines old) line → (stop ≡ None) × (new.lines ≡ old.lines) × (out ≡ None)
  pub held : (other : ℕ) → Contains (held_lines new) other → Contains (held_lines old) other ⊎ (other ≡ line)
  -- it is what it takes to have the page's counters and to read the line at most, and of the line that goes out what its write
  -- takes; where that is no overflow, no other line is read
  pub few : (history new.lines.bus).accesses ≤ (history old.lines.bus).accesses + (leaving_accesses (geometry old).levels out + read_accesses (geometry old).levels)
  pub once : IsQuiet new → HasNoOverflow old out →
      (history new.lines.bus).accesses ≤ (history old.lines.bus).accesses + (short_accesses (geometry old).levels out + read_accesses (geometry old).levels)
  pub alone : IsQuiet new → HasNoOverflow old out → (other : ℕ) → other ≢ line →
      (history new.lines.bus).reads (line_place other) ≡ (history old.lines.bus).reads (line_place other)
  -- the line was held, or never tagged, or was read from its place, where the call neither stops nor finds evidence; then the
  -- path of its page was read, where its counters were not on the chip, but for nodes that were never made
  pub read : IsQuiet new → stop ≡ None → LineHad history old new line
  pub path : IsQuiet new → stop ≡ None → PathHad history old new line
  -- where no changed line goes out, no line is encrypted, tagged or written, no counter changes, and a line that was never
  -- written is not read
  pub unsealed : out ≡ None → IsUnsealed history old.lines new.lines × (IsQuiet new → SameCounters old.lines new.lines)
  pub fresh : out ≡ None → IsQuiet new → IsFresh line (used old) →
      (history new.lines.bus).reads (line_place line) ≡ (history old.lines.bus).reads (line_place line)
  -- else what was used grows by the entries of one write of the line that goes out, or where the call stops by a front part
  -- of them
  pub sealed : (way : Way) → out ≡ Some way → IsWrittenInPart way.place old new × (stop ≡ None → IsWrittenAnew way.place old new)
  -- tampering comes only of the line, of a node that is read to have its page's counters, or of a place that the write of the
  -- line that goes out may name, and where an answer was false or there was evidence before
  pub tampered : (place : Place) → stop ≡ Some (Tampered place) →
      (IsOfLine old line place ⊎ IsOfLeaving old out place)
      × (IsQuiet old → Rose (history old.lines.bus).lies (history new.lines.bus).lies)
  -- without evidence, only an overflow that the limit allows names another line
  pub untampered : (other : ℕ) → IsQuiet new → HasNoOverflow old out ⊎ IsUsedUp old out → other ≢ line →
      stop ≢ Some (Tampered (line_place other))
  -- a page is spent only where a line of it goes out that, without evidence, has the last counter that the limit allows; such a
  -- line is not written, and the call stops
  pub spent : (page : ℕ) → stop ≡ Some (Spent page) → IsOfLeavingPage out page × (IsQuiet new → IsUsedUp old out) × IsUnsealed history old.lines new.lines
  pub used_up : IsQuiet new → IsUsedUp old out → (stop ≢ None) × IsUnsealed history old.lines new.lines × SameCounters old.lines new.lines
