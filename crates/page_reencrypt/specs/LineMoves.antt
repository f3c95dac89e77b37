-- What a read and a write of a line make of the lines outside, with what they answer.
use Rattle.std.specs.Prelude.{◌≡◌, ◌≢◌, ℕ, ◌+◌, ◌≤◌, List, Result, Some, None, OnOk, Contains}
use Rattle.std.specs.Option.{option_or}
use Rattle.std.specs.Result.{result_err}
use Rattle.sec_base.specs.Geometry.{page_of}
use Rattle.sec_base.specs.declared.counter.Counter.{Counter}
use Rattle.sec_base.specs.declared.evidence.Evidence.TheVariants.{Forgery}
use Rattle.sec_base.specs.declared.message.Message.{Message}
use Rattle.sec_base.specs.declared.place.Place.TheVariants.{Line as line_place}
use Rattle.sec_base.specs.declared.sealed.Sealed.{Sealed}
use Rattle.sec_base.specs.declared.stop.MemStop.{MemStop}
use Rattle.bus_model.specs.Access.{Access}
use Rattle.bus_model.specs.BusHistory.{BusHistory}
use Rattle.tag_engine.specs.TagEngine.{TagEngineView}
use Rattle.split_counter.specs.CounterBlock.{next_counter}
use Rattle.bonsai_tree.specs.Tree.{UnmadeAreUnread}
use Rattle.counter_cache.specs.Counters.{cached_pages, counter_accesses}
use Rattle.page_reencrypt.specs.Contents.{counter_in}
use Rattle.page_reencrypt.specs.Outside.{IsLineRead, IsWrite, MemoryTerms, outside_of}
use Rattle.page_reencrypt.specs.SealedLines.{CopiesCame, FitsTogether, IsAcceptedInWrite, IsLineOf, IsQuiet, KeepsFew, Moves, SealedLinesView, WasRead, evidence, geometry, made, used}
use Rattle.page_reencrypt.specs.Stops.{lasting_stop}
use Rattle.page_reencrypt.specs.UnderCounters.{ReadUnderCounters, WrittenUnderCounters}

-- how many accesses a read of a line makes at most, and a write without an overflow and with one
abbrev pub read_accesses : ℕ → ℕ
read_accesses levels = counter_accesses levels + 1

-- how many accesses a write of a line without an overflow makes at most
abbrev pub write_accesses : ℕ → ℕ
write_accesses levels = counter_accesses levels + 1

-- how many accesses a write of a line with an overflow makes at most
abbrev pub overflow_accesses : ℕ → ℕ
overflow_accesses levels = write_accesses levels + 126

module _ {B T : Type 0} (history : B → BusHistory) (bus_moved : B → List Access → B → Type 0) (tags : TagEngineView T → Message → List ℕ) where
  -- how this memory is seen: its history, its moves, its tags and its geometry
  abbrev pub terms_in : SealedLinesView B T → MemoryTerms B
  terms_in lines = record { history = history; moved = bus_moved; tag_of = tags lines.engine; geometry = geometry lines }

  -- without evidence or a lasting stop, the counters and what stands outside fit together
  abbrev pub FitsUnlessStopped : SealedLinesView B T → Type 0
  FitsUnlessStopped lines = lasting_stop lines.stopped ≡ None → IsQuiet lines →
      FitsTogether (tags lines.engine) (geometry lines) lines.counters (history lines.bus) (made lines) (used lines)

  -- A read of a line, with its answer. The last stop is kept. Where none lasted before, the line was read under its page's
  -- counters.
  pub record ReadMoved (old : SealedLinesView B T) (line : ℕ) (answer : Result (List ℕ) MemStop) (new : SealedLinesView B T) : Type 0 where
    pub moves : Moves history bus_moved tags (IsLineOf old) old new
    pub read : WasRead history old line new
    pub stopped : new.stopped ≡ option_or (result_err answer) old.stopped
    pub few_copies : KeepsFew old.counters new.counters
    pub copies : IsQuiet new → CopiesCame (page_of line) (history old.bus) (made old) old.counters (history new.bus) (made new) new.counters (result_err answer)
    -- no node was read that was never made
    pub unread : IsQuiet new → UnmadeAreUnread (history old.bus) (made new) (history new.bus)
    -- where it was read, its page's counter block has a copy then
    pub cached : OnOk answer (Contains (cached_pages new.counters) (page_of line))
    pub fits : FitsUnlessStopped new
    pub outside : lasting_stop old.stopped ≡ None →
        IsLineRead (terms_in old) line (outside_of old) old.counters (outside_of new) new.counters answer
    pub under : lasting_stop old.stopped ≡ None →
        ReadUnderCounters history bus_moved tags line (outside_of old) old.counters (outside_of new) new.counters answer

  -- A write of a line, with its bytes and its answer.
  pub record WriteMoved (old : SealedLinesView B T) (line : ℕ) (bytes : List ℕ) (answer : Result (Unit {0}) MemStop) (new : SealedLinesView B T) : Type 0 where
    pub moves : Moves history bus_moved tags (IsLineOf old) old new
    pub stopped : new.stopped ≡ option_or (result_err answer) old.stopped
    pub few_copies : KeepsFew old.counters new.counters
    pub copies : IsQuiet new → CopiesCame (page_of line) (history old.bus) (made old) old.counters (history new.bus) (made new) new.counters (result_err answer)
    -- no node was read that was never made
    pub unread : IsQuiet new → UnmadeAreUnread (history old.bus) (made new) (history new.bus)
    -- where it was written or is spent, its page's counter block has a copy then
    pub cached : lasting_stop (result_err answer) ≡ None → Contains (cached_pages new.counters) (page_of line)
    pub fits : FitsUnlessStopped new
    pub outside : lasting_stop old.stopped ≡ None →
        IsWrite (terms_in old) old.limit line bytes (outside_of old) old.counters (outside_of new) new.counters (result_err answer)
    pub under : lasting_stop old.stopped ≡ None →
        WrittenUnderCounters history bus_moved tags old.limit line (outside_of old) old.counters (outside_of new) new.counters (result_err answer)
    -- without an overflow no line is read
    pub once : IsQuiet new → (next_counter (counter_in (used old) line)).line ≢ 0 →
        ((history new.bus).accesses ≤ (history old.bus).accesses + write_accesses (geometry old).levels)
        × ((other : ℕ) → (history new.bus).reads (line_place other) ≡ (history old.bus).reads (line_place other))
    pub few : (history new.bus).accesses ≤ (history old.bus).accesses + overflow_accesses (geometry old).levels
    -- where the page's counters are on the chip: one access at most without an overflow, and 127 with one
    pub hit : Contains (cached_pages old.counters) (page_of line) → IsQuiet new → (next_counter (counter_in (used old) line)).line ≢ 0 →
        (history new.bus).accesses ≤ (history old.bus).accesses + 1
    pub hit_overflow : Contains (cached_pages old.counters) (page_of line) → (history new.bus).accesses ≤ (history old.bus).accesses + 127
    -- what it accepted though it was never tagged
    pub accepted : (at : ℕ) (counter : Counter) (sealed : Sealed) (made_count : ℕ) → IsQuiet old →
        evidence new ≡ Some (Forgery at counter sealed made_count) → IsAcceptedInWrite line (used old) (used new) (made new) at made_count
