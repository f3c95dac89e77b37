-- What a write of a line makes of the lines outside.
use Rattle.std.proofs.Common.{◌≡◌, ◌≢◌, ◌⊎◌, inl, inr, ℕ, ◌+◌, ◌<◌, ◌≤◌, List, [], map, take, Option, Some, None, Contains, Result, Err, OnOk, OnErr, refl, ap, sym, ◌∙◌, subst, arith}
use Rattle.std.specs.Option.{option_or}
use Rattle.std.specs.Result.{result_err}
use Rattle.std.proofs.lemmas.Bool.{cases_eq}
use Rattle.std.proofs.lemmas.List.{take_all}
use Rattle.sec_base.specs.declared.counter.Counter.{Counter}
use Rattle.sec_base.specs.declared.message.Message.{Message}
use Rattle.sec_base.specs.declared.place.Place.TheVariants.{Line as line_place}
use Rattle.sec_base.specs.declared.stop.MemStop.{MemStop}
use Rattle.sec_base.specs.declared.stop.MemStop.TheVariants.{NoMemory}
use Rattle.sec_base.specs.Geometry.{GeometryView, line_count, page_of}
use Rattle.sec_base.specs.Lines.{with_line}
use Rattle.sec_base.proofs.JoinedLines.{joined_lines-same, with_line-joined_lines}
use Rattle.sec_base.proofs.Results.{on_success, on_err, was_none}
use Rattle.bus_model.specs.Access.{Access}
use Rattle.bus_model.specs.BusHistory.{BusHistory}
use Rattle.tag_engine.specs.TagEngine.{TagEngineView, tags_of}
use Rattle.checked_bus.specs.Steps.{IsAccounted}
use Rattle.split_counter.specs.CounterBlock.{next_counter}
use Rattle.counter_cache.specs.Counters.{CountersView, cached_pages}
use Rattle.page_reencrypt.specs.Contents.{bytes_of, contents_of, counter_in, line_bytes, lines_encrypted}
use Rattle.page_reencrypt.specs.LineLengths.{length-line_bytes}
use Rattle.page_reencrypt.specs.LineMoves.{WriteMoved, overflow_accesses, write_accesses}
use Rattle.page_reencrypt.specs.Outside.{Accepts, IsWrite, OutsideView, outside_of, terms_of}
use Rattle.page_reencrypt.specs.SealedLines.{AreOfPages, AreProtected, CountersRise, IsAcceptedInWrite, IsLineOf, Moves, SealedLinesView, contents}
use Rattle.page_reencrypt.specs.Stops.{lasting_stop}
use Rattle.page_reencrypt.specs.UnderCounters.{WrittenUnderCounters}
use Rattle.page_reencrypt.proofs.Entries.{encrypted_itself, encrypted_of_page, entry_line, taken}
use Rattle.page_reencrypt.proofs.Kept.{none_before, protected_after, stop_accesses, stop_accounted, stop_going, stop_lasts, stop_memory, stop_spent}
use Rattle.page_reencrypt.proofs.LineReads.{beside_inside}
use Rattle.page_reencrypt.proofs.Moves.{moves_not}
use Rattle.page_reencrypt.proofs.ReadCalls.{lasts_again, lasts_itself}
use Rattle.page_reencrypt.proofs.Reaching.{came_not, few_not}
use Rattle.page_reencrypt.proofs.Rises.{rises_after}
use Rattle.page_reencrypt.proofs.Sealing.{listed_or_not}
use Rattle.page_reencrypt.proofs.Unmade.{same_tags}

-- after a stop that lasts
pub lasting_write : {B T : Type 0} (history : B → BusHistory) (bus_moved : B → List Access → B → Type 0) (tags : TagEngineView T → Message → List ℕ) →
    ((bus : B) → bus_moved bus [] bus) → (lines : SealedLinesView B T) (line : ℕ) (bytes : List ℕ) (stop : MemStop) →
    lasting_stop lines.stopped ≡ Some stop → WriteMoved history bus_moved tags lines line bytes (Err stop) lines
lasting_write history bus_moved tags bus_unmoved lines line bytes stop lasting = record {
  moves = moves_not history bus_moved tags (IsLineOf lines) bus_unmoved lines;
  stopped = lasts_itself lines.stopped stop lasting;
  few_copies = few_not lines.counters;
  copies = λ quiet. came_not (page_of line) (history lines.bus) lines.engine.made lines.counters (Some stop);
  unread = λ quiet level index none. refl;
  cached = λ going. absurd (lasts_again lines.stopped stop lasting going);
  fits = λ going quiet. absurd (cc);
  outside = λ going. absurd (cc);
  under = λ going. absurd (cc);
  once = λ quiet short. (omega arith, λ other. refl);
  few = omega arith;
  hit = λ cached quiet short. omega arith;
  hit_overflow = λ cached. omega arith;
  accepted = λ at counter sealed made_count quiet is. absurd (cc);
}

-- what holds after a write, and what it promises
pub record IsCalled {B T : Type 0} (d n : T → List ℕ → List ℕ) (history : B → BusHistory) (bus_moved : B → List Access → B → Type 0)
    (old : SealedLinesView B T) (line : ℕ) (bytes : List ℕ) (result : Result (Unit {0}) MemStop) (new : SealedLinesView B T) : Type 0 where
  pub kept : AreProtected d n history new
  pub stored : new.engine.evidence ≡ None → OnOk result (contents new ≡ with_line (contents old) line bytes)
  pub refused : new.engine.evidence ≡ None →
      OnErr result ((contents new ≡ contents old) ⊎ (contents new ≡ with_line (contents old) line bytes))
  pub moved : WriteMoved history bus_moved (tags_of d n) old line bytes result new

module _ {B T : Type 0} (d n : T → List ℕ → List ℕ) (history : B → BusHistory) (bus_moved : B → List Access → B → Type 0) (m : SealedLinesView B T) (line : ℕ) (bytes : List ℕ)
    (kept : AreProtected d n history m) (going : lasting_stop m.stopped ≡ None) (inside : line < line_count m.engine.geometry)
    (new : OutsideView B T) (counters : CountersView) (result : Result (Unit {0}) MemStop)
    (w : IsWrite (terms_of history bus_moved d n (outside_of m)) m.limit line bytes (outside_of m) m.counters new counters (result_err result))
    (stopped : Option MemStop) (stops : stopped ≡ option_or (result_err result) m.stopped) where
  abbrev after : SealedLinesView B T
  after = record { bus = new.bus; engine = new.engine; pads = new.pads; counters = counters; limit = m.limit; stopped = stopped }

  was_quiet : new.engine.evidence ≡ None → m.engine.evidence ≡ None
  was_quiet quiet = was_none m.engine.evidence new.engine.evidence w.step.evidence quiet

  abbrev part : List ℕ
  part = take w.count (lines_encrypted w.counter line)

  write_rises : new.engine.evidence ≡ None → CountersRise m.engine.geometry m.limit new.pads.used stopped
  write_rises quiet =
      rises_after m.engine.geometry m.limit m.pads.used new.pads.used m.stopped stopped (result_err result) line w.count (kept.rise (was_quiet quiet)) going inside
      (rw (← w.next quiet) w.entries) (rw (← w.next quiet) w.whole)
      (λ page is. let spent = w.spent page is in (spent.0, spent.1, spent.2 quiet))
      (λ last. let none = w.used_up quiet last in (none.0, none.1))
      (λ goes_on. stop_lasts m.stopped going (result_err result) (subst (λ (s : Option MemStop). lasting_stop s ≡ None) stops goes_on))
      (λ page is. stop_spent m.stopped going (result_err result) page (sym stops ∙ is))

  still_going : lasting_stop stopped ≡ None → lasting_stop (result_err result) ≡ None
  still_going goes_on = stop_going m.stopped going (result_err result) (subst (λ (s : Option MemStop). lasting_stop s ≡ None) stops goes_on)

  had_memory : stopped ≢ Some NoMemory → result_err result ≢ Some NoMemory
  had_memory goes_on = stop_memory m.stopped going (result_err result) (λ is. goes_on (stops ∙ is))

  -- what held holds after it
  write_kept : AreOfPages m.engine.geometry counters → AreProtected d n history after
  write_kept pages =
      protected_after d n history bus_moved m new counters stopped w.step.tagger w.step.geometry (w.geometry ∙ kept.tree_geometry)
      pages w.consistent (λ goes_on. w.holds_last (had_memory goes_on))
      (λ goes_on. w.nodes_hold_last (had_memory goes_on)) write_rises
      (λ quiet. w.nodes quiet (kept.nodes (was_quiet quiet))) (λ goes_on. w.fits (still_going goes_on)) (λ goes_on. w.current (still_going goes_on))

  contents_by : contents after ≡ contents_of m.pads.key (line_count m.engine.geometry) new.engine.made
  contents_by =
      ap (λ (k : List ℕ). contents_of k (line_count new.engine.geometry) new.engine.made) w.key
      ∙ ap (λ (l : GeometryView). contents_of m.pads.key (line_count l) new.engine.made) w.step.geometry

  -- the memory holds the new bytes where the written line was sealed
  write_written : new.engine.evidence ≡ None → Contains part line → contents after ≡ with_line (contents m) line bytes
  write_written quiet listed =
      contents_by
      ∙ sym (with_line-joined_lines (line_bytes m.pads.key m.engine.made) (line_bytes m.pads.key new.engine.made) (line_count m.engine.geometry) line bytes
      (length-line_bytes m.pads.key m.engine.made) inside (w.own_bytes listed) (w.others quiet))

  -- and where it was not what it held
  write_same : new.engine.evidence ≡ None → ¬ Contains part line → contents after ≡ contents m
  write_same quiet unlisted =
      contents_by
      ∙ joined_lines-same (line_bytes m.pads.key new.engine.made) (line_bytes m.pads.key m.engine.made) (line_count m.engine.geometry) (λ other within.
      elim (cases_eq other line) [
        | inl same ↦ rw same (ap (bytes_of m.pads.key line) (w.not_yet unlisted))
        | inr differs ↦ w.others quiet other differs
      ])

  -- all lines were sealed, the written one among them
  every : result_err result ≡ None → part ≡ lines_encrypted w.counter line
  every none = take_all w.count (lines_encrypted w.counter line) (omega (arith, w.whole none))

  written_too : result_err result ≡ None → Contains part line
  written_too none = subst (λ (xs : List ℕ). Contains xs line) (sym (every none)) (encrypted_itself w.counter line)

  -- each line that is encrypted is one of the memory's
  part_inside : (other : ℕ) (found : Counter) → Contains {X = ℕ × Counter} (map (λ at. (at, w.counter)) part) (other, found) → IsLineOf m other
  part_inside other found listed =
      beside_inside m.engine.geometry line other inside
      (encrypted_of_page w.counter line other (taken w.count (lines_encrypted w.counter line) other (entry_line w.counter part other found listed)))

  -- how it moves
  write_moves : Moves history bus_moved (tags_of d n) (IsLineOf m) m after
  write_moves = record {
    trace = λ going_on.
        rw stops (stop_accesses m.stopped going bus_moved (tags_of d n m.engine) m.bus new.bus m.engine new.engine (result_err result) w.trace);
    step = w.step;
    key = w.key;
    limit = refl;
    entries = map (λ at. (at, w.counter)) part;
    used_more = w.entries;
    entries_allowed = part_inside;
    idle = λ stop is. absurd (cc);
    accounted = λ was.
        let before = none_before m.stopped going (tags_of d n m.engine) m.pads.used m.engine.made (history m.bus) m.engine.evidence was in
        subst (λ (t : Message → List ℕ). IsAccounted t new.pads.used new.engine.made (history new.bus) stopped new.engine.evidence)
        (sym (same_tags d n m.engine new.engine w.step.tagger w.step.geometry))
        (rw stops (stop_accounted m.stopped going (tags_of d n m.engine) new.pads.used new.engine.made (history new.bus) new.engine.evidence (result_err result)
        (w.accounted before)));
  }

  module _ (pages : AreOfPages m.engine.geometry counters) (cached : lasting_stop (result_err result) ≡ None → Contains (cached_pages counters) (page_of line))
      (once : new.engine.evidence ≡ None → (next_counter (counter_in m.pads.used line)).line ≢ 0 →
      ((history new.bus).accesses ≤ (history m.bus).accesses + write_accesses m.engine.geometry.levels)
      × ((other : ℕ) → (history new.bus).reads (line_place other) ≡ (history m.bus).reads (line_place other)))
      (few : (history new.bus).accesses ≤ (history m.bus).accesses + overflow_accesses m.engine.geometry.levels)
      (hit : Contains (cached_pages m.counters) (page_of line) → new.engine.evidence ≡ None → (next_counter (counter_in m.pads.used line)).line ≢ 0 →
      (history new.bus).accesses ≤ (history m.bus).accesses + 1)
      (hit_overflow : Contains (cached_pages m.counters) (page_of line) → (history new.bus).accesses ≤ (history m.bus).accesses + 127)
      (accepted : Accepts (outside_of m) new (IsAcceptedInWrite line m.pads.used new.pads.used new.engine.made))
      (under : WrittenUnderCounters history bus_moved (tags_of d n) m.limit line (outside_of m) m.counters new counters (result_err result)) where
    pub write_called : IsCalled d n history bus_moved m line bytes result after
    write_called = record {
      kept = write_kept pages;
      stored = λ quiet. on_success result (λ none. write_written quiet (written_too none));
      refused = λ quiet.
          on_err result
          (elim (listed_or_not part line) [
            | inl listed ↦ inr (write_written quiet listed)
            | inr unlisted ↦ inl (write_same quiet unlisted)
          ]);
      moved = record {
        moves = write_moves;
        stopped = stops;
        few_copies = w.few;
        copies = w.copies;
        unread = w.unread;
        cached = cached;
        fits = (write_kept pages).fits;
        outside = λ going. w;
        under = λ going. under;
        once = once;
        few = few;
        hit = hit;
        hit_overflow = hit_overflow;
        accepted = accepted;
      };
    }
