-- What a read of a line makes of the lines outside.
use Rattle.std.proofs.Common.{◌≡◌, ◌≢◌, inl, inr, ℕ, ◌<◌, List, [], ◌++◌, Option, Some, None, Contains, Result, Err, IfOk, OnOk, refl, ap, sym, ◌∙◌, subst, arith}
use Rattle.std.specs.Option.{option_or}
use Rattle.std.specs.Result.{result_err}
use Rattle.std.proofs.lemmas.List.{append-nil}
use Rattle.sec_base.specs.declared.counter.Counter.{Counter}
use Rattle.sec_base.specs.declared.message.Message.{Message}
use Rattle.sec_base.specs.declared.stop.MemStop.{MemStop}
use Rattle.sec_base.specs.declared.stop.MemStop.TheVariants.{NoMemory, Spent, Tampered}
use Rattle.sec_base.specs.Geometry.{GeometryView, line_count, page_of}
use Rattle.sec_base.specs.LastMessage.{data_pairs, last_data}
use Rattle.sec_base.specs.Lines.{line_at}
use Rattle.sec_base.proofs.JoinedLines.{joined_lines-same, line_at-joined_lines}
use Rattle.sec_base.proofs.Results.{stop_is, was_none}
use Rattle.bus_model.specs.Access.{Access}
use Rattle.bus_model.specs.BusHistory.{BusHistory}
use Rattle.tag_engine.specs.TagEngine.{TagEngineView, tags_of}
use Rattle.pad_stream.specs.PadEngine.{PadEngineView}
use Rattle.checked_bus.specs.Makes.{MakesAccesses}
use Rattle.checked_bus.specs.Steps.{IsAccounted}
use Rattle.split_counter.specs.CounterBlock.{counter_of, place_of}
use Rattle.counter_cache.specs.Counters.{CountersView, cached_pages}
use Rattle.page_reencrypt.specs.Contents.{AreSuccessive, ArePaged, AreWithin, IsSpent, bytes_of, contents_of, counter_in, line_bytes}
use Rattle.page_reencrypt.specs.LineLengths.{length-line_bytes}
use Rattle.page_reencrypt.specs.LineMoves.{ReadMoved}
use Rattle.page_reencrypt.specs.Outside.{CountersSay, IsLineRead, MemoryTerms, OutsideView, outside_of, terms_of}
use Rattle.page_reencrypt.specs.SealedLines.{AreOfPages, AreProtected, CountersRise, IsLineOf, SealedLinesView, contents}
use Rattle.page_reencrypt.specs.Stops.{lasting_stop}
use Rattle.page_reencrypt.specs.UnderCounters.{ReadUnderCounters}
use Rattle.page_reencrypt.proofs.Kept.{none_before, protected_after, stop_accesses, stop_accounted, stop_lasts, stop_memory, stop_spent}
use Rattle.page_reencrypt.proofs.Moves.{moves_not}
use Rattle.page_reencrypt.proofs.NodeSteps.{last_data-nodes}
use Rattle.page_reencrypt.proofs.Reaching.{came_not, few_not}
use Rattle.page_reencrypt.proofs.RisingPairs.{last_none}
use Rattle.page_reencrypt.proofs.Unmade.{same_tags}

-- a stop that lasts is the one that was kept
pub lasts_itself : (stopped : Option MemStop) (stop : MemStop) → lasting_stop stopped ≡ Some stop → stopped ≡ Some stop
lasts_itself None stop lasting = lasting
lasts_itself (Some (Spent page)) stop lasting = absurd (cc)
lasts_itself (Some (Tampered place)) stop lasting = lasting
lasts_itself (Some NoMemory) stop lasting = lasting

-- and lasts where it is answered again
pub lasts_again : (stopped : Option MemStop) (stop : MemStop) → lasting_stop stopped ≡ Some stop → lasting_stop (Some stop) ≢ None
lasts_again stopped stop lasting none =
    let same : lasting_stop (Some stop) ≡ Some stop = subst (λ (s : Option MemStop). lasting_stop s ≡ Some stop) (lasts_itself stopped stop lasting) lasting in cc

-- after a stop that lasts
pub lasting_read : {B T : Type 0} (history : B → BusHistory) (bus_moved : B → List Access → B → Type 0) (tags : TagEngineView T → Message → List ℕ) →
    ((bus : B) → bus_moved bus [] bus) → (lines : SealedLinesView B T) (line : ℕ) (stop : MemStop) →
    lasting_stop lines.stopped ≡ Some stop → ReadMoved history bus_moved tags lines line (Err stop) lines
lasting_read history bus_moved tags bus_unmoved lines line stop lasting = record {
  moves = moves_not history bus_moved tags (IsLineOf lines) bus_unmoved lines;
  read = record { path = λ going quiet uncached. absurd (cc); read = λ going quiet. absurd (cc) };
  stopped = lasts_itself lines.stopped stop lasting;
  few_copies = few_not lines.counters;
  copies = λ quiet. came_not (page_of line) (history lines.bus) lines.engine.made lines.counters (Some stop);
  unread = λ quiet level index none. refl;
  cached = tt;
  fits = λ going quiet. absurd (cc);
  outside = λ going. absurd (cc);
  under = λ going. absurd (cc);
}

-- the bytes of a line are those that the contents have there
pub read_value : (key : List ℕ) (lines : ℕ) (made : List Message) (line : ℕ) (result : Result (List ℕ) MemStop) → line < lines →
    IfOk result (λ bytes. bytes ≡ line_bytes key made line) → IfOk result (λ bytes. bytes ≡ line_at (contents_of key lines made) line)
read_value key lines made line result inside is =
    subst (λ (there : List ℕ). IfOk result (λ bytes. bytes ≡ there))
    (sym (line_at-joined_lines (line_bytes key made) lines line (length-line_bytes key made) inside)) is

-- messages of nodes leave the contents
pub contents_same : (key key' : List ℕ) (geometry : GeometryView) (geometry' : GeometryView) (made more made' : List Message) → key' ≡ key → geometry' ≡ geometry → made' ≡ made ++ more →
    data_pairs more ≡ [] → contents_of key' (line_count geometry') made' ≡ contents_of key (line_count geometry) made
contents_same key key' geometry geometry' made more made' same_key same_geometry grew none =
    ap (λ (k : List ℕ). contents_of k (line_count geometry') made') same_key
    ∙ ap (λ (l : GeometryView). contents_of key (line_count l) made') same_geometry
    ∙ joined_lines-same (line_bytes key made') (line_bytes key made) (line_count geometry)
    (λ line inside. ap (bytes_of key line) (ap (last_data line) grew ∙ last_data-nodes made more line none))

module _ {B T : Type 0} (d n : T → List ℕ → List ℕ) (history : B → BusHistory) (bus_moved : B → List Access → B → Type 0) (m : SealedLinesView B T) (line : ℕ)
    (kept : AreProtected d n history m) (going : lasting_stop m.stopped ≡ None) (inside : line < line_count m.engine.geometry)
    (new : OutsideView B T) (counters : CountersView) (result : Result (List ℕ) MemStop)
    (r : IsLineRead (terms_of history bus_moved d n (outside_of m)) line (outside_of m) m.counters new counters result)
    (stopped : Option MemStop) (stops : stopped ≡ option_or (result_err result) m.stopped) where
  abbrev terms : MemoryTerms B
  terms = terms_of history bus_moved d n (outside_of m)

  abbrev after : SealedLinesView B T
  after = record { bus = new.bus; engine = new.engine; pads = new.pads; counters = counters; limit = m.limit; stopped = stopped }

  same_used : new.pads.used ≡ m.pads.used
  same_used = ap (λ (p : PadEngineView). p.used) r.pads

  was_quiet : new.engine.evidence ≡ None → m.engine.evidence ≡ None
  was_quiet quiet = was_none m.engine.evidence new.engine.evidence r.step.evidence quiet

  unspent : (page : ℕ) → result_err result ≢ Some (Spent page)
  unspent page is = r.unspent page (stop_is result (Spent page) is)

  not_stopped : lasting_stop stopped ≡ None → result_err result ≡ None
  not_stopped goes_on =
      elim (stop_lasts m.stopped going (result_err result) (subst (λ (s : Option MemStop). lasting_stop s ≡ None) stops goes_on)) [
        | inl none ↦ none
        | inr spent ↦ absurd (unspent spent.0 spent.1)
      ]

  read_rises : new.engine.evidence ≡ None → CountersRise m.engine.geometry m.limit new.pads.used stopped
  read_rises quiet =
      let was = kept.rise (was_quiet quiet) in
      record {
        successive = subst AreSuccessive (sym same_used) was.successive;
        within = subst (AreWithin (line_count m.engine.geometry) m.limit) (sym same_used) was.within;
        paged = λ goes_on. subst (ArePaged (line_count m.engine.geometry)) (sym same_used) (was.paged going);
        spent = λ page is.
            elim (stop_spent m.stopped going (result_err result) page (sym stops ∙ is)) [
              | inl before ↦ subst (λ (u : List (ℕ × Counter)). IsSpent (line_count m.engine.geometry) m.limit u page) (sym same_used) (was.spent page before)
              | inr now ↦ absurd (unspent page now)
            ];
      }

  read_says : lasting_stop stopped ≡ None → CountersSay terms new counters
  read_says goes_on quiet page within other of_page =
      ap (λ (u : List (ℕ × Counter)). counter_in u other) same_used
      ∙ (kept.fits going (was_quiet quiet)).current page within other of_page
      ∙ ap (counter_of (place_of other)) (sym (r.same quiet page))

  -- what held holds after it
  pub read_kept : AreOfPages m.engine.geometry counters → AreProtected d n history after
  read_kept pages =
      protected_after d n history bus_moved m new counters stopped r.step.tagger r.step.geometry (r.geometry ∙ kept.tree_geometry)
      pages r.consistent (λ goes_on. r.holds_last)
      (λ goes_on. r.nodes_hold_last (stop_memory m.stopped going (result_err result) (λ is. goes_on (stops ∙ is)))) read_rises
      (λ quiet. r.nodes quiet (kept.nodes (was_quiet quiet)))
      (λ goes_on. r.fits (not_stopped goes_on)) read_says

  pub read_contents : contents after ≡ contents m
  read_contents =
      contents_same m.pads.key new.pads.key m.engine.geometry new.engine.geometry m.engine.made r.step.more new.engine.made
      (ap (λ (p : PadEngineView). p.key) r.pads) r.step.geometry r.step.made r.pairs

  -- how it moves
  pub read_moved : AreOfPages m.engine.geometry counters → OnOk result (Contains (cached_pages counters) (page_of line)) →
      ReadUnderCounters history bus_moved (tags_of d n) line (outside_of m) m.counters new counters result →
      ReadMoved history bus_moved (tags_of d n) m line result after
  read_moved pages cached under = record {
    moves = record {
      trace = λ going_on. subst (λ (s : Option MemStop). MakesAccesses bus_moved (tags_of d n m.engine) m.bus m.engine new.bus new.engine s) (sym stops)
          (stop_accesses m.stopped going bus_moved (tags_of d n m.engine) m.bus new.bus m.engine new.engine (result_err result) r.trace);
      step = r.step;
      key = ap (λ (p : PadEngineView). p.key) r.pads;
      limit = refl;
      entries = [];
      used_more = same_used ∙ sym (append-nil m.pads.used);
      entries_allowed = λ other counter listed. absurd (omega (arith, listed.1));
      idle = λ stop is. absurd (cc);
      accounted = λ was.
          let before = none_before m.stopped going (tags_of d n m.engine) m.pads.used m.engine.made (history m.bus) m.engine.evidence was in
          subst (λ (t : Message → List ℕ). IsAccounted t new.pads.used new.engine.made (history new.bus) stopped new.engine.evidence)
          (sym (same_tags d n m.engine new.engine r.step.tagger r.step.geometry))
          (subst (λ (s : Option MemStop). IsAccounted (tags_of d n m.engine) new.pads.used new.engine.made (history new.bus) s new.engine.evidence) (sym stops)
          (stop_accounted m.stopped going (tags_of d n m.engine) new.pads.used new.engine.made (history new.bus) new.engine.evidence (result_err result)
          (r.accounted before)));
    };
    read = record {
      path = λ goes_on quiet uncached. r.path quiet (not_stopped goes_on) uncached;
      read = λ goes_on quiet.
          elim (r.rose quiet (not_stopped goes_on)) [
            | inl fresh ↦ inl (last_none (line_count m.engine.geometry) m.engine.made m.pads.used line kept.always.consistent.paired inside fresh)
            | inr rose ↦ inr rose
          ];
    };
    stopped = stops;
    few_copies = r.few;
    copies = r.copies;
    unread = r.unread;
    cached = cached;
    fits = (read_kept pages).fits;
    outside = λ going. r;
    under = λ going. under;
  }
