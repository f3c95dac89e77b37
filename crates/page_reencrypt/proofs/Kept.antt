-- What the lines outside keep over a call, by what the memory outside keeps.
use Rattle.std.proofs.Common.{◌≡◌, ◌≢◌, ◌⊎◌, inl, inr, ℕ, ◌<◌, ◌≤◌, false, List, Option, Some, None, refl, ap, sym, ◌∙◌, subst, arith}
use Rattle.std.specs.Option.{option_or}
use Rattle.sec_base.specs.declared.counter.Counter.{Counter}
use Rattle.sec_base.specs.declared.evidence.Evidence.{Evidence}
use Rattle.sec_base.specs.declared.message.Message.{Message}
use Rattle.sec_base.specs.declared.stop.MemStop.{MemStop}
use Rattle.sec_base.specs.declared.stop.MemStop.TheVariants.{Tampered, Spent, NoMemory}
use Rattle.sec_base.specs.Geometry.{GeometryView, line_count, page_count}
use Rattle.bus_model.specs.Access.{Access}
use Rattle.bus_model.specs.BusHistory.{BusHistory}
use Rattle.tag_engine.specs.TagEngine.{TagEngineView, tags_of}
use Rattle.checked_bus.specs.Makes.{MakesAccesses}
use Rattle.checked_bus.specs.Steps.{IsAccounted}
use Rattle.checked_bus.proofs.Makes.{accesses_stopped}
use Rattle.bonsai_tree.specs.Node.{CachedNode, page_block}
use Rattle.bonsai_tree.specs.Tree.{IsTree}
use Rattle.counter_cache.specs.Counters.{CountersView, cached_block, counters_in}
use Rattle.page_reencrypt.specs.Consistency.{IsConsistent}
use Rattle.page_reencrypt.specs.Contents.{HoldsLast, NodesSay, counter_in, never_written}
use Rattle.page_reencrypt.specs.Outside.{AreConsistent, CountersFit, CountersSay, HaveLast, HaveLastNodes, MemoryTerms, OutsideView, outside_of, terms_of}
use Rattle.page_reencrypt.specs.SealedLines.{AreOfPages, AreProtected, CountersRise, FitsTogether, IsOfPage, IsProtected, SealedLinesView}
use Rattle.page_reencrypt.specs.Stops.{lasting_stop}
use Rattle.page_reencrypt.proofs.Successive.{counter_fresh}
use Rattle.page_reencrypt.proofs.RisingPairs.{counter_limited}
use Rattle.page_reencrypt.proofs.Stops.{going_not_memory, going_not_tampered, other_stop}
use Rattle.page_reencrypt.proofs.Unmade.{same_tags}

-- The stop that a memory has after a call: that of the call, else the one from before.

module _ (before : Option MemStop) (going : lasting_stop before ≡ None) where
  pub stop_lasts : (stop : Option MemStop) → lasting_stop (option_or stop before) ≡ None → (stop ≡ None) ⊎ ((page : ℕ) × (stop ≡ Some (Spent page)))
  stop_lasts None goes_on = inl refl
  stop_lasts (Some (Tampered place)) goes_on = absurd (cc)
  stop_lasts (Some (Spent page)) goes_on = inr (page, refl)
  stop_lasts (Some NoMemory) goes_on = absurd (cc)

  pub stop_going : (stop : Option MemStop) → lasting_stop (option_or stop before) ≡ None → lasting_stop stop ≡ None
  stop_going None goes_on = refl
  stop_going (Some stop) goes_on = goes_on

  pub stop_memory : (stop : Option MemStop) → option_or stop before ≢ Some NoMemory → stop ≢ Some NoMemory
  stop_memory None goes_on is = absurd (cc)
  stop_memory (Some stop) goes_on is = goes_on is

  pub stop_spent : (stop : Option MemStop) (page : ℕ) → option_or stop before ≡ Some (Spent page) → (before ≡ Some (Spent page)) ⊎ (stop ≡ Some (Spent page))
  stop_spent None page is = inl is
  stop_spent (Some stop) page is = inr is

  pub stop_accesses : {B T : Type 0} (bus_moved : B → List Access → B → Type 0) (tag_of : Message → List ℕ) (bus bus' : B) (engine engine' : TagEngineView T) (stop : Option MemStop) →
      MakesAccesses bus_moved tag_of bus engine bus' engine' stop → MakesAccesses bus_moved tag_of bus engine bus' engine' (option_or stop before)
  stop_accesses bus_moved tag_of bus bus' engine engine' None made =
      accesses_stopped bus_moved tag_of bus bus' engine engine' None before (omega arith) (λ place is. absurd (going_not_tampered before place going is)) made
  stop_accesses bus_moved tag_of bus bus' engine engine' (Some stop) made = made

  pub stop_accounted : (tag_of : Message → List ℕ) (used : List (ℕ × Counter)) (made : List Message) (history : BusHistory) (evidence : Option Evidence) (stop : Option MemStop) →
      IsAccounted tag_of used made history stop evidence → IsAccounted tag_of used made history (option_or stop before) evidence
  stop_accounted tag_of used made history evidence None was =
      other_stop tag_of used made history None before evidence (λ place is. cc) (λ place is. going_not_tampered before place going is) was
  stop_accounted tag_of used made history evidence (Some stop) was = was

  pub none_before : (tag_of : Message → List ℕ) (used : List (ℕ × Counter)) (made : List Message) (history : BusHistory) (evidence : Option Evidence) →
      IsAccounted tag_of used made history before evidence → IsAccounted tag_of used made history None evidence
  none_before tag_of used made history evidence was =
      other_stop tag_of used made history before None evidence (λ place is. going_not_tampered before place going is) (λ place is. cc) was

-- All of it fits together, where the counters fit and say the entries.
together_by : (tag_of : Message → List ℕ) (geometry : GeometryView) (limit : ℕ) (counters : CountersView) (history : BusHistory) (made : List Message) (used : List (ℕ × Counter))
    (stopped : Option MemStop) → IsConsistent tag_of geometry history made used → HoldsLast tag_of (line_count geometry) made history.written →
    CountersRise geometry limit used stopped → IsTree tag_of counters.tree made history.written →
    ((page : ℕ) (copy : CachedNode) → cached_block counters page ≡ Some copy → copy.changed ≡ false → copy.block ≡ page_block page made) →
    ((page : ℕ) → page < page_count geometry → IsOfPage used page (counters_in counters made page)) → FitsTogether tag_of geometry counters history made used
together_by tag_of geometry limit counters history made used stopped kept last rise tree clean say = record {
  tree = tree;
  clean = clean;
  current = say;
  fresh = λ line. counter_fresh used line rise.successive;
  paired = kept.paired;
  stored = last;
  successive = rise.successive;
  whole_pages = λ page line inside above of_page fresh.
      let none : counter_in used line ≡ never_written = (counter_fresh used line rise.successive).1 fresh in
      let zero_page : (counter_in used line).page ≡ 0 = ap (λ (c : Counter). c.page) none in
      let same : (counter_in used line).page ≡ (counters_in counters made page).page = ap (λ (c : Counter). c.page) (say page inside line of_page) in
      omega (arith, above, zero_page, same);
}

module _ {B T : Type 0} (d n : T → List ℕ → List ℕ) (history : B → BusHistory) (bus_moved : B → List Access → B → Type 0) (m : SealedLinesView B T) where
  abbrev terms : MemoryTerms B
  terms = terms_of history bus_moved d n (outside_of m)

  -- the limit of a memory that goes on
  module _ (kept : AreProtected d n history m) (going : lasting_stop m.stopped ≡ None) where
    pub kept_limited : (line : ℕ) → line < line_count m.engine.geometry → m.engine.evidence ≡ None →
        (counter_in m.pads.used line).page ≤ m.limit
    kept_limited line inside quiet =
        counter_limited (line_count m.engine.geometry) m.limit m.pads.used line inside (kept.rise quiet).within

  -- what holds between calls, by the tags and the geometry
  abbrev Holds : OutsideView B T → CountersView → Option MemStop → (Message → List ℕ) → GeometryView → Type 0
  Holds new counters stopped tag_of geometry = AreOfPages geometry counters
      × IsProtected tag_of geometry (history new.bus) new.engine.made new.pads.used stopped
      × (new.engine.evidence ≡ None → CountersRise geometry m.limit new.pads.used stopped)
      × (new.engine.evidence ≡ None → NodesSay tag_of geometry new.pads.used new.engine.made)
      × (lasting_stop stopped ≡ None → new.engine.evidence ≡ None → FitsTogether tag_of geometry counters (history new.bus) new.engine.made new.pads.used)

  pub protected_after : (new : OutsideView B T) (counters : CountersView) (stopped : Option MemStop) → new.engine.tagger ≡ m.engine.tagger →
      new.engine.geometry ≡ m.engine.geometry → counters.tree.geometry ≡ m.engine.geometry → AreOfPages m.engine.geometry counters → AreConsistent terms new → (stopped ≢ Some NoMemory → HaveLast terms new) →
      (stopped ≢ Some NoMemory → HaveLastNodes terms new) → (new.engine.evidence ≡ None → CountersRise m.engine.geometry m.limit new.pads.used stopped) →
      (new.engine.evidence ≡ None → NodesSay terms.tag_of m.engine.geometry new.pads.used new.engine.made) →
      (lasting_stop stopped ≡ None → CountersFit terms new counters) → (lasting_stop stopped ≡ None → CountersSay terms new counters) →
      AreProtected d n history
      (record { bus = new.bus; engine = new.engine; pads = new.pads; counters = counters; limit = m.limit; stopped = stopped })
  protected_after new counters stopped tagger geometry tree_geometry pages kept last nodes rise said fits say =
      let here : Holds new counters stopped terms.tag_of m.engine.geometry = (
        pages,
        record { consistent = kept; holds_last = last; nodes_hold_last = nodes },
        rise,
        said,
        λ going quiet. together_by terms.tag_of m.engine.geometry m.limit counters (history new.bus) new.engine.made new.pads.used stopped kept
            (last (going_not_memory stopped going)) (rise quiet) ((fits going).tree.fits quiet) ((fits going).clean quiet) (say going quiet),
      ) in
      let there : Holds new counters stopped (tags_of d n new.engine) new.engine.geometry =
      subst (λ (l : GeometryView). Holds new counters stopped (tags_of d n new.engine) l) (sym geometry)
      (subst (λ (t : Message → List ℕ). Holds new counters stopped t m.engine.geometry) (sym (same_tags d n m.engine new.engine tagger geometry)) here) in
      record { tree_geometry = tree_geometry ∙ sym geometry; pages = there.0; always = there.1; rise = there.2; nodes = there.3; fits = there.4 }
