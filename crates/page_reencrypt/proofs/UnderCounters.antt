-- How a read and a write of a line go by the counters that were had for it.
use Rattle.std.proofs.Common.{◌≡◌, ◌≢◌, inl, inr, ℕ, ◌+◌, ◌<◌, ◌≤◌, List, [], ◌∷◌, ◌++◌, length, map, take, Option, Some, None, Result, Err, IfOk, refl, ap, sym, ◌∙◌, subst, arith, length-append}
use Rattle.std.specs.Result.{result_err}
use Rattle.std.proofs.lemmas.List.{length-take-le}
use Rattle.sec_base.specs.declared.counter.Counter.{Counter}
use Rattle.sec_base.specs.declared.evidence.Evidence.{Evidence}
use Rattle.sec_base.specs.declared.message.Message.{Message}
use Rattle.sec_base.specs.declared.place.Place.TheVariants.{Node as node_place}
use Rattle.sec_base.specs.declared.stop.MemStop.{MemStop}
use Rattle.sec_base.specs.declared.stop.MemStop.TheVariants.{NoMemory, Spent as spent_page, Tampered}
use Rattle.sec_base.specs.Geometry.{page_of}
use Rattle.bus_model.specs.Access.{Access}
use Rattle.bus_model.specs.BusHistory.{BusHistory}
use Rattle.tag_engine.specs.TagEngine.{TagEngineView, after_make, tags_of}
use Rattle.checked_bus.specs.Makes.{MakesAccesses}
use Rattle.split_counter.specs.declared.bumped.Bumped.{Bumped}
use Rattle.split_counter.specs.declared.bumped.Bumped.TheVariants.{Line, Page, Spent}
use Rattle.split_counter.specs.CounterBlock.{CounterBlockView, bumped, counter_of, place_of}
use Rattle.counter_cache.specs.Counters.{CountersView, counters_in}
use Rattle.counter_cache.specs.HadCounters.{HadCounters, IsCounted}
use Rattle.page_reencrypt.specs.Contents.{lines_encrypted, page_lines}
use Rattle.page_reencrypt.specs.Outside.{DiffersInRoom, OutsideView, with_room}
use Rattle.page_reencrypt.specs.SealedLines.{IsReadUnder}
use Rattle.page_reencrypt.specs.UnderCounters.{HadFirst, ReadUnderCounters, WrittenUnderCounters, counter_under}
use Rattle.page_reencrypt.proofs.Entries.{encrypted_line}
use Rattle.page_reencrypt.proofs.MadeAccesses.{made_not, made_roomy, made_since}

-- the counter of a line, by the block that was answered
pub counter_by : (counters : CountersView) (made : List Message) (line page place : ℕ) (block : CounterBlockView) (counter : Counter) →
    page ≡ page_of line → place ≡ place_of line → block ≡ counters_in counters made page → counter ≡ counter_of place block →
    counter ≡ counter_of (place_of line) (counters_in counters made (page_of line))
counter_by counters made line page place block counter page_is place_is block_is counter_is =
    counter_is ∙ ap (λ (p : ℕ). counter_of p block) place_is ∙ ap (counter_of (place_of line)) (block_is ∙ ap (counters_in counters made) page_is)

module _ {B T : Type 0} (history : B → BusHistory) (bus_moved : B → List Access → B → Type 0) (tags : TagEngineView T → Message → List ℕ) (line : ℕ) (old : OutsideView B T) (counters : CountersView)
    (between : OutsideView B T) (counters_had : CountersView) where
  pub had_first : (page : ℕ) (refused : Option MemStop) → page ≡ page_of line →
      HadCounters tags counters (history old.bus) old.engine counters_had (history between.bus) between.engine page refused →
      MakesAccesses bus_moved (tags old.engine) old.bus old.engine between.bus between.engine refused → between.pads ≡ old.pads →
      HadFirst history bus_moved tags line old counters between counters_had refused
  had_first page refused page_is had trace pads = record {
    had = subst (λ (p : ℕ). HadCounters tags counters (history old.bus) old.engine counters_had (history between.bus) between.engine p refused) page_is had;
    trace = trace;
    pads = pads;
  }

  -- the call was refused the counters
  pub read_refused : (why : MemStop) (answer : Result (List ℕ) MemStop) → answer ≡ Err why → HadFirst history bus_moved tags line old counters between counters_had (Some why) →
      ReadUnderCounters history bus_moved tags line old counters between counters_had answer
  read_refused why answer stops had = record {
    between = between;
    refused = Some why;
    had = had;
    ends = λ other is. let same : why ≡ other = cc in (refl, stops ∙ ap (λ (s : MemStop). Err s) same);
    trace = λ goes. absurd (cc);
    read = λ goes. absurd (cc);
    once = omega arith;
    nodes = λ level index. refl;
    made = refl;
    first = λ evidence is. is;
  }

  pub write_refused : (limit : ℕ) (why : MemStop) (stop : Option MemStop) → stop ≡ Some why → ((page : ℕ) → Some why ≢ Some (spent_page page)) →
      HadFirst history bus_moved tags line old counters between counters_had (Some why) →
      WrittenUnderCounters history bus_moved tags limit line old counters between counters_had stop
  write_refused limit why stop stops unspent had = record {
    between = between;
    counters_had = counters_had;
    refused = Some why;
    had = had;
    ends = λ other is. (refl, refl, stops ∙ is);
    outcome = Spent;
    comes = λ goes. absurd (cc);
    spent = λ goes is. absurd (cc);
    only_spent = λ page is. absurd (unspent page (sym stops ∙ is));
    trace = λ goes. absurd (cc);
    counted = λ goes unspent. absurd (cc);
  }

  module _ (had : HadFirst history bus_moved tags line old counters between counters_had None) where
    pub read_under : (new : OutsideView B T) (answer : Result (List ℕ) MemStop)
        (trace : MakesAccesses bus_moved (tags between.engine) between.bus between.engine new.bus new.engine (result_err answer)) →
        IfOk answer (IsReadUnder (tags between.engine) between.pads.key line
        (counter_of (place_of line) (counters_in counters_had between.engine.made (page_of line))) trace.accesses) →
        (history new.bus).accesses ≤ (history between.bus).accesses + 1 →
        ((level index : ℕ) → (history new.bus).reads (node_place level index) ≡ (history between.bus).reads (node_place level index)) →
        new.engine.made ≡ between.engine.made → ((evidence : Evidence) → between.engine.evidence ≡ Some evidence → new.engine.evidence ≡ Some evidence) →
        ReadUnderCounters history bus_moved tags line old counters new counters_had answer
    read_under new answer trace read once nodes made first = record {
      between = between;
      refused = None;
      had = had;
      ends = λ why is. absurd (cc);
      trace = λ goes. trace;
      read = λ goes. read;
      once = once;
      nodes = nodes;
      made = made;
      first = first;
    }

    module _ (limit : ℕ) (foreseen : Bumped)
        (comes : foreseen ≡ bumped limit (counter_of (place_of line) (counters_in counters_had between.engine.made (page_of line)))) where
      -- the line is spent
      pub write_spent : ((bus : B) → bus_moved bus [] bus) → (page : ℕ) → page ≡ page_of line → foreseen ≡ Spent →
          WrittenUnderCounters history bus_moved tags limit line old counters between counters_had (Some (spent_page page))
      write_spent unmoved page page_is is = record {
        between = between;
        counters_had = counters_had;
        refused = None;
        had = had;
        ends = λ why none. absurd (cc);
        outcome = foreseen;
        comes = λ goes. comes;
        spent = λ goes same. (refl, refl, ap (λ (p : ℕ). Some (spent_page p)) page_is);
        only_spent = λ other same. (refl, is);
        trace = λ goes. made_not bus_moved (tags between.engine) unmoved between.bus between.engine (Some (spent_page page)) (λ place none. cc);
        counted = λ goes unspent. absurd (unspent is);
      }

      -- there was no memory for the lines of a page
      pub write_roomless : ((bus : B) → bus_moved bus [] bus) → (new : OutsideView B T) (stop : Option MemStop) → stop ≡ Some NoMemory → foreseen ≢ Spent → DiffersInRoom between new →
          WrittenUnderCounters history bus_moved tags limit line old counters new counters_had stop
      write_roomless unmoved new stop stops unspent differs = record {
        between = between;
        counters_had = counters_had;
        refused = None;
        had = had;
        ends = λ why none. absurd (cc);
        outcome = foreseen;
        comes = λ goes. comes;
        spent = λ goes is. absurd (unspent is);
        only_spent = λ page is. let both : Some NoMemory ≡ Some (spent_page page) = sym stops ∙ is in absurd (cc);
        trace = λ goes.
            rw (differs.bus, differs.engine) (made_roomy bus_moved (tags between.engine) unmoved between.bus between.engine differs.room stop
            (λ place is. let both : Some NoMemory ≡ Some (Tampered place) = sym stops ∙ is in cc));
        counted = λ goes _. inl (differs, refl, stops);
      }

      -- it was counted, and lines were encrypted
      pub write_counted : (new : OutsideView B T) (counters' : CountersView) (stop : Option MemStop) (page place : ℕ) (outcome : Bumped) (count : ℕ) →
          page ≡ page_of line → place ≡ place_of line → IsCounted counters_had counters' page place limit outcome → outcome ≡ foreseen → foreseen ≢ Spent →
          ((other : ℕ) → stop ≢ Some (spent_page other)) →
          MakesAccesses bus_moved (tags between.engine) between.bus between.engine new.bus new.engine stop →
          new.pads.used ≡ between.pads.used ++ map (λ at. (at, counter_under outcome)) (take count (lines_encrypted (counter_under outcome) line)) →
          length new.engine.made ≡ length between.engine.made + count →
          ((counter : Counter) → outcome ≡ Line counter → (count ≡ 1) × ((history new.bus).accesses ≤ (history between.bus).accesses + 1)) →
          (history new.bus).accesses ≤ (history between.bus).accesses + 127 →
          WrittenUnderCounters history bus_moved tags limit line old counters new counters' stop
      write_counted new counters' stop page place outcome count page_is place_is counted same unspent going trace entries messages alone few = record {
        between = between;
        counters_had = counters_had;
        refused = None;
        had = had;
        ends = λ why none. absurd (cc);
        outcome = outcome;
        comes = λ goes. same ∙ comes;
        spent = λ goes is. absurd (unspent (sym same ∙ is));
        only_spent = λ other is. absurd (going other is);
        trace = λ goes. trace;
        counted = λ goes _. inr (record {
          counted = rw (← place_is, ← page_is) counted;
          count = count;
          entries = entries;
          messages = messages;
          alone = alone;
          few = few;
        });
      }

-- the accesses since memory was taken for a page
pub traced_since : {B T : Type 0} (bus_moved : B → List Access → B → Type 0) (d n : T → List ℕ → List ℕ) (got roomy new : OutsideView B T) (stop : Option MemStop) →
    roomy ≡ with_room 64 64 got → MakesAccesses bus_moved (tags_of d n roomy.engine) roomy.bus roomy.engine new.bus new.engine stop →
    MakesAccesses bus_moved (tags_of d n got.engine) got.bus got.engine new.bus new.engine stop
traced_since {B} {T} bus_moved d n got roomy new stop taken trace =
    made_since bus_moved (tags_of d n got.engine) got.bus new.bus got.engine new.engine 64 stop
    (subst (λ (o : OutsideView B T). MakesAccesses bus_moved (tags_of d n o.engine) o.bus o.engine new.bus new.engine stop) taken trace)

-- the entries of a line, and of a page
pub entries_of_line : {B T : Type 0} (got roomy : OutsideView B T) (used : List (ℕ × Counter)) (line : ℕ) (counter : Counter) (outcome : Bumped) →
    roomy ≡ with_room 64 64 got → outcome ≡ Line counter → 0 < counter.line → used ≡ roomy.pads.used ++ (line, counter) ∷ [] →
    used ≡ got.pads.used ++ map (λ at. (at, counter_under outcome)) (take 1 (lines_encrypted (counter_under outcome) line))
entries_of_line {B = B} {T = T} got roomy used line counter outcome taken is written entries =
    entries ∙ ap (λ (o : OutsideView B T). o.pads.used ++ (line, counter) ∷ []) taken
    ∙ ap (λ (lines : List ℕ). got.pads.used ++ map (λ at. (at, counter)) (take 1 lines)) (sym (encrypted_line counter line (omega (arith, written))))
    ∙ ap (λ (o : Bumped). got.pads.used ++ map (λ at. (at, counter_under o)) (take 1 (lines_encrypted (counter_under o) line))) (sym is)

pub entries_of_page : {B T : Type 0} (got roomy : OutsideView B T) (used : List (ℕ × Counter)) (line raised count : ℕ) (outcome : Bumped) →
    roomy ≡ with_room 64 64 got → outcome ≡ Page raised →
    used ≡ roomy.pads.used ++ map (λ at. (at, record { page = raised; line = 0 })) (take count (page_lines (page_of line))) →
    used ≡ got.pads.used ++ map (λ at. (at, counter_under outcome)) (take count (lines_encrypted (counter_under outcome) line))
entries_of_page {B = B} {T = T} got roomy used line raised count outcome taken is entries =
    entries ∙ ap (λ (o : OutsideView B T). o.pads.used ++ map (λ at. (at, record { page = raised; line = 0 })) (take count (page_lines (page_of line)))) taken
    ∙ ap (λ (o : Bumped). got.pads.used ++ map (λ at. (at, counter_under o)) (take count (lines_encrypted (counter_under o) line))) (sym is)

-- the messages of a line, and of a page
pub messages_of_line : {B T : Type 0} (got roomy : OutsideView B T) (engine : TagEngineView T) (message : Message) →
    roomy ≡ with_room 64 64 got → engine ≡ after_make message roomy.engine → length engine.made ≡ length got.engine.made + 1
messages_of_line {B = B} {T = T} got roomy engine message taken is =
    ap (λ (e : TagEngineView T). length e.made) is ∙ length-append roomy.engine.made (message ∷ []) ∙ ap (λ (o : OutsideView B T). length o.engine.made + 1) taken

pub messages_of_page : {B T : Type 0} (got roomy : OutsideView B T) (made more : List Message) (lines : List ℕ) (count : ℕ) →
    roomy ≡ with_room 64 64 got → made ≡ roomy.engine.made ++ more → length more ≡ length (take count lines) → count ≤ length lines →
    length made ≡ length got.engine.made + count
messages_of_page {B = B} {T = T} got roomy made more lines count taken made_is as_many within =
    let all : length made ≡ length roomy.engine.made + length more = ap length made_is ∙ length-append roomy.engine.made more in
    let same : length roomy.engine.made ≡ length got.engine.made = ap (λ (o : OutsideView B T). length o.engine.made) taken in
    omega (arith, all, same, as_many, length-take-le count lines within)
