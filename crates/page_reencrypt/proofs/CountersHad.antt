-- What a call that had the counters of a page makes of the memory outside, and a write that was counted by them.
use Rattle.std.proofs.Common.{◌≡◌, ◌≢◌, inl, ℕ, ◌+◌, ◌<◌, ◌≤◌, List, Option, Some, None, Contains, refl, ap, ◌∙◌}
use Rattle.sec_base.specs.Count.{Rose}
use Rattle.sec_base.specs.Evidence.{evidence_place}
use Rattle.sec_base.specs.Geometry.{GeometryView, page_count, page_of}
use Rattle.sec_base.specs.declared.evidence.Evidence.{Evidence}
use Rattle.sec_base.specs.declared.place.Place.{Place}
use Rattle.sec_base.specs.declared.stop.MemStop.{MemStop}
use Rattle.sec_base.specs.declared.stop.MemStop.TheVariants.{Spent, Tampered}
use Rattle.bus_model.specs.Access.{Access}
use Rattle.bus_model.specs.BusHistory.{BusHistory}
use Rattle.tag_engine.specs.TagEngine.{TagEngineView, tags_of}
use Rattle.split_counter.specs.declared.bumped.Bumped.{Bumped}
use Rattle.split_counter.specs.CounterBlock.{after_bump, bumped, counter_of}
use Rattle.bonsai_tree.specs.Tree.{IsFetchPlace, PathWasRead, TreeView}
use Rattle.bonsai_tree.proofs.Climbs.{read_up_held}
use Rattle.counter_cache.specs.Counters.{AreCopies, CountersView, SameCounters, cached_pages, counter_accesses, counters_in}
use Rattle.counter_cache.specs.HadCounters.{HadCounters, IsCounted}
use Rattle.counter_cache.proofs.BlockCopies.{few_blocks, latest_cached, pages_inside}
use Rattle.counter_cache.proofs.Counted.{counted_cached, counted_fewer, counted_holds, counted_now, counted_others, counted_outcome, counted_pages}
use Rattle.counter_cache.proofs.Havings.{has_pages}
use Rattle.page_reencrypt.specs.Outside.{CountersFit, IsNodeStep, NodesSayStill, OutsideView, terms_of}
use Rattle.page_reencrypt.specs.SealedLines.{AreOfPages, CopiesCame, KeepsFew}
use Rattle.page_reencrypt.specs.UnderCounters.{HadFirst}
use Rattle.page_reencrypt.proofs.NodeSteps.{fits_after, fits_before, shows_by}
use Rattle.page_reencrypt.proofs.Reaching.{HasCome, IsReached}
use Rattle.page_reencrypt.proofs.Stops.{going_not_memory, unspent_going}
use Rattle.page_reencrypt.proofs.UnderCounters.{had_first}

-- a page that has a copy is of the memory
pub had_pages : {T : Type 0} (d n : T → List ℕ → List ℕ) (counters counters' : CountersView) (old new : BusHistory) (engine engine' : TagEngineView T) (page : ℕ)
    (stop : Option MemStop) → HadCounters (tags_of d n) counters old engine counters' new engine' page stop → (geometry : GeometryView) →
    counters.tree.geometry ≡ geometry → (other : ℕ) → Contains (cached_pages counters') other → other < page_count geometry
had_pages d n counters counters' old new engine engine' page stop had geometry same =
    pages_inside counters'.tree.geometry geometry counters'.blocks (had.has.tree.geometry ∙ same) had.copies.blocks

-- The counters of a line's page were had, or the call was refused them: what that makes of the memory outside.
pub record IsGot {B T : Type 0} (history : B → BusHistory) (moved : B → List Access → B → Type 0) (d n : T → List ℕ → List ℕ) (line : ℕ) (old : OutsideView B T)
    (counters : CountersView) (new : OutsideView B T) (counters' : CountersView) (stop : Option MemStop) : Type 0 where
  pub first : HadFirst history moved (tags_of d n) line old counters new counters' stop
  pub reached : IsReached (terms_of history moved d n old) old counters new counters' stop
  pub come : HasCome (terms_of history moved d n old) (page_of line) old counters new counters' stop
  pub same : new.engine.evidence ≡ None → SameCounters counters old.engine.made counters' new.engine.made
  pub once : (history new.bus).accesses ≤ (history old.bus).accesses + counter_accesses old.engine.geometry.levels
  pub idle : Contains (cached_pages counters) (page_of line) → (history new.bus).accesses ≡ (history old.bus).accesses
  pub path : stop ≡ None → new.engine.evidence ≡ None → ¬ Contains (cached_pages counters) (page_of line) →
      PathWasRead counters.tree old.engine.made 0 (page_of line) (history old.bus) (history new.bus)
  pub found : (evidence : Evidence) → old.engine.evidence ≡ None → new.engine.evidence ≡ Some evidence →
      IsFetchPlace old.engine.geometry (page_of line) (evidence_place evidence)
  pub tampered : (place : Place) → stop ≡ Some (Tampered place) → IsFetchPlace old.engine.geometry (page_of line) place
      × (old.engine.evidence ≡ None → Rose (history old.bus).lies (history new.bus).lies)
  pub unspent : (page : ℕ) → stop ≢ Some (Spent page)

module _ {B T : Type 0} (history : B → BusHistory) (moved : B → List Access → B → Type 0) (d n : T → List ℕ → List ℕ) (line : ℕ) (old : OutsideView B T)
    (counters : CountersView) (new : OutsideView B T) (counters' : CountersView) where
  pub got_by : (page : ℕ) (stop : Option MemStop) → page ≡ page_of line → counters.tree.geometry ≡ old.engine.geometry →
      CountersFit (terms_of history moved d n old) old counters → IsNodeStep (terms_of history moved d n old) old new stop →
      HadCounters (tags_of d n) counters (history old.bus) old.engine counters' (history new.bus) new.engine page stop → new.pads ≡ old.pads →
      NodesSayStill (terms_of history moved d n old) old new → IsGot history moved d n line old counters new counters' stop
  got_by page stop page_is geometry fits step had_page pads nodes =
      let first : HadFirst history moved (tags_of d n) line old counters new counters' stop =
      had_first history moved (tags_of d n) line old counters new counters' page stop page_is had_page step.trace pads in
      let had = first.had in
      let was_fit = fits_before history moved d n old new.bus new.engine counters fits in
      record {
        first = first;
        reached = record {
          node = step;
          geometry = had.has.tree.geometry;
          fits = λ going.
              fits_after history moved d n old new.bus new.engine counters' step.step.tagger step.step.geometry
              (had.has.holds was_fit (going_not_memory stop going));
          accounted = λ was. rw step.used (had.has.tree.honest was_fit.tree old.pads.used was);
          shows = λ quiet. shows_by new.engine.evidence (had.has.tree.shown was_fit.tree quiet);
          nodes = nodes;
        };
        come = record {
          few = record {
            blocks = λ few. few_blocks counters'.tree.geometry counters'.blocks had.copies.blocks;
            nodes = λ level few. had.copies.few_nodes level;
          };
          copies = λ quiet. record {
            blocks = has_pages d n (page_of line) counters counters' (history old.bus) (history new.bus) old.engine new.engine stop had.has had.copies.blocks was_fit quiet;
            nodes = had.has.tree.read was_fit.tree quiet;
            nodes_came = had.has.tree.came was_fit.tree quiet;
            blocks_came = λ going. had.blocks_came was_fit quiet (unspent_going stop had.has.tree.unspent going);
          };
          unread = had.has.tree.unread was_fit.tree;
        };
        same = had.has.same was_fit;
        once = rw (← geometry) had.once;
        idle = λ cached. ap (λ (h : BusHistory). h.accesses) (had.hit cached).1;
        path = λ none quiet missed. had.path was_fit quiet missed none;
        found = λ evidence quiet is. rw (← geometry) (had.has.tree.found quiet evidence is);
        tampered = λ place is. (rw (← geometry) (had.has.tree.tampered place is), λ quiet. had.has.tree.lied was_fit.tree quiet place is);
        unspent = had.has.tree.unspent;
      }

  -- where they were had
  module _ (first : HadFirst history moved (tags_of d n) line old counters new counters' None) where
    pub got_cached : Contains (cached_pages counters') (page_of line)
    got_cached = latest_cached counters' (page_of line) first.had.blocks.latest

-- What a write that was counted makes of the memory outside with its counters: nothing but the page's counters change.
pub record CountedUpBy {B T : Type 0} (history : B → BusHistory) (moved : B → List Access → B → Type 0) (d n : T → List ℕ → List ℕ) (outside : OutsideView B T)
    (counters counters' : CountersView) (page place limit : ℕ) (outcome : Bumped) : Type 0 where
  pub geometry : counters'.tree.geometry ≡ counters.tree.geometry
  pub few : KeepsFew counters counters'
  pub came : CountersFit (terms_of history moved d n outside) outside counters → outside.engine.evidence ≡ None →
      CopiesCame page (history outside.bus) outside.engine.made counters (history outside.bus) outside.engine.made counters' None
  pub fits : CountersFit (terms_of history moved d n outside) outside counters → CountersFit (terms_of history moved d n outside) outside counters'
  pub outcome_is : outcome ≡ bumped limit (counter_of place (counters_in counters outside.engine.made page))
  pub now : counters_in counters' outside.engine.made page ≡ (after_bump place limit (counters_in counters outside.engine.made page)).1
  pub others : (other : ℕ) → other ≢ page →
      counters_in counters' outside.engine.made other ≡ counters_in counters outside.engine.made other
  pub cached : Contains (cached_pages counters') page
  pub inside : (geometry : GeometryView) → AreOfPages geometry counters → AreOfPages geometry counters'

pub counted_up_by : {B T : Type 0} (history : B → BusHistory) (moved : B → List Access → B → Type 0) (d n : T → List ℕ → List ℕ) (outside : OutsideView B T)
    (counters counters' : CountersView) (page place limit : ℕ) (outcome : Bumped) → IsCounted counters counters' page place limit outcome →
    AreCopies counters → AreCopies counters' → CountedUpBy history moved d n outside counters counters' page place limit outcome
counted_up_by history moved d n outside counters counters' page place limit outcome is before after = record {
  geometry = ap (λ (t : TreeView). t.geometry) is.tree;
  few = record {
    blocks = λ few. few_blocks counters'.tree.geometry counters'.blocks after.blocks;
    nodes = λ level few. after.few_nodes level;
  };
  came = λ fit quiet. record {
    blocks = λ other cached. inl (counted_pages counters counters' page place limit outcome is before after other cached);
    nodes = λ level index copied.
        read_up_held counters.tree outside.engine.made level index (history outside.bus) (history outside.bus) (rw is.tree at copied);
    nodes_came = λ memory level index copied. inl (rw is.tree at copied, refl);
    blocks_came = λ goes other copied. inl (counted_fewer counters counters' page place limit outcome is before after other copied, refl);
  };
  fits = λ fit.
      fits_after history moved d n outside outside.bus outside.engine counters' refl refl
      (counted_holds counters counters' page place limit outcome is before after d n (history outside.bus) outside.engine
      (fits_before history moved d n outside outside.bus outside.engine counters fit));
  outcome_is = counted_outcome counters counters' page place limit outcome is before after outside.engine.made;
  now = counted_now counters counters' page place limit outcome is before after outside.engine.made;
  others = counted_others counters counters' page place limit outcome is before after outside.engine.made;
  cached = counted_cached counters counters' page place limit outcome is before after;
  inside = λ geometry are other cached. are other (counted_pages counters counters' page place limit outcome is before after other cached);
}
