-- What a step over the nodes leaves of the memory outside.
use Rattle.std.proofs.Common.{◌≡◌, ◌≢◌, ◌⊎◌, inl, inr, ℕ, List, [], ◌∷◌, ◌++◌, Option, Some, None, Result, Ok, Err, OnErr, refl, ap, sym, ◌∙◌, subst, append_assoc}
use Rattle.std.proofs.lemmas.List.{append-nil}
use Rattle.std.proofs.lemmas.List.Elements.{Contains-append_left}
use Rattle.sec_base.specs.declared.counter.Counter.{Counter}
use Rattle.sec_base.specs.declared.message.Message.{Message}
use Rattle.sec_base.specs.declared.message.Message.TheVariants.{Line, Node}
use Rattle.sec_base.specs.declared.place.Place.TheVariants.{Line as line_place}
use Rattle.sec_base.specs.declared.stop.MemStop.{MemStop}
use Rattle.sec_base.specs.declared.stop.MemStop.TheVariants.{NoMemory}
use Rattle.sec_base.specs.Geometry.{GeometryView, line_count}
use Rattle.sec_base.specs.LastMessage.{data_pairs, data_part, last_data}
use Rattle.sec_base.proofs.LastMessages.{last_of_other}
use Rattle.bus_model.specs.Access.{Access}
use Rattle.bus_model.specs.BusHistory.{BusHistory}
use Rattle.tag_engine.specs.TagEngine.{TagEngineView, tags_of}
use Rattle.checked_bus.specs.Makes.{MakesAccesses}
use Rattle.checked_bus.specs.Steps.{Moves as StepMoves, SameLines}
use Rattle.checked_bus.proofs.Steps.{same_pairs}
use Rattle.bonsai_tree.specs.Tree.{IsTree, NodesAreMade, NodesHoldLast, TreeView}
use Rattle.counter_cache.specs.Counters.{CountersView, HoldsCounters}
use Rattle.page_reencrypt.specs.Consistency.{IsConsistent}
use Rattle.page_reencrypt.specs.Contents.{HoldsLast, HoldsSealed, IsSealed}
use Rattle.page_reencrypt.specs.Outside.{AreConsistent, CountersFit, HaveLast, HaveLastNodes, IsNodeStep, MemoryTerms, OutsideView, terms_of}
use Rattle.page_reencrypt.proofs.Nodes.{line_before}
use Rattle.page_reencrypt.proofs.Unmade.{same_tags}

pub err_map : {A E P Q : Type 0} (result : Result A E) → (P → Q) → OnErr result P → OnErr result Q
err_map (Ok value) follows refused = tt
err_map (Err error) follows refused = follows refused

pub shows_by : {A P : Type 0} (found : Option A) → (found ≢ None → P) → (found ≡ None) ⊎ P
shows_by None shown = inl refl
shows_by (Some evidence) shown = inr (shown (λ none. cc))

-- messages of nodes are the last of no line
pub last_data-nodes : (made more : List Message) (line : ℕ) → data_pairs more ≡ [] → last_data line (made ++ more) ≡ last_data line made
unfolding data_pairs
last_data-nodes made [] line none = ap (last_data line) (append-nil made)
last_data-nodes made (Node level index block ∷ more) line none =
    ap (last_data line) (sym (append_assoc made (Node level index block ∷ []) more))
    ∙ last_data-nodes (made ++ Node level index block ∷ []) more line none
    ∙ last_of_other (data_part line) made (Node level index block) refl
last_data-nodes made (Line other counter cipher ∷ more) line none = absurd (cc)

pub same_last_data : (old new : BusHistory) (made made' : List Message) (line : ℕ) → SameLines old made new made' → last_data line made' ≡ last_data line made
same_last_data old new made made' line lines = ap (last_data line) lines.made_more ∙ last_data-nodes made lines.more line lines.no_lines

module _ (tag_of : Message → List ℕ) (old new : BusHistory) (made made' : List Message) (lines : SameLines old made new made') where
  -- what was sealed still is
  still_sealed : (used : List (ℕ × Counter)) (line : ℕ) (bytes : List ℕ) → IsSealed tag_of made used line bytes → IsSealed tag_of made' used line bytes
  still_sealed used line bytes is = record {
    counter = is.counter;
    cipher = is.cipher;
    made_there = rw lines.made_more (Contains-append_left made lines.more (Line line is.counter is.cipher) is.made_there);
    used_there = is.used_there;
    sealed = is.sealed;
  }

  holds_still : (count : ℕ) (used : List (ℕ × Counter)) → HoldsSealed tag_of count made used old.written → HoldsSealed tag_of count made' used new.written
  holds_still count used was = record {
    holds = λ line inside.
        rw (lines.written line) (elim (was.holds line inside) [
          | inl zeros ↦ inl zeros
          | inr is ↦ inr (still_sealed used line (old.written (line_place line)) is)
        ]);
  }

  lines_last : (count : ℕ) → HoldsLast tag_of count made old.written → HoldsLast tag_of count made' new.written
  lines_last count was = record {
    holds = λ line counter cipher inside last.
        lines.written line ∙ was.holds line counter cipher inside (sym (same_last_data old new made made' line lines) ∙ last);
  }

  nodes_consistent : (geometry : GeometryView) (used : List (ℕ × Counter)) → IsConsistent tag_of geometry old made used → new.geometry ≡ old.geometry →
      NodesAreMade geometry made' new.written → IsConsistent tag_of geometry new made' used
  nodes_consistent geometry used kept same nodes = record {
    bus_geometry = same ∙ kept.bus_geometry;
    paired = same_pairs old new made made' lines ∙ kept.paired;
    long = λ line counter cipher listed.
        kept.long line counter cipher (line_before made lines.more line counter cipher lines.no_lines (rw lines.made_more at listed));
    sealed = holds_still (line_count geometry) used kept.sealed;
    nodes = nodes;
  }

module _ {B T : Type 0} (history : B → BusHistory) (moved : B → List Access → B → Type 0) (d n : T → List ℕ → List ℕ) (old : OutsideView B T)
    (bus : B) (engine : TagEngineView T) where
  abbrev terms : MemoryTerms B
  terms = terms_of history moved d n old

  abbrev new : OutsideView B T
  new = record { bus = bus; engine = engine; pads = old.pads }

  pub node_step : (tree : TreeView) (stop : Option MemStop) → tree.geometry ≡ old.engine.geometry →
      AreConsistent terms old → HaveLast terms old → HaveLastNodes terms old →
      MakesAccesses moved terms.tag_of old.bus old.engine bus engine stop →
      StepMoves (history old.bus) old.engine (history bus) engine →
      SameLines (history old.bus) old.engine.made (history bus) engine.made →
      (NodesAreMade tree.geometry old.engine.made (history old.bus).written → NodesAreMade tree.geometry engine.made (history bus).written) →
      (NodesHoldLast tree.geometry old.engine.made (history old.bus).written → stop ≢ Some NoMemory → NodesHoldLast tree.geometry engine.made (history bus).written) →
      IsNodeStep terms old new stop
  node_step tree stop geometry kept last nodes trace moves lines made_blocks last_blocks = record {
    trace = trace;
    step = record moves { more = lines.more; made = lines.made_more };
    pairs = lines.no_lines;
    lines = lines;
    used = refl;
    key = refl;
    consistent = nodes_consistent terms.tag_of (history old.bus) (history bus) old.engine.made engine.made lines old.engine.geometry old.pads.used kept moves.bus_geometry
        (rw (← geometry) (made_blocks (rw geometry kept.nodes)));
    holds_last = lines_last terms.tag_of (history old.bus) (history bus) old.engine.made engine.made lines (line_count old.engine.geometry) last;
    nodes_hold_last = λ goes_on. rw (← geometry) (last_blocks (rw geometry nodes) goes_on);
  }

  -- the counters still fit, or there is evidence
  pub fits_before : (counters : CountersView) → CountersFit terms old counters → HoldsCounters (tags_of d n) counters (history old.bus) old.engine
  fits_before counters was = record { tree = record { fits = was.tree.fits }; clean = was.clean }

  pub fits_after : (counters : CountersView) → engine.tagger ≡ old.engine.tagger → engine.geometry ≡ old.engine.geometry →
      HoldsCounters (tags_of d n) counters (history bus) engine → CountersFit terms new counters
  fits_after counters tagger geometry holds = record {
    tree = record {
      fits = λ quiet.
          subst (λ (t : Message → List ℕ). IsTree t counters.tree engine.made (history bus).written) (same_tags d n old.engine engine tagger geometry)
          (holds.tree.fits quiet);
    };
    clean = holds.clean;
  }
