-- A memory of which no line was written.
use Rattle.std.proofs.Common.{◌≡◌, ℕ, ◌<◌, inl, List, [], slice_index, None, Contains, refl, ap, sym, ◌∙◌, subst, arith}
use Rattle.std.proofs.lemmas.List.{get_or-replicate}
use Rattle.sec_base.specs.Geometry.{GeometryView, IsNode, line_count, page_count}
use Rattle.sec_base.specs.LastMessage.{last_at, data_pairs}
use Rattle.sec_base.specs.declared.counter.Counter.{Counter}
use Rattle.sec_base.specs.declared.message.Message.{Message}
use Rattle.sec_base.specs.declared.place.Place.TheVariants.{Line as line_place, Node as node_place}
use Rattle.bus_model.specs.Access.{Access}
use Rattle.bus_model.specs.BusHistory.{BusHistory, NothingWritten}
use Rattle.tag_engine.specs.TagEngine.{TagEngineView, new_engine, tags_of}
use Rattle.pad_stream.specs.PadEngine.{PadEngineView, new_pads}
use Rattle.split_counter.specs.CounterBlock.{CounterBlockView, counter_of, new_block, place_of}
use Rattle.bonsai_tree.specs.Tree.{NodesAreMade, NodesHoldLast}
use Rattle.bonsai_tree.proofs.MadeSlots.{slots_none}
use Rattle.counter_cache.specs.Counters.{CountersView, HoldsCounters, cached_pages, counters_in}
use Rattle.page_reencrypt.specs.Consistency.{IsConsistent}
use Rattle.page_reencrypt.specs.Contents.{HoldsLast, NodesSay}
use Rattle.page_reencrypt.specs.SealedLines.{AreProtected, CountersRise, IsOfPage, SealedLinesView}
use Rattle.page_reencrypt.proofs.Kept.{protected_after}

no_pairs : data_pairs [] ≡ []
unfolding data_pairs
no_pairs = refl

no_page : (page : ℕ) → ¬ Contains [] page
no_page page listed = omega (arith, listed.1)

-- each line of each page has the counter of one that was never written
new_says : (block : CounterBlockView) (page : ℕ) → block ≡ new_block → IsOfPage [] page block
unfolding last_at
new_says block page is line of_page =
    let zero : slice_index new_block.lines (place_of line) ≡ 0 = get_or-replicate 64 (place_of line) 0 0 (omega arith) in
    ap (λ (n : ℕ). let c : Counter = record { page = 0; line = n } in c) (sym zero) ∙ ap (counter_of (place_of line)) (sym is)

new_consistent : (tag_of : Message → List ℕ) (geometry : GeometryView) (history : BusHistory) → history.geometry ≡ geometry → NothingWritten history →
    NodesAreMade geometry [] history.written → IsConsistent tag_of geometry history [] []
new_consistent tag_of geometry history same empty nodes = record {
  bus_geometry = same;
  paired = no_pairs;
  long = λ line counter cipher has. absurd (omega (arith, has.1));
  sealed = record { holds = λ line inside. inl (empty.zeros (line_place line) (subst (λ (l : GeometryView). line < line_count l) (sym same) inside)) };
  nodes = nodes;
}

new_last : (tag_of : Message → List ℕ) (lines : ℕ) (history : BusHistory) → HoldsLast tag_of lines [] history.written
unfolding last_at
new_last tag_of lines history = record { holds = λ line counter cipher inside last. absurd (cc) }

new_rise : (geometry : GeometryView) (limit : ℕ) → CountersRise geometry limit [] None
unfolding last_at
new_rise geometry limit = record {
  successive = record { each = λ at line counter there. absurd (cc) };
  within = record { limited = λ line counter inside has. absurd (omega (arith, has.1)) };
  paged = λ going. record { one = λ line other inside within same_page. refl; reached = λ line inside. omega arith };
  spent = λ page is. absurd (cc);
}

empty_nodes : (geometry : GeometryView) (history : BusHistory) → history.geometry ≡ geometry → NothingWritten history → NodesAreMade geometry [] history.written
empty_nodes geometry history same empty = record {
  holds = λ level index inside. inl (empty.zeros (node_place level index) (subst (λ (l : GeometryView). IsNode l level index) (sym same) inside));
}

new_nodes : (geometry : GeometryView) (history : BusHistory) → NodesHoldLast geometry [] history.written
unfolding last_at
new_nodes geometry history = record { holds = λ level index block inside last. absurd (cc) }

new_said : (tag_of : Message → List ℕ) (geometry : GeometryView) → NodesSay tag_of geometry [] []
new_said tag_of geometry = record {
  slots = slots_none tag_of geometry;
  blocks = record { said = λ page line block listed of_page. absurd (omega (arith, listed.1)) };
}

module _ {B T : Type 0} (d n : T → List ℕ → List ℕ) (history : B → BusHistory) (bus_moved : B → List Access → B → Type 0) (bus : B) (tagger : T) (key : List ℕ) (geometry : GeometryView) (limit : ℕ)
    (engine : TagEngineView T) (pads : PadEngineView) (counters : CountersView) (new : engine ≡ new_engine tagger geometry) (unused : pads ≡ new_pads key)
    (same : (history bus).geometry ≡ geometry) (empty : NothingWritten (history bus)) (tree_geometry : counters.tree.geometry ≡ geometry)
    (holds : HoldsCounters (tags_of d n) counters (history bus) engine)
    (zeros : (page : ℕ) → page < page_count geometry → counters_in counters engine.made page ≡ new_block) (uncached : cached_pages counters ≡ []) where
  abbrev memory : TagEngineView T → PadEngineView → SealedLinesView B T
  memory tags entries = record { bus = bus; engine = tags; pads = entries; counters = counters; limit = limit; stopped = None }

  abbrev begun : SealedLinesView B T
  begun = memory (new_engine tagger geometry) (new_pads key)

  fits : HoldsCounters (tags_of d n) counters (history bus) (new_engine tagger geometry)
  fits = subst (HoldsCounters (tags_of d n) counters (history bus)) new holds

  says : (page : ℕ) → page < page_count geometry → IsOfPage [] page (counters_in counters [] page)
  says page inside =
      new_says (counters_in counters [] page) page (ap (λ (e : TagEngineView T). counters_in counters e.made page) (sym new) ∙ zeros page inside)

  pub boot_protected : AreProtected d n history (memory engine pads)
  boot_protected =
      subst (λ (entries : PadEngineView). AreProtected d n history (memory engine entries)) (sym unused)
      (subst (λ (tags : TagEngineView T). AreProtected d n history (memory tags (new_pads key))) (sym new)
      (protected_after d n history bus_moved begun (record { bus = bus; engine = begun.engine; pads = begun.pads }) counters None refl refl tree_geometry
      (λ page cached. absurd (no_page page (subst (λ (pages : List ℕ). Contains pages page) uncached cached)))
      (new_consistent (tags_of d n begun.engine) geometry (history bus) same empty (empty_nodes geometry (history bus) same empty))
      (λ goes_on. new_last (tags_of d n begun.engine) (line_count geometry) (history bus)) (λ goes_on. new_nodes geometry (history bus))
      (λ still. new_rise geometry limit) (λ still. new_said (tags_of d n begun.engine) geometry)
      (λ goes_on. record { tree = record { fits = fits.tree.fits }; clean = fits.clean }) (λ goes_on still. says)))
