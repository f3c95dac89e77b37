-- What steps over the nodes reach, one after another, and what a write makes of the memory outside after them.
use Rattle.std.proofs.Common.{◌≡◌, ◌≢◌, ◌⊎◌, inl, inr, ℕ, ◌+◌, ◌≤◌, List, [], ◌++◌, length, map, take, Option, Some, None, Contains, refl, ap, sym, ◌∙◌, subst, arith, append_assoc, length-append}
use Rattle.std.proofs.lemmas.List.{append-nil, length-map, length-take}
use Rattle.sec_base.specs.declared.counter.Counter.{Counter}
use Rattle.sec_base.specs.declared.message.Message.{Message}
use Rattle.sec_base.specs.declared.place.Place.{Place}
use Rattle.sec_base.specs.declared.place.Place.TheVariants.{Line as line_place, Node as node_place}
use Rattle.sec_base.specs.declared.stop.MemStop.{MemStop}
use Rattle.sec_base.specs.declared.stop.MemStop.TheVariants.{Tampered, Spent, NoMemory}
use Rattle.sec_base.specs.Count.{Rose, RoseBy}
use Rattle.sec_base.specs.Geometry.{page_of}
use Rattle.sec_base.specs.LastMessage.{data_pairs, last_data, last_node, IsFresh}
use Rattle.sec_base.proofs.Results.{was_none}
use Rattle.bus_model.specs.Access.{Access}
use Rattle.bus_model.specs.BusHistory.{BusHistory}
use Rattle.tag_engine.specs.TagEngine.{TagEngineView, with_room as tags_with_room}
use Rattle.pad_stream.specs.Pad.{cipher_of}
use Rattle.pad_stream.specs.PadEngine.{PadEngineView}
use Rattle.pad_stream.specs.Pads.{AreRising}
use Rattle.checked_bus.specs.Steps.{IsAccounted, Moves as StepMoves}
use Rattle.checked_bus.proofs.Makes.{accesses_stopped}
use Rattle.checked_bus.proofs.Steps.{data_pairs-append, moves_on as step_on}
use Rattle.split_counter.specs.CounterBlock.{last_counter, next_counter}
use Rattle.bonsai_tree.specs.Node.{path_index}
use Rattle.bonsai_tree.specs.Tree.{IsFetchPlace, PathWasRead, TreeView, UnmadeAreUnread, above}
use Rattle.bonsai_tree.proofs.Climbs.{came_after, came_before, read_up_held, read_up_on, unless_held_on, unmade_before}
use Rattle.counter_cache.specs.Counters.{CountersView, SameCounters, cached_pages, counter_accesses, counters_in}
use Rattle.counter_cache.proofs.BlocksMade.{blocks_held_on, blocks_held_after}
use Rattle.page_reencrypt.specs.Consistency.{IsConsistent}
use Rattle.page_reencrypt.specs.Contents.{NodesSay, bytes_of, counter_in, line_bytes, lines_encrypted}
use Rattle.page_reencrypt.specs.Outside.{AreAccounted, AreSealedInOrder, CountersFit, CountersSay, HaveLastNodes, HaveRisen, IsNodeStep, IsWrite, MemoryTerms, NodesSayStill, OutsideView, ShowsLies}
use Rattle.page_reencrypt.specs.SealedLines.{AreReread, CopiesCame, KeepsFew}
use Rattle.page_reencrypt.specs.Stops.{lasting_stop}
use Rattle.page_reencrypt.proofs.MadeAccesses.{made_on, made_roomy}
use Rattle.page_reencrypt.proofs.NodeSteps.{same_last_data}
use Rattle.page_reencrypt.proofs.Nodes.{counters_same, fits_same, nodes_last, not_node}
use Rattle.page_reencrypt.proofs.SayingNodes.{say_on}
use Rattle.page_reencrypt.proofs.Sealing.{listed_not}
use Rattle.page_reencrypt.proofs.Stops.{other_stop}

-- The copies on the chip came

pub few_not : (counters : CountersView) → KeepsFew counters counters
few_not counters = record { blocks = λ few. few; nodes = λ level few. few }

few_on : (counters counters' counters'' : CountersView) → KeepsFew counters counters' → KeepsFew counters' counters'' → KeepsFew counters counters''
few_on counters counters' counters'' a b = record { blocks = λ few. b.blocks (a.blocks few); nodes = λ level few. b.nodes level (a.nodes level few) }

pub came_not : (page : ℕ) (history : BusHistory) (made : List Message) (counters : CountersView) (stop : Option MemStop) →
    CopiesCame page history made counters history made counters stop
came_not page history made counters stop = record {
  blocks = λ other cached. inl cached;
  nodes = λ level index copied. read_up_held counters.tree made level index history history copied;
  nodes_came = λ memory level index copied. inl (copied, refl);
  blocks_came = λ goes other copied. inl (copied, refl);
}

going : None ≢ Some NoMemory
going = λ (e : None ≡ Some NoMemory). cc

-- and more was read since
came_more : (page : ℕ) (first second third : BusHistory) (made made' made'' : List Message) (counters counters' : CountersView) (stop : Option MemStop) →
    ((place : Place) → RoseBy 0 (second.reads place) (third.reads place)) →
    ((level index : ℕ) → last_node level index made'' ≡ last_node level index made') →
    CopiesCame page first made counters second made' counters' None → CopiesCame page first made counters third made'' counters' stop
came_more page first second third made made' made'' counters counters' stop more last a = record {
  blocks = λ other cached.
      elim (a.blocks other cached) [
        | inl had ↦ inl had
        | inr own ↦ inr (own.0, came_before made 0 page first second third more own.1)
      ];
  nodes = λ level index copied. record {
    rose = λ up inside none.
        came_before made (level + up) (above counters.tree.geometry index up) first second third more ((a.nodes level index copied).rose up inside none);
  };
  nodes_came = λ memory level index copied.
      elim (a.nodes_came going level index copied) [
        | inl held ↦ inl (held.0, last level index ∙ held.1)
        | inr came ↦ elim came [
          | inl none ↦ inr (inl (last level index ∙ none))
          | inr rose ↦ inr (inr (omega (arith, rose, more (node_place level index))))
        ]
      ];
  blocks_came = λ goes. blocks_held_after counters counters' made made' made'' first second third more (last 0) (a.blocks_came refl);
}

came_on : {T : Type 0} (page : ℕ) (first second third : BusHistory) (engine engine' engine'' : TagEngineView T) (counters counters' counters'' : CountersView)
    (stop : Option MemStop) → counters'.tree.geometry ≡ counters.tree.geometry → StepMoves first engine second engine' → StepMoves second engine' third engine'' →
    CopiesCame page first engine.made counters second engine'.made counters' None →
    CopiesCame page second engine'.made counters' third engine''.made counters'' stop →
    CopiesCame page first engine.made counters third engine''.made counters'' stop
came_on page first second third engine engine' engine'' counters counters' counters'' stop geometry step more a b =
    let unmade : (level index : ℕ) → last_node level index engine'.made ≡ None → last_node level index engine.made ≡ None =
    unmade_before engine.made engine'.made step.more step.made in
    record {
      blocks = λ other cached.
          elim (b.blocks other cached) [
            | inl had ↦ elim (a.blocks other had) [
              | inl was ↦ inl was
              | inr own ↦ inr (own.0, came_before engine.made 0 page first second third more.reads own.1)
            ]
            | inr own ↦ inr (own.0, came_after engine.made engine'.made 0 page first second third step.reads (unmade 0 page) own.1)
          ];
      nodes = λ level index copied.
          read_up_on counters.tree counters'.tree engine.made engine'.made level index first second third geometry step.reads more.reads unmade a.nodes
          (b.nodes level index copied);
      nodes_came = λ memory.
          unless_held_on counters.tree counters'.tree counters''.tree engine.made engine'.made engine''.made first second third step.reads more.reads
          (a.nodes_came going) (b.nodes_came memory);
      blocks_came = λ goes.
          blocks_held_on counters counters' counters'' engine.made engine'.made engine''.made first second third step.reads more.reads
          (a.blocks_came refl) (b.blocks_came goes);
    }

-- a path was read, and more was read since
pub path_more : (tree : TreeView) (made : List Message) (page : ℕ) (first second third : BusHistory) →
    ((place : Place) → RoseBy 0 (second.reads place) (third.reads place)) → PathWasRead tree made 0 page first second → PathWasRead tree made 0 page first third
path_more tree made page first second third more path = record {
  rose = λ level above inside uncached.
      came_before made level (path_index tree.geometry level page) first second third more (path.rose level above inside uncached);
}

module _ {B T : Type 0} (terms : MemoryTerms B) where
  -- The memory outside after steps over the nodes, with its counters.
  pub record IsReached (old : OutsideView B T) (counters : CountersView) (new : OutsideView B T) (counters' : CountersView) (stop : Option MemStop) : Type 0 where
    pub node : IsNodeStep terms old new stop
    pub geometry : counters'.tree.geometry ≡ counters.tree.geometry
    pub fits : lasting_stop stop ≡ None → CountersFit terms new counters'
    pub accounted : AreAccounted terms old None → AreAccounted terms new stop
    pub shows : ShowsLies terms old new
    pub nodes : NodesSayStill terms old new

  -- What came onto the chip on a call on a line of a page, and that no node was read that was never made.
  pub record HasCome (page : ℕ) (old : OutsideView B T) (counters : CountersView) (new : OutsideView B T) (counters' : CountersView) (stop : Option MemStop) : Type 0 where
    pub few : KeepsFew counters counters'
    pub copies : new.engine.evidence ≡ None →
        CopiesCame page (terms.history old.bus) old.engine.made counters (terms.history new.bus) new.engine.made counters' stop
    pub unread : new.engine.evidence ≡ None → UnmadeAreUnread (terms.history old.bus) new.engine.made (terms.history new.bus)

  -- no node was touched since
  pub come_more : (page : ℕ) (first second third : OutsideView B T) (counters counters' : CountersView) (stop : Option MemStop) →
      ((place : Place) → RoseBy 0 ((terms.history second.bus).reads place) ((terms.history third.bus).reads place)) →
      (third.engine.evidence ≡ None → second.engine.evidence ≡ None) →
      ((level index : ℕ) → (terms.history third.bus).reads (node_place level index) ≡ (terms.history second.bus).reads (node_place level index)) →
      ((level index : ℕ) → last_node level index third.engine.made ≡ last_node level index second.engine.made) →
      HasCome page first counters second counters' None → HasCome page first counters third counters' stop
  come_more page first second third counters counters' stop more was_quiet reads last come = record {
    few = come.few;
    copies = λ quiet.
        came_more page (terms.history first.bus) (terms.history second.bus) (terms.history third.bus) first.engine.made second.engine.made third.engine.made
        counters counters' stop more last (come.copies (was_quiet quiet));
    unread = λ quiet level index none. reads level index ∙ come.unread (was_quiet quiet) level index (sym (last level index) ∙ none);
  }

  -- memory was taken since, at most
  pub come_idle : (page : ℕ) (first second third : OutsideView B T) (counters counters' : CountersView) (stop : Option MemStop) → third.bus ≡ second.bus →
      third.engine.made ≡ second.engine.made → third.engine.evidence ≡ second.engine.evidence →
      HasCome page first counters second counters' None → HasCome page first counters third counters' stop
  come_idle page first second third counters counters' stop bus made evidence =
      let same : terms.history third.bus ≡ terms.history second.bus = ap terms.history bus in
      come_more page first second third counters counters' stop (λ place. omega (arith, ap (λ (h : BusHistory). h.reads place) same)) (λ quiet. sym evidence ∙ quiet)
      (λ level index. ap (λ (h : BusHistory). h.reads (node_place level index)) same) (λ level index. ap (last_node level index) made)

  -- and then came more
  pub come_on : (page : ℕ) (first second third : OutsideView B T) (counters counters' counters'' : CountersView) (stop : Option MemStop) → counters'.tree.geometry ≡ counters.tree.geometry →
      StepMoves (terms.history first.bus) first.engine (terms.history second.bus) second.engine →
      StepMoves (terms.history second.bus) second.engine (terms.history third.bus) third.engine →
      HasCome page first counters second counters' None → HasCome page second counters' third counters'' stop → HasCome page first counters third counters'' stop
  come_on page first second third counters counters' counters'' stop geometry step more a b =
      let was_quiet : third.engine.evidence ≡ None → second.engine.evidence ≡ None =
      λ quiet. was_none second.engine.evidence third.engine.evidence more.evidence quiet in
      record {
        few = few_on counters counters' counters'' a.few b.few;
        copies = λ quiet.
            came_on page (terms.history first.bus) (terms.history second.bus) (terms.history third.bus) first.engine second.engine third.engine
            counters counters' counters'' stop geometry step more (a.copies (was_quiet quiet)) (b.copies quiet);
        unread = λ quiet level index none.
            b.unread quiet level index none
            ∙ a.unread (was_quiet quiet) level index (unmade_before second.engine.made third.engine.made more.more more.made level index none);
      }

  pub shows_on : (first second third : OutsideView B T) → StepMoves (terms.history first.bus) first.engine (terms.history second.bus) second.engine →
      StepMoves (terms.history second.bus) second.engine (terms.history third.bus) third.engine →
      ShowsLies terms first second → ShowsLies terms second third → ShowsLies terms first third
  shows_on first second third step more a b = λ quiet.
      elim (a quiet) [
        | inl still ↦
            elim (b still) [
              | inl quiet_on ↦ inl quiet_on
              | inr rose ↦ inr (omega (arith, rose, step.lies))
            ]
        | inr rose ↦ inr (omega (arith, rose, more.lies))
      ]

  -- memory was taken, or some of it
  pub reached_roomy : ((bus : B) → terms.moved bus [] bus) →
      ((first second third : B) (before after : List Access) → terms.moved first before second → terms.moved second after third → terms.moved first (before ++ after) third) →
      (old got new : OutsideView B T) (counters counters' : CountersView) (stop : Option MemStop) (messages : ℕ) (pads : PadEngineView) →
      ((place : Place) → stop ≢ Some (Tampered place)) → pads.used ≡ got.pads.used → pads.key ≡ got.pads.key →
      new ≡ record { bus = got.bus; engine = tags_with_room messages got.engine; pads = pads } →
      IsReached old counters got counters' None → IsReached old counters new counters' stop
  reached_roomy unmoved moved_on old got new counters counters' stop messages pads untampered used key is a =
      subst (λ (o : OutsideView B T). IsReached old counters o counters' stop) (sym is)
      (record {
        node = record {
          trace = made_on terms.moved terms.tag_of moved_on old.bus got.bus got.bus old.engine got.engine (tags_with_room messages got.engine) stop
              a.node.step.geometry (λ evidence is. is) a.node.trace (made_roomy terms.moved terms.tag_of unmoved got.bus got.engine messages stop untampered);
          step = record {
            bus_geometry = a.node.step.bus_geometry;
            geometry = a.node.step.geometry;
            tagger = a.node.step.tagger;
            more = a.node.step.more;
            made = a.node.step.made;
            evidence = a.node.step.evidence;
            reads = a.node.step.reads;
            accesses = a.node.step.accesses;
            lies = a.node.step.lies;
          };
          pairs = a.node.pairs;
          lines = a.node.lines;
          used = used ∙ a.node.used;
          key = key ∙ a.node.key;
          consistent = subst (IsConsistent terms.tag_of terms.geometry (terms.history got.bus) got.engine.made) (sym used) a.node.consistent;
          holds_last = a.node.holds_last;
          nodes_hold_last = λ goes_on. a.node.nodes_hold_last (λ none. cc);
        };
        geometry = a.geometry;
        fits = λ going. let fits = a.fits refl in record { tree = record { fits = fits.tree.fits }; clean = fits.clean };
        accounted = λ was.
            subst (λ (u : List (ℕ × Counter)). IsAccounted terms.tag_of u got.engine.made (terms.history got.bus) stop got.engine.evidence) (sym used)
            (other_stop terms.tag_of got.pads.used got.engine.made (terms.history got.bus) None stop got.engine.evidence (λ place is. cc) untampered (a.accounted was));
        shows = a.shows;
        nodes = λ quiet was.
            subst (λ (u : List (ℕ × Counter)). NodesSay terms.tag_of terms.geometry u got.engine.made) (sym used) (a.nodes quiet was);
      })

  -- counters were counted up on the chip
  pub reached_up : (old : OutsideView B T) (counters : CountersView) (new : OutsideView B T) (counters' counters'' : CountersView) →
      IsReached old counters new counters' None → counters''.tree.geometry ≡ counters'.tree.geometry → CountersFit terms new counters'' →
      IsReached old counters new counters'' None
  reached_up old counters new counters' counters'' is geometry fits = record {
    node = is.node;
    geometry = geometry ∙ is.geometry;
    fits = λ going. fits;
    accounted = is.accounted;
    shows = is.shows;
    nodes = is.nodes;
  }

  -- where it stands at the same messages and entries, it stopped as spent
  pub reached_spent : (old : OutsideView B T) (counters : CountersView) (new : OutsideView B T) (counters' : CountersView) (page : ℕ) →
      IsReached old counters new counters' None → IsReached old counters new counters' (Some (Spent page))
  reached_spent old counters new counters' page is = record {
    node = record {
      trace = accesses_stopped terms.moved terms.tag_of old.bus new.bus old.engine new.engine None (Some (Spent page)) (omega arith) (λ place is. absurd (cc))
          is.node.trace;
      step = is.node.step;
      pairs = is.node.pairs;
      lines = is.node.lines;
      used = is.node.used;
      key = is.node.key;
      consistent = is.node.consistent;
      holds_last = is.node.holds_last;
      nodes_hold_last = λ goes_on. is.node.nodes_hold_last (λ none. cc);
    };
    geometry = is.geometry;
    fits = λ going. is.fits refl;
    accounted = λ was.
        other_stop terms.tag_of new.pads.used new.engine.made (terms.history new.bus) None (Some (Spent page)) new.engine.evidence (λ place is. cc) (λ place is. cc)
        (is.accounted was);
    shows = is.shows;
    nodes = is.nodes;
  }

  module _ (old : OutsideView B T) (counters : CountersView) (new : OutsideView B T) (counters' : CountersView) (stop : Option MemStop)
      (reached : IsReached old counters new counters' stop) where
    reached_quiet : new.engine.evidence ≡ None → old.engine.evidence ≡ None
    reached_quiet quiet = was_none old.engine.evidence new.engine.evidence reached.node.step.evidence quiet

    pub reached_risen : HaveRisen terms old → HaveRisen terms new
    reached_risen rose quiet = subst AreRising (sym reached.node.used) (rose (reached_quiet quiet))

    -- each line keeps its last message
    pub reached_data : (line : ℕ) → last_data line new.engine.made ≡ last_data line old.engine.made
    reached_data line =
        same_last_data (terms.history old.bus) (terms.history new.bus) old.engine.made new.engine.made line reached.node.lines

    -- The write stopped before a line was sealed.
    pub early_write : (limit line : ℕ) (bytes : List ℕ) → HaveRisen terms old → stop ≢ None →
        (lasting_stop stop ≡ None → CountersSay terms new counters') →
        (new.engine.evidence ≡ None → SameCounters counters old.engine.made counters' new.engine.made)
        ⊎ ((64 ≤ new.pads.room) × (length old.engine.made + 64 ≤ length new.engine.made + new.engine.room)) →
        ((place : Place) → stop ≡ Some (Tampered place) → IsFetchPlace terms.geometry (page_of line) place
        × (old.engine.evidence ≡ None → Rose (terms.history old.bus).lies (terms.history new.bus).lies)) →
        ((page : ℕ) → stop ≡ Some (Spent page) → (page ≡ page_of line) × (new.engine.evidence ≡ None → counter_in old.pads.used line ≡ last_counter limit)) →
        (new.engine.evidence ≡ None → counter_in old.pads.used line ≡ last_counter limit →
        SameCounters counters old.engine.made counters' new.engine.made
        × ((terms.history new.bus).accesses ≤ (terms.history old.bus).accesses + counter_accesses terms.geometry.levels)) →
        HasCome (page_of line) old counters new counters' stop → IsWrite terms limit line bytes old counters new counters' stop
    early_write limit line bytes rose stopped say reserved tampered spent used_up come = record {
      trace = reached.node.trace;
      step = reached.node.step;
      geometry = reached.geometry;
      key = reached.node.key;
      consistent = reached.node.consistent;
      risen = reached_risen rose;
      holds_last = λ goes_on. reached.node.holds_last;
      nodes_hold_last = reached.node.nodes_hold_last;
      counter = next_counter (counter_in old.pads.used line);
      next = λ quiet. refl;
      count = 0;
      within = omega arith;
      whole = λ none. absurd (stopped none);
      entries = reached.node.used ∙ sym (append-nil old.pads.used);
      pairs = reached.node.pairs;
      unwritten = λ none. reached.node.lines.written;
      own = λ listed. absurd (omega (arith, listed.1));
      own_bytes = λ listed. absurd (omega (arith, listed.1));
      not_yet = λ unlisted. reached_data line;
      others = λ quiet other differs. ap (bytes_of old.pads.key other) (reached_data other);
      reread = λ quiet other listed. absurd (omega (arith, listed.1));
      fits = reached.fits;
      current = say;
      reserved =
          elim reserved [
            | inl same ↦ inl (refl, same)
            | inr roomy ↦ let used = ap length reached.node.used in inr (omega (arith, used, roomy.0), roomy.1)
          ];
      unread = come.unread;
      path = λ quiet none. absurd (stopped none);
      few = come.few;
      copies = come.copies;
      accounted = reached.accounted;
      shows = reached.shows;
      nodes = reached.nodes;
      lied = λ place is quiet. (tampered place is).1 quiet;
      tampered = λ place is. inl (tampered place is).0;
      failed = λ other is. not_node terms.geometry (page_of line) other (tampered (line_place other) is).0;
      spent = λ page is. ((spent page is).0, refl, (spent page is).1);
      used_up = λ quiet last. (refl, stopped, (used_up quiet last).0, (used_up quiet last).1, λ place is. (tampered place is).0);
    }

  -- Its lines were sealed, or a front part of them.
  module _ (old : OutsideView B T) (counters : CountersView) (mid : OutsideView B T) (counters' : CountersView) (new : OutsideView B T)
      (reached : IsReached old counters mid counters' None) (line : ℕ) (bytes : List ℕ) (counter : Counter) (stop : Option MemStop)
      (sealed : AreSealedInOrder terms (record { line = line; bytes = bytes; counter = counter }) mid (lines_encrypted counter line) new stop) where
    abbrev part : List ℕ
    part = take sealed.count (lines_encrypted counter line)

    abbrev whole_step : StepMoves (terms.history old.bus) old.engine (terms.history new.bus) new.engine
    whole_step =
        let step = step_on (terms.history old.bus) (terms.history mid.bus) (terms.history new.bus) old.engine mid.engine new.engine reached.node.step sealed.sealed.step in
        record {
          bus_geometry = step.bus_geometry;
          geometry = step.geometry;
          tagger = step.tagger;
          more = reached.node.step.more ++ sealed.sealed.step.more;
          made = sealed.sealed.step.made ∙ ap (λ (made : List Message). made ++ sealed.sealed.step.more) reached.node.step.made
              ∙ append_assoc old.engine.made reached.node.step.more sealed.sealed.step.more;
          evidence = step.evidence;
          reads = step.reads;
          accesses = step.accesses;
          lies = step.lies;
        }

    late_quiet : new.engine.evidence ≡ None → mid.engine.evidence ≡ None
    late_quiet quiet = was_none mid.engine.evidence new.engine.evidence sealed.sealed.step.evidence quiet

    -- the counters fit still
    pub late_fits : CountersFit terms new counters'
    late_fits =
        fits_same terms.tag_of counters' (terms.history mid.bus) (terms.history new.bus) mid.engine new.engine sealed.sealed.nodes.written
        sealed.sealed.nodes.last late_quiet (reached.fits refl)

    -- and are the same
    pub late_counters : (page : ℕ) → counters_in counters' new.engine.made page ≡ counters_in counters' mid.engine.made page
    late_counters page = counters_same counters' mid.engine.made new.engine.made page (sealed.sealed.nodes.last 0 page)

    late_nodes : HaveLastNodes terms new
    late_nodes =
        nodes_last terms.geometry mid.engine.made new.engine.made (terms.history mid.bus).written (terms.history new.bus).written
        (reached.node.nodes_hold_last (λ is. cc)) sealed.sealed.nodes.written sealed.sealed.nodes.last

    -- messages of lines alone were made since
    late_nodes_say : NodesSayStill terms old new
    late_nodes_say quiet was =
        let lines_alone : length sealed.sealed.step.more ≤ length (data_pairs sealed.sealed.step.more) =
        let pairs = ap length sealed.sealed.pairs in
        let mapped = length-map {A = ℕ} {B = ℕ × Counter} in
        omega (arith, pairs, mapped, sealed.sealed.as_many) in
        subst (λ (u : List (ℕ × Counter)). NodesSay terms.tag_of terms.geometry u new.engine.made) (sym sealed.sealed.entries)
        (subst (NodesSay terms.tag_of terms.geometry (mid.pads.used ++ map (λ at. (at, counter)) part)) (sym sealed.sealed.step.made)
        (say_on terms.tag_of terms.geometry mid.pads.used (map (λ at. (at, counter)) part) mid.engine.made sealed.sealed.step.more lines_alone
        (reached.nodes (late_quiet quiet) was)))

    -- and no node was read
    late_come : HasCome (page_of line) old counters mid counters' None → HasCome (page_of line) old counters new counters' stop
    late_come =
        come_more (page_of line) old mid new counters counters' stop sealed.sealed.step.reads late_quiet sealed.sealed.nodes.reads sealed.sealed.nodes.last

    late_reread : new.engine.evidence ≡ None → AreReread line part old.pads.used (terms.history old.bus) (terms.history new.bus)
    late_reread quiet = λ other listed differs.
        elim (sealed.reread quiet other listed differs) [
          | inl fresh ↦ inl (subst (IsFresh other) reached.node.used fresh)
          | inr rose ↦ let before = reached.node.step.reads (line_place other) in inr (omega (arith, rose, before))
        ]

    pub late_write : ((first second third : B) (before after : List Access) → terms.moved first before second → terms.moved second after third → terms.moved first (before ++ after) third) → (limit : ℕ) → (new.engine.evidence ≡ None → counter ≡ next_counter (counter_in old.pads.used line)) →
        (new.engine.evidence ≡ None → counter_in old.pads.used line ≢ last_counter limit) →
        (stop ≡ None → CountersSay terms new counters') → 64 ≤ mid.pads.room → length old.engine.made + 64 ≤ length mid.engine.made + mid.engine.room →
        (mid.engine.evidence ≡ None → ¬ Contains (cached_pages counters) (page_of line) →
        PathWasRead counters.tree old.engine.made 0 (page_of line) (terms.history old.bus) (terms.history mid.bus)) →
        ((place : Place) → stop ≡ Some (Tampered place) → counter.line ≡ 0) → (lasting_stop stop ≡ None → stop ≡ None) →
        HasCome (page_of line) old counters mid counters' None → IsWrite terms limit line bytes old counters new counters' stop
    late_write moved_on limit next below say entries_room room path overflow going come = record {
      trace = made_on terms.moved terms.tag_of moved_on old.bus mid.bus new.bus old.engine mid.engine new.engine stop
          reached.node.step.geometry sealed.sealed.step.evidence reached.node.trace sealed.sealed.trace;
      step = whole_step;
      geometry = reached.geometry;
      key = sealed.sealed.key ∙ reached.node.key;
      consistent = sealed.sealed.consistent;
      risen = sealed.sealed.risen;
      holds_last = sealed.sealed.holds_last;
      nodes_hold_last = λ goes_on. late_nodes;
      counter = counter;
      next = next;
      count = sealed.count;
      within = sealed.within;
      whole = sealed.whole;
      entries = sealed.sealed.entries ∙ ap (λ (used : List (ℕ × Counter)). used ++ map (λ at. (at, counter)) part) reached.node.used;
      pairs = data_pairs-append reached.node.step.more sealed.sealed.step.more
          ∙ ap (λ (xs : List (ℕ × Counter)). xs ++ data_pairs sealed.sealed.step.more) reached.node.pairs ∙ sealed.sealed.pairs;
      unwritten = λ none at.
          let nothing : part ≡ [] = ap (λ (k : ℕ). take k (lines_encrypted counter line)) none in
          sealed.sealed.untouched at (λ listed. listed_not at (subst (λ (xs : List ℕ). Contains xs at) nothing listed)) ∙ reached.node.lines.written at;
      own = λ listed. subst (λ (k : List ℕ). last_data line new.engine.made ≡ Some (counter, cipher_of k line counter bytes)) reached.node.key (sealed.sealed.own listed);
      own_bytes = λ listed. subst (λ (k : List ℕ). line_bytes k new.engine.made line ≡ bytes) reached.node.key (sealed.sealed.own_bytes listed);
      not_yet = λ unlisted. sealed.sealed.not_yet unlisted ∙ reached_data old counters mid counters' None reached line;
      others = λ quiet other differs.
          subst (λ (k : List ℕ). line_bytes k new.engine.made other ≡ line_bytes k mid.engine.made other) reached.node.key (sealed.sealed.others quiet other differs)
          ∙ ap (bytes_of old.pads.key other) (reached_data old counters mid counters' None reached other);
      reread = late_reread;
      fits = λ goes_on. late_fits;
      current = λ goes_on. say (going goes_on);
      reserved =
          let many = length-take sealed.count (lines_encrypted counter line) in
          let used = ap length (sealed.sealed.entries) ∙ length-append mid.pads.used (map (λ at. (at, counter)) part) in
          let mapped = length-map {A = ℕ} {B = ℕ × Counter} in
          let before = ap length reached.node.used in
          let made = ap length sealed.sealed.step.made ∙ length-append mid.engine.made sealed.sealed.step.more in
          inr (
            omega (arith, used, mapped, before, entries_room, sealed.sealed.pads_room),
            omega (arith, made, room, sealed.sealed.room, sealed.sealed.as_many),
          );
      unread = (late_come come).unread;
      path = λ quiet none missed.
          path_more counters.tree old.engine.made (page_of line) (terms.history old.bus) (terms.history mid.bus) (terms.history new.bus) sealed.sealed.step.reads
          (path (late_quiet quiet) missed);
      few = come.few;
      copies = (late_come come).copies;
      accounted = λ was. sealed.sealed.accounted (reached.accounted was);
      shows = shows_on old mid new reached.node.step sealed.sealed.step reached.shows sealed.sealed.shows;
      nodes = late_nodes_say;
      lied = λ place is quiet.
          elim (reached.shows quiet) [
            | inl still ↦ let rose = sealed.sealed.lied place is still in omega (arith, rose, reached.node.step.lies)
            | inr rose ↦ omega (arith, rose, sealed.sealed.step.lies)
          ];
      tampered = λ place is. inr (sealed.sealed.tampered place is, overflow place is);
      failed = sealed.failed;
      spent = λ page is. absurd (sealed.sealed.unspent page is);
      used_up = λ quiet last. absurd (below quiet last);
    }
