-- Calls that have a block on the chip, one after another, and how they are made of calls of the tree and of changes of copies.
use Rattle.std.proofs.Common.{◌≡◌, ◌≢◌, ◌⊎◌, inl, inr, ℕ, ◌+◌, ◌≤◌, true, false, List, Option, Some, None, refl, ap, sym, ◌∙◌, subst, arith}
use Rattle.std.specs.List.{Contains}
use Rattle.std.specs.Option.{option_map}
use Rattle.std.proofs.lemmas.Bool.{cases_eq}
use Rattle.sec_base.specs.Count.{RoseBy}
use Rattle.sec_base.specs.LastMessage.{last_node}
use Rattle.sec_base.specs.declared.message.Message.{Message}
use Rattle.sec_base.specs.declared.place.Place.{Place}
use Rattle.sec_base.specs.declared.place.Place.TheVariants.{Node as node_place}
use Rattle.sec_base.specs.declared.stop.MemStop.{MemStop}
use Rattle.sec_base.specs.declared.stop.MemStop.TheVariants.{NoMemory}
use Rattle.sec_base.proofs.Results.{was_none}
use Rattle.cache_set.specs.declared.way.Way.{Way}
use Rattle.cache_set.specs.Cache.{way_at}
use Rattle.bus_model.specs.BusHistory.{BusHistory}
use Rattle.tag_engine.specs.TagEngine.{TagEngineView, tags_of}
use Rattle.split_counter.specs.CounterBlock.{block_of}
use Rattle.bonsai_tree.specs.Node.{CachedNode, block_or_zeros, current_of, page_block, path_index}
use Rattle.bonsai_tree.specs.NodeCache.{copy_of}
use Rattle.bonsai_tree.specs.TreeSteps.{TreeSteps}
use Rattle.bonsai_tree.specs.Tree.{HoldsTree, IsFetchPlace, IsNodeFrom, NodeCame, PathWasRead, TreeView, WasReadUp, above, cached_node}
use Rattle.bonsai_tree.proofs.Climbs.{came_after, came_before, read_up_on, unmade_before}
use Rattle.bonsai_tree.proofs.PathCalls.{not_from_one}
use Rattle.bonsai_tree.proofs.TreeSteps.{steps_not, steps_on, steps_where}
use Rattle.counter_cache.specs.Counters.{AreBlocks, CameFrom, CountersView, HoldsCounters, SameCounters, cached_block, cached_pages, counters_in, current_page}
use Rattle.counter_cache.specs.Having.{Has}
use Rattle.counter_cache.proofs.BlockCopies.{cached_held, held_cached}
use Rattle.sec_base.specs.Geometry.{GeometryView}

-- the page has no copy that was changed
abbrev pub IsUnchanged : CountersView → ℕ → Type 0
IsUnchanged counters page = (copy : CachedNode) → cached_block counters page ≡ Some copy → copy.changed ≡ false

-- the counters over another tree
abbrev pub over : TreeView → CountersView → CountersView
over tree counters = record { tree = tree; blocks = counters.blocks }

current_same : (found : Option CachedNode) (last last' : Option (List ℕ)) → (found ≡ None → last' ≡ last) → current_of found last' ≡ current_of found last
current_same None last last' same = ap (λ (o : Option (List ℕ)). block_or_zeros o) (same refl)
current_same (Some copy) last last' same = refl

none_unchanged : (found : Option CachedNode) → found ≡ None → (copy : CachedNode) → found ≡ Some copy → copy.changed ≡ false
none_unchanged found none copy some = absurd (cc)

held_before : (found before : Option CachedNode) → found ≢ None → ((copy : CachedNode) → found ≡ Some copy → before ≡ Some copy) → before ≢ None
held_before None before held fewer = absurd (held refl)
held_before (Some copy) before held fewer = λ none. let some : before ≡ Some copy = fewer copy refl in absurd (cc)

-- a call that did not stop found memory
pub going : None ≢ Some NoMemory
going = λ (e : None ≡ Some NoMemory). cc

module _ {T : Type 0} (d n : T → List ℕ → List ℕ) (Where : Place → Type 0) where
  -- nothing was done
  pub has_not : (counters : CountersView) (history : BusHistory) (engine : TagEngineView T) →
      Has (tags_of d n) Where counters history engine counters history engine None
  has_not counters history engine = record {
    tree = steps_not d n Where counters.tree history engine;
    blocks = λ are. are;
    holds = λ holds memory. holds;
    same = λ holds quiet page. refl;
    copied = λ holds quiet page held. inl held;
  }

  -- one call after another
  pub has_on : (counters mid counters' : CountersView) (first second third : BusHistory) (engine engine' engine'' : TagEngineView T) (stop : Option MemStop) →
      Has (tags_of d n) Where counters first engine mid second engine' None → Has (tags_of d n) Where mid second engine' counters' third engine'' stop →
      Has (tags_of d n) Where counters first engine counters' third engine'' stop
  has_on counters mid counters' first second third engine engine' engine'' stop has more =
      let before : engine''.evidence ≡ None → engine'.evidence ≡ None = was_none engine'.evidence engine''.evidence more.tree.moves.evidence in
      record {
        tree = steps_on d n Where counters.tree mid.tree counters'.tree first second third engine engine' engine'' stop has.tree more.tree;
        blocks = λ are. more.blocks (has.blocks are);
        holds = λ holds memory. more.holds (has.holds holds going) memory;
        same = λ holds quiet page. more.same (has.holds holds going) quiet page ∙ has.same holds (before quiet) page;
        copied = λ holds quiet page held. elim (more.copied (has.holds holds going) quiet page held) [
          | inl was ↦ elim (has.copied holds (before quiet) page was) [
            | inl early ↦ inl early
            | inr came ↦ inr (came.0, came_before engine.made 0 page first second third more.tree.moves.reads came.1)
          ]
          | inr came ↦ inr (
            came.0,
            came_after engine.made engine'.made 0 page first second third has.tree.moves.reads
                (unmade_before engine.made engine'.made has.tree.moves.more has.tree.moves.made 0 page) came.1,
          )
        ];
      }

  -- a call of the tree, which leaves the copies and the last blocks of pages that have no changed copy
  pub has_tree : (counters : CountersView) (tree' : TreeView) (old new : BusHistory) (engine engine' : TagEngineView T) (stop : Option MemStop) →
      TreeSteps (tags_of d n) Where counters.tree old engine tree' new engine' stop →
      ((page : ℕ) → IsUnchanged counters page → last_node 0 page engine'.made ≡ last_node 0 page engine.made) →
      Has (tags_of d n) Where counters old engine (over tree' counters) new engine' stop
  has_tree counters tree' old new engine engine' stop steps kept = record {
    tree = steps;
    blocks = λ are. subst (λ (k : GeometryView). AreBlocks k counters.blocks) (sym steps.geometry) are;
    holds = λ holds memory. record {
      tree = steps.holds holds.tree memory;
      clean = λ quiet page copy found unchanged.
          let was : engine.evidence ≡ None = was_none engine.evidence engine'.evidence steps.moves.evidence quiet in
          let same : last_node 0 page engine'.made ≡ last_node 0 page engine.made =
          kept page (λ other is. let one : other ≡ copy = cc in ap (λ (c : CachedNode). c.changed) one ∙ unchanged) in
          holds.clean was page copy found unchanged ∙ sym (ap (λ (o : Option (List ℕ)). block_or_zeros o) same);
    };
    same = λ holds quiet page.
        ap (λ (b : List ℕ). block_of b) (current_same (cached_block counters page) (last_node 0 page engine.made) (last_node 0 page engine'.made)
        (λ none. kept page (none_unchanged (cached_block counters page) none)));
    copied = λ holds quiet page held. inl held;
  }

  -- a change of copies alone
  has_recached : (counters : CountersView) (blocks' : List (List Way)) (history : BusHistory) (engine : TagEngineView T) →
      let after : CountersView = record { tree = counters.tree; blocks = blocks' } in
      AreBlocks counters.tree.geometry blocks' →
      (HoldsCounters (tags_of d n) counters history engine → engine.evidence ≡ None → (page : ℕ) →
      current_page after engine.made page ≡ current_page counters engine.made page) →
      ((page : ℕ) (copy : CachedNode) → cached_block after page ≡ Some copy → cached_block counters page ≡ Some copy) →
      Has (tags_of d n) Where counters history engine after history engine None
  has_recached counters blocks' history engine are same fewer = record {
    tree = steps_not d n Where counters.tree history engine;
    blocks = λ was. are;
    holds = λ holds memory. record {
      tree = holds.tree;
      clean = λ quiet page copy found unchanged. holds.clean quiet page copy (fewer page copy found) unchanged;
    };
    same = λ holds quiet page. ap (λ (b : List ℕ). block_of b) (same holds quiet page);
    copied = λ holds quiet page held. inl (held_before (option_map copy_of (way_at blocks' page)) (cached_block counters page) held (fewer page));
  }

  -- all copies are the same
  pub has_touched : (counters : CountersView) (blocks' : List (List Way)) (history : BusHistory) (engine : TagEngineView T) →
      AreBlocks counters.tree.geometry blocks' → ((page : ℕ) → way_at blocks' page ≡ way_at counters.blocks page) →
      Has (tags_of d n) Where counters history engine (record { tree = counters.tree; blocks = blocks' }) history engine None
  has_touched counters blocks' history engine are same =
      has_recached counters blocks' history engine are
      (λ holds quiet page. ap (λ (o : Option Way). current_of (option_map copy_of o) (last_node 0 page engine.made)) (same page))
      (λ page copy found. sym (ap (option_map copy_of) (same page)) ∙ found)

  -- a copy is gone that was the last block of its page
  pub has_dropped : (page : ℕ) (counters : CountersView) (blocks' : List (List Way)) (history : BusHistory) (engine : TagEngineView T) (way : Way) →
      AreBlocks counters.tree.geometry blocks' → way_at counters.blocks page ≡ Some way → way_at blocks' page ≡ None →
      ((other : ℕ) → other ≢ page → way_at blocks' other ≡ way_at counters.blocks other) →
      (HoldsCounters (tags_of d n) counters history engine → engine.evidence ≡ None → way.copy ≡ page_block page engine.made) →
      Has (tags_of d n) Where counters history engine (record { tree = counters.tree; blocks = blocks' }) history engine None
  has_dropped page counters blocks' history engine way are held gone same is_last =
      let current : ℕ → Option Way → List ℕ = λ other found. current_of (option_map copy_of found) (last_node 0 other engine.made) in
      has_recached counters blocks' history engine are
      (λ holds quiet other. elim (cases_eq other page) [
        | inr apart ↦ ap (λ (o : Option Way). current other o) (same other apart)
        | inl here ↦
            subst (λ (p : ℕ). current p (way_at blocks' p) ≡ current p (way_at counters.blocks p)) (sym here)
            (ap (λ (o : Option Way). current page o) gone ∙ sym (is_last holds quiet) ∙ sym (ap (λ (o : Option Way). current page o) held))
      ])
      (λ other kept found. elim (cases_eq other page) [
        | inr apart ↦ sym (ap (option_map copy_of) (same other apart)) ∙ found
        | inl here ↦ let none : None ≡ Some kept = sym (ap (λ (p : ℕ). option_map copy_of (way_at blocks' p)) here ∙ ap (option_map copy_of) gone) ∙ found in absurd (cc)
      ])

  -- a page's block was fetched, and is kept as a copy
  module _ (page : ℕ) (counters : CountersView) (tree' : TreeView) (blocks' : List (List Way)) (old new : BusHistory) (engine engine' : TagEngineView T) (block : List ℕ)
      (steps : TreeSteps (tags_of d n) Where counters.tree old engine tree' new engine' None)
      (pages : (other : ℕ) → last_node 0 other engine'.made ≡ last_node 0 other engine.made)
      (known : HoldsTree (tags_of d n) counters.tree old engine → engine'.evidence ≡ None → block ≡ page_block page engine.made)
      (own : Where (node_place 0 page))
      (came : HoldsTree (tags_of d n) counters.tree old engine → engine'.evidence ≡ None → CameFrom engine.made old new page)
      (are : AreBlocks tree'.geometry blocks') (absent : way_at counters.blocks page ≡ None)
      (put : way_at blocks' page ≡ Some (record { place = page; changed = false; copy = block }))
      (same : (other : ℕ) → other ≢ page → way_at blocks' other ≡ way_at counters.blocks other) where
    abbrev after : CountersView
    after = record { tree = tree'; blocks = blocks' }

    before : Has (tags_of d n) Where counters old engine (over tree' counters) new engine' None
    before = has_tree counters tree' old new engine engine' None steps (λ other unchanged. pages other)

    put_clean : HoldsCounters (tags_of d n) counters old engine → engine'.evidence ≡ None → (other : ℕ) (copy : CachedNode) →
        cached_block after other ≡ Some copy → copy.changed ≡ false → copy.block ≡ page_block other engine'.made
    put_clean holds quiet other copy found unchanged =
        elim (cases_eq other page) [
          | inr apart ↦ (before.holds holds going).clean quiet other copy (sym (ap (option_map copy_of) (same other apart)) ∙ found) unchanged
          | inl here ↦
              let is : Some (record { block = block; changed = false }) ≡ Some copy =
              sym (ap (λ (p : ℕ). cached_block after p) here ∙ ap (option_map copy_of) put) ∙ found in
              let same_block : copy.block ≡ block = cc in
              same_block ∙ known holds.tree quiet
              ∙ sym (ap (λ (p : ℕ). block_or_zeros (last_node 0 p engine'.made)) here ∙ ap (λ (o : Option (List ℕ)). block_or_zeros o) (pages page))
        ]

    put_same : HoldsCounters (tags_of d n) counters old engine → engine'.evidence ≡ None → SameCounters counters engine.made after engine'.made
    put_same holds quiet other =
        elim (cases_eq other page) [
          | inr apart ↦
              ap (λ (o : Option Way). block_of (current_of (option_map copy_of o) (last_node 0 other engine'.made))) (same other apart) ∙ before.same holds quiet other
          | inl here ↦
              subst (λ (p : ℕ). counters_in after engine'.made p ≡ counters_in counters engine.made p) (sym here)
              (ap (λ (o : Option Way). block_of (current_of (option_map copy_of o) (last_node 0 page engine'.made))) put
              ∙ ap (λ (b : List ℕ). block_of b) (known holds.tree quiet)
              ∙ sym (ap (λ (o : Option Way). block_of (current_of (option_map copy_of o) (last_node 0 page engine.made))) absent))
        ]

    pub has_put : Has (tags_of d n) Where counters old engine after new engine' None
    has_put = record {
      tree = steps;
      blocks = λ was. are;
      holds = λ holds memory. record { tree = steps.holds holds.tree going; clean = put_clean holds };
      same = put_same;
      copied = λ holds quiet other held. elim (cases_eq other page) [
        | inr apart ↦ inl (λ none. held (ap (option_map copy_of) (same other apart) ∙ none))
        | inl here ↦ inr (subst (λ (p : ℕ). Where (node_place 0 p) × CameFrom engine.made old new p) (sym here) (own, came holds.tree quiet))
      ];
    }

-- a copy that is changed is marked, and what holds, holds still
pub holds_changed : {T : Type 0} (d n : T → List ℕ → List ℕ) (counters counters' : CountersView) (history : BusHistory) (engine : TagEngineView T) (page : ℕ)
    (block : List ℕ) → counters'.tree ≡ counters.tree → cached_block counters' page ≡ Some (record { block = block; changed = true }) →
    ((other : ℕ) → other ≢ page → cached_block counters' other ≡ cached_block counters other) →
    HoldsCounters (tags_of d n) counters history engine → HoldsCounters (tags_of d n) counters' history engine
holds_changed d n counters counters' history engine page block tree put same holds = record {
  tree = subst (λ (t : TreeView). HoldsTree (tags_of d n) t history engine) (sym tree) holds.tree;
  clean = λ quiet other copy found unchanged. elim (cases_eq other page) [
    | inr apart ↦ holds.clean quiet other copy (sym (same other apart) ∙ found) unchanged
    | inl here ↦
        let is : Some (record { block = block; changed = true }) ≡ Some copy = sym (ap (λ (p : ℕ). cached_block counters' p) here ∙ put) ∙ found in
        let marked : copy.changed ≡ true = cc in
        absurd (cc)
  ];
}

-- room that is made for a page's block
pub has_room : {T : Type 0} (d n : T → List ℕ → List ℕ) (page : ℕ) (counters counters' : CountersView) (old new : BusHistory) (engine engine' : TagEngineView T)
    (stop : Option MemStop) → Has (tags_of d n) (IsNodeFrom counters.tree.geometry 1) counters old engine counters' new engine' stop →
    Has (tags_of d n) (IsFetchPlace counters.tree.geometry page) counters old engine counters' new engine' stop
has_room d n page counters counters' old new engine engine' stop has = record {
  tree = steps_where (tags_of d n) (IsNodeFrom counters.tree.geometry 1) (IsFetchPlace counters.tree.geometry page) counters.tree counters'.tree old new
      engine engine' stop (λ place from. inr from) has.tree;
  blocks = has.blocks;
  holds = has.holds;
  same = has.same;
  copied = λ holds quiet other held. elim (has.copied holds quiet other held) [
    | inl before ↦ inl before
    | inr came ↦ inr (inr came.0, came.1)
  ];
}

-- a page's place that is read where a block is fetched is that of its own page
fetched_page : (geometry : GeometryView) (page other : ℕ) → IsFetchPlace geometry page (node_place 0 other) → other ≡ page
fetched_page geometry page other (inl same) = let e : other ≡ page = cc in e
fetched_page geometry page other (inr from) = absurd (not_from_one geometry other (node_place 0 other) refl from)

module _ {T : Type 0} (d n : T → List ℕ → List ℕ) (page : ℕ) (counters counters' : CountersView) (old new : BusHistory) (engine engine' : TagEngineView T)
    (stop : Option MemStop) (has : Has (tags_of d n) (IsFetchPlace counters.tree.geometry page) counters old engine counters' new engine' stop) where
  -- the pages that have a copy
  pub has_pages : AreBlocks counters'.tree.geometry counters'.blocks → HoldsCounters (tags_of d n) counters old engine →
      engine'.evidence ≡ None → (other : ℕ) → Contains (cached_pages counters') other →
      Contains (cached_pages counters) other ⊎ ((other ≡ page) × CameFrom engine.made old new page)
  has_pages are holds quiet other cached = elim (has.copied holds quiet other (cached_held counters' other are.cache cached)) [
    | inl held ↦ inl (held_cached counters other held)
    | inr came ↦
        let is : other ≡ page = fetched_page counters.tree.geometry page other came.0 in
        inr (is, subst (λ (p : ℕ). CameFrom engine.made old new p) is came.1)
  ]

zero_more : (lower : ℕ) → 0 + lower ≡ lower
zero_more lower = omega arith

-- The path of a page is what is read up from its own node.
path_up : (tree : TreeView) (made : List Message) (page : ℕ) (old new : BusHistory) → PathWasRead tree made 0 page old new →
    WasReadUp tree made 0 page old new
path_up tree made page old new path = record {
  rose = λ more inside none.
      subst (λ (k : ℕ). NodeCame made k (above tree.geometry page more) old new) (sym (zero_more more))
      (path.rose more (omega arith) (omega (arith, inside))
      (λ lower from_zero few. ap (λ (k : ℕ). cached_node tree k (above tree.geometry page lower)) (sym (zero_more lower)) ∙ none lower few));
}

up_path : (tree : TreeView) (made : List Message) (page : ℕ) (old new : BusHistory) → WasReadUp tree made 0 page old new →
    PathWasRead tree made 0 page old new
up_path tree made page old new up = record {
  rose = λ level low high none.
      subst (λ (k : ℕ). NodeCame made k (above tree.geometry page level) old new) (zero_more level)
      (up.rose level (omega (arith, high))
      (λ lower few. ap (λ (k : ℕ). cached_node tree k (above tree.geometry page lower)) (zero_more lower) ∙ none lower (omega arith) few));
}

-- it was read, also where a call came between that brought nodes in
pub path_on : (tree mid : TreeView) (page : ℕ) (made made' : List Message) (first second third : BusHistory) → mid.geometry ≡ tree.geometry →
    ((place : Place) → RoseBy 0 (first.reads place) (second.reads place)) → ((place : Place) → RoseBy 0 (second.reads place) (third.reads place)) →
    ((level index : ℕ) → cached_node mid level index ≢ None → WasReadUp tree made level index first second) →
    ((level index : ℕ) → last_node level index made' ≡ None → last_node level index made ≡ None) →
    PathWasRead mid made' 0 page second third → PathWasRead tree made 0 page first third
path_on tree mid page made made' first second third geometry before after read unmade path =
    up_path tree made page first third
    (read_up_on tree mid made made' 0 page first second third geometry before after unmade read (path_up mid made' page second third path))

-- level 0 has no copies in the tree
pub no_copy_below : (tree : TreeView) (lower page : ℕ) → lower ≤ 0 → cached_node tree lower (path_index tree.geometry lower page) ≡ None
no_copy_below tree lower page few =
    let first : 0 ≡ lower = omega arith in
    subst (λ (k : ℕ). cached_node tree k (path_index tree.geometry k page) ≡ None) first refl
