-- Calls that read and write nodes of a level and of those above it, one after another.
use Rattle.std.proofs.Common.{◌≡◌, ◌≢◌, ◌⊎◌, inl, inr, ℕ, zero, suc, ◌+◌, ◌-◌, ◌*◌, ◌/◌, ◌^◌, ◌<◌, ◌≤◌, List, ◌++◌, length, Option, Some, None, refl, ap, sym, ◌∙◌, subst, arith, length-append}
use Rattle.std.proofs.lemmas.Bool.{cases_lt}
use Rattle.std.proofs.lemmas.Grind.{pow_more}
use Rattle.std.proofs.lemmas.Nat.{pow-add}
use Rattle.std.proofs.Math.Nat.{div-div-eq-div-mul, pow-zero}
use Rattle.sec_base.specs.Count.{Rose, RoseBy}
use Rattle.sec_base.specs.Evidence.{evidence_place}
use Rattle.sec_base.specs.Geometry.{GeometryView, arity}
use Rattle.sec_base.specs.LastMessage.{last_node, node_part}
use Rattle.sec_base.specs.declared.evidence.Evidence.{Evidence}
use Rattle.sec_base.specs.declared.message.Message.{Message}
use Rattle.sec_base.specs.declared.place.Place.{Place}
use Rattle.sec_base.specs.declared.place.Place.TheVariants.{Node as node_place}
use Rattle.sec_base.specs.declared.stop.MemStop.{MemStop}
use Rattle.sec_base.specs.declared.stop.MemStop.TheVariants.{NoMemory}
use Rattle.sec_base.proofs.LastMessages.{none_front}
use Rattle.sec_base.proofs.Results.{was_none, some_or_none}
use Rattle.bus_model.specs.BusHistory.{BusHistory}
use Rattle.tag_engine.specs.TagEngine.{TagEngineView, tags_of}
use Rattle.checked_bus.specs.Steps.{IsAccounted, Moves}
use Rattle.checked_bus.proofs.CheckedReads.{ended_accounted}
use Rattle.checked_bus.proofs.Steps.{moves_not, moves_on, same_lines_not, same_lines_on}
use Rattle.bonsai_tree.specs.Climb.{Climbs}
use Rattle.bonsai_tree.specs.Node.{CachedNode}
use Rattle.bonsai_tree.specs.NodeCache.{AreNodeCaches, level_cache}
use Rattle.bonsai_tree.specs.Tree.{CameUnlessHeld, HoldsTree, IsNodeFrom, NodeCame, NodesAreMade, NodesHoldLast, SlotsAreTags, TreeView, WasReadUp, above, cached_node}
use Rattle.bonsai_tree.proofs.Nodes.{above_none, same_tags, some_not_none}

-- Which nodes were read

pub copy_or_not : (found : Option CachedNode) → (found ≡ None) ⊎ (found ≢ None)
copy_or_not None = inl refl
copy_or_not (Some copy) = inr (λ (none : Some copy ≡ None). cc)

-- the nodes from a node up have no copy, up to so many levels above it
abbrev pub HasNoneUp : TreeView → ℕ → ℕ → ℕ → Type 0
HasNoneUp tree level index more = (lower : ℕ) → lower ≤ more → cached_node tree (level + lower) (above tree.geometry index lower) ≡ None

-- the lowest one that has a copy, or none
pub record LowestCopy (tree : TreeView) (level index more : ℕ) : Type 0 where
  pub lower : ℕ
  pub within : lower ≤ more
  pub copied : cached_node tree (level + lower) (above tree.geometry index lower) ≢ None

pub above_one : (geometry : GeometryView) (index : ℕ) → above geometry index 1 ≡ index / arity geometry
above_one geometry index =
    ap (λ (n : ℕ). index / n) (pow_more (arity geometry) 0 ∙ ap (λ (n : ℕ). n * arity geometry) (pow-zero (arity geometry)) ∙ (omega arith))

pub find_copy : (tree : TreeView) (level index more : ℕ) → HasNoneUp tree level index more ⊎ LowestCopy tree level index more
find_copy tree level index zero =
    elim (copy_or_not (cached_node tree (level + 0) (above tree.geometry index 0))) [
      | inl none ↦ inl (λ lower few. let first : 0 ≡ lower = omega arith in
          subst (λ (k : ℕ). cached_node tree (level + k) (above tree.geometry index k) ≡ None) first none)
      | inr some ↦ inr (record { lower = 0; within = omega arith; copied = some })
    ]
find_copy tree level index (suc more) =
    elim (find_copy tree level index more) [
      | inr found ↦ inr (record { lower = found.lower; within = omega (arith, found.within); copied = found.copied })
      | inl none ↦ elim (copy_or_not (cached_node tree (level + suc more) (above tree.geometry index (suc more)))) [
        | inr some ↦ inr (record { lower = suc more; within = omega arith; copied = some })
        | inl last ↦ inl (λ lower few. elim (cases_lt lower (suc more)) [
          | inl less ↦ none lower (omega arith)
          | inr here ↦ let same : suc more ≡ lower = omega arith in
              subst (λ (k : ℕ). cached_node tree (level + k) (above tree.geometry index k) ≡ None) same last
        ])
      ]
    ]

pub above_on : (geometry : GeometryView) (index lower more : ℕ) → above geometry (above geometry index lower) more ≡ above geometry index (lower + more)
above_on geometry index lower more =
    div-div-eq-div-mul index (arity geometry ^ lower) (arity geometry ^ more) ∙ sym (ap (λ (n : ℕ). index / n) (pow-add (arity geometry) lower more))

-- a node that was never made by more messages was never made before
pub unmade_before : (made made' more : List Message) → made' ≡ made ++ more → (level index : ℕ) → last_node level index made' ≡ None →
    last_node level index made ≡ None
unmade_before made made' more is level index none =
    none_front (node_part level index) made more (subst (λ (m : List Message). last_node level index m ≡ None) is none)

-- what came, came by a call before others, and by one after others
pub came_before : (made : List Message) (level index : ℕ) (first second third : BusHistory) →
    ((place : Place) → RoseBy 0 (second.reads place) (third.reads place)) → NodeCame made level index first second → NodeCame made level index first third
came_before made level index first second third after (inl none) = inl none
came_before made level index first second third after (inr rose) = inr (omega (arith, rose, after (node_place level index)))

pub came_after : (made made' : List Message) (level index : ℕ) (first second third : BusHistory) →
    ((place : Place) → RoseBy 0 (first.reads place) (second.reads place)) →
    (last_node level index made' ≡ None → last_node level index made ≡ None) → NodeCame made' level index second third →
    NodeCame made level index first third
came_after made made' level index first second third before unmade (inl none) = inl (unmade none)
came_after made made' level index first second third before unmade (inr rose) = inr (omega (arith, rose, before (node_place level index)))

-- what has a copy came by two calls, unless it was held over both
pub unless_held_on : (tree mid tree' : TreeView) (made made' made'' : List Message) (first second third : BusHistory) →
    ((place : Place) → RoseBy 0 (first.reads place) (second.reads place)) → ((place : Place) → RoseBy 0 (second.reads place) (third.reads place)) →
    CameUnlessHeld tree first made mid second made' → CameUnlessHeld mid second made' tree' third made'' → CameUnlessHeld tree first made tree' third made''
unless_held_on tree mid tree' made made' made'' first second third before after came more = λ level index held.
    elim (more level index held) [
      | inr late ↦ elim late [
        | inl none ↦ inr (inl none)
        | inr rose ↦ inr (inr (omega (arith, rose, before (node_place level index))))
      ]
      | inl was ↦ elim (came level index was.0) [
        | inl first_held ↦ inl (first_held.0, was.1 ∙ first_held.1)
        | inr early ↦ elim early [
          | inl none ↦ inr (inl (was.1 ∙ none))
          | inr rose ↦ inr (inr (omega (arith, rose, after (node_place level index))))
        ]
      ]
    ]

pub read_up_on : (tree mid : TreeView) (made made' : List Message) (level index : ℕ) (first second third : BusHistory) → mid.geometry ≡ tree.geometry →
    ((place : Place) → RoseBy 0 (first.reads place) (second.reads place)) → ((place : Place) → RoseBy 0 (second.reads place) (third.reads place)) →
    ((at_level at : ℕ) → last_node at_level at made' ≡ None → last_node at_level at made ≡ None) →
    ((at_level at : ℕ) → cached_node mid at_level at ≢ None → WasReadUp tree made at_level at first second) →
    WasReadUp mid made' level index second third → WasReadUp tree made level index first third
read_up_on tree mid made made' level index first second third geometry before after unmade read more_read = record {
  rose = λ more inside none.
      let same : TreeView = record { geometry = tree.geometry; root = mid.root; caches = mid.caches } in
      let same_read : WasReadUp same made' level index second third =
      subst (λ (k : GeometryView). WasReadUp (record { geometry = k; root = mid.root; caches = mid.caches }) made' level index second third) geometry
      (record { rose = more_read.rose }) in
      elim (find_copy same level index more) [
        | inl none_mid ↦
            came_after made made' (level + more) (above tree.geometry index more) first second third before (unmade (level + more) (above tree.geometry index more))
            (same_read.rose more inside none_mid)
        | inr found ↦
            let back : found.lower + (more - found.lower) ≡ more = omega (arith, found.within) in
            let level_is : level + found.lower + (more - found.lower) ≡ level + more = omega (arith, found.within) in
            let index_is : above tree.geometry (above tree.geometry index found.lower) (more - found.lower) ≡ above tree.geometry index more =
            above_on tree.geometry index found.lower (more - found.lower) ∙ ap (λ (k : ℕ). above tree.geometry index k) back in
            let up : WasReadUp tree made (level + found.lower) (above tree.geometry index found.lower) first second =
            read (level + found.lower) (above tree.geometry index found.lower) found.copied in
            let none_up : (lower : ℕ) → lower ≤ more - found.lower →
            cached_node tree (level + found.lower + lower) (above tree.geometry (above tree.geometry index found.lower) lower) ≡ None =
            λ lower few.
            let sum : level + found.lower + lower ≡ level + (found.lower + lower) = omega arith in
            ap (λ (k : ℕ). cached_node tree k (above tree.geometry (above tree.geometry index found.lower) lower)) sum
            ∙ ap (λ (i : ℕ). cached_node tree (level + (found.lower + lower)) i) (above_on tree.geometry index found.lower lower)
            ∙ none (found.lower + lower) (omega (arith, found.within)) in
            let came : NodeCame made (level + found.lower + (more - found.lower)) (above tree.geometry (above tree.geometry index found.lower) (more - found.lower)) first second =
            up.rose (more - found.lower) (omega (arith, level_is)) none_up in
            let here : NodeCame made (level + more) (above tree.geometry index more) first second =
            subst (λ (k : ℕ). NodeCame made k (above tree.geometry index more) first second) level_is
            (subst (λ (i : ℕ). NodeCame made (level + found.lower + (more - found.lower)) i first second) index_is came) in
            came_before made (level + more) (above tree.geometry index more) first second third after here
      ];
}

-- a node that had a copy
pub read_up_held : (tree : TreeView) (made : List Message) (level index : ℕ) (old new : BusHistory) → cached_node tree level index ≢ None →
    WasReadUp tree made level index old new
read_up_held tree made level index old new held = record {
  rose = λ more inside none.
      let first : cached_node tree (level + 0) (above tree.geometry index 0) ≡ None = none 0 (omega arith) in
      let level_is : level + 0 ≡ level = omega arith in
      let here : cached_node tree level index ≡ None =
      sym (ap (λ (k : ℕ). cached_node tree k (above tree.geometry index 0)) level_is
      ∙ ap (λ (i : ℕ). cached_node tree level i) (above_none tree.geometry index)) ∙ first in
      absurd (held here);
}

-- a place of a node so far up
node_up : (geometry : GeometryView) (from more_from : ℕ) (place : Place) → from ≤ more_from → IsNodeFrom geometry more_from place → IsNodeFrom geometry from place
node_up geometry from more_from place up is = record {
  level = is.level;
  index = is.index;
  node = is.node;
  above = omega (arith, is.above);
  place_is = is.place_is;
}

module _ {T : Type 0} (d n : T → List ℕ → List ℕ) where
  -- copies alone changed
  pub climbs_recached : {from : ℕ} {tree tree' : TreeView} {history : BusHistory} {engine : TagEngineView T} → tree'.geometry ≡ tree.geometry → tree'.root ≡ tree.root →
      (AreNodeCaches tree.geometry tree.caches → AreNodeCaches tree'.geometry tree'.caches) →
      ((level : ℕ) → level < from → level_cache tree'.caches level ≡ level_cache tree.caches level) →
      (HoldsTree (tags_of d n) tree history engine → HoldsTree (tags_of d n) tree' history engine) →
      ((level index : ℕ) → cached_node tree' level index ≢ None → cached_node tree level index ≢ None) →
      Climbs (tags_of d n) from tree history engine tree' history engine None
  climbs_recached {from} {tree} {tree'} {history} {engine} geometry root nodes copies holds held = record {
    moves = moves_not history engine;
    lines = same_lines_not history engine.made;
    geometry = geometry;
    root = root;
    nodes = nodes;
    copies = copies;
    last = λ level index low. refl;
    blocks = λ level low. refl;
    written = λ level index low. refl;
    reads = λ level index low. refl;
    holds = λ was remembered. holds was;
    honest = λ was used accounted. accounted;
    lied = λ was quiet place is. absurd (cc);
    shown = λ was quiet some. absurd (some quiet);
    tampered = λ place is. absurd (cc);
    found = λ quiet evidence is. absurd (cc);
    unspent = λ spent is. absurd (cc);
    room = omega arith;
    no_rise = omega arith;
    made_blocks = λ was. was;
    last_blocks = λ remembered was. was;
    slots = λ was quiet tagged. tagged;
    read = λ was quiet level index copied. read_up_held tree engine.made level index history history (held level index copied);
    unread = λ was quiet level index none. refl;
  }

  -- nothing was done
  pub climbs_not : {from : ℕ} {tree : TreeView} {history : BusHistory} {engine : TagEngineView T} → Climbs (tags_of d n) from tree history engine tree history engine None
  climbs_not {from} {tree} {history} {engine} =
      climbs_recached refl refl (λ are. are) (λ level low. refl) (λ was. was) (λ level index held. held)

  -- nor where there was no memory
  pub climbs_refused : {from : ℕ} {tree : TreeView} {history : BusHistory} {engine : TagEngineView T} → Climbs (tags_of d n) from tree history engine tree history engine (Some NoMemory)
  climbs_refused {from} {tree} {history} {engine} = record {
    moves = moves_not history engine;
    lines = same_lines_not history engine.made;
    geometry = refl;
    root = refl;
    nodes = λ are. are;
    copies = λ level low. refl;
    last = λ level index low. refl;
    blocks = λ level low. refl;
    written = λ level index low. refl;
    reads = λ level index low. refl;
    holds = λ holds remembered. absurd (remembered refl);
    honest = λ holds used was. ended_accounted (tags_of d n engine) used engine.made history NoMemory engine.evidence (λ place is. cc) was;
    lied = λ holds quiet place is. absurd (cc);
    shown = λ holds quiet some. absurd (some quiet);
    tampered = λ place is. absurd (cc);
    found = λ quiet evidence is. absurd (cc);
    unspent = λ spent is. absurd (cc);
    room = omega arith;
    no_rise = omega arith;
    made_blocks = λ was. was;
    last_blocks = λ remembered was. absurd (remembered refl);
    slots = λ was quiet tagged. tagged;
    read = λ holds quiet level index held. read_up_held tree engine.made level index history history held;
    unread = λ holds quiet level index none. refl;
  }

  -- and of a level above
  pub climbs_up : {from more_from : ℕ} {tree tree' : TreeView} {old new : BusHistory} {engine engine' : TagEngineView T} {stop : Option MemStop} → from ≤ more_from →
      Climbs (tags_of d n) more_from tree old engine tree' new engine' stop → Climbs (tags_of d n) from tree old engine tree' new engine' stop
  climbs_up {from} {more_from} {tree} {tree'} {old} {new} {engine} {engine'} {stop} up climbs = record {
    moves = climbs.moves;
    lines = climbs.lines;
    geometry = climbs.geometry;
    root = climbs.root;
    nodes = climbs.nodes;
    copies = λ level low. climbs.copies level (omega arith);
    last = λ level index low. climbs.last level index (omega arith);
    blocks = λ level low. climbs.blocks level (omega arith);
    written = λ level index low. climbs.written level index (omega arith);
    reads = λ level index low. climbs.reads level index (omega arith);
    holds = climbs.holds;
    honest = climbs.honest;
    lied = climbs.lied;
    shown = climbs.shown;
    tampered = λ place is. node_up tree.geometry from more_from place up (climbs.tampered place is);
    found = λ quiet evidence is. node_up tree.geometry from more_from (evidence_place evidence) up (climbs.found quiet evidence is);
    unspent = climbs.unspent;
    room = climbs.room;
    no_rise = climbs.no_rise;
    made_blocks = climbs.made_blocks;
    last_blocks = climbs.last_blocks;
    slots = climbs.slots;
    read = climbs.read;
    unread = climbs.unread;
  }

  -- one call after another
  pub climbs_on : {from : ℕ} {tree mid tree' : TreeView} {first second third : BusHistory} {engine engine' engine'' : TagEngineView T} {stop : Option MemStop} → Climbs (tags_of d n) from tree first engine mid second engine' None → Climbs (tags_of d n) from mid second engine' tree' third engine'' stop →
      Climbs (tags_of d n) from tree first engine tree' third engine'' stop
  climbs_on {from} {tree} {mid} {tree'} {first} {second} {third} {engine} {engine'} {engine''} {stop} climbs more =
      let tags : tags_of d n engine' ≡ tags_of d n engine = same_tags d n first second engine engine' climbs.moves in
      let moves : Moves first engine third engine'' = moves_on first second third engine engine' engine'' climbs.moves more.moves in
      let long : length moves.more ≡ length climbs.moves.more + length more.moves.more =
      omega (
        arith,
        ap length moves.made,
        ap length climbs.moves.made,
        ap length more.moves.made,
        length-append engine.made moves.more,
        length-append engine.made climbs.moves.more,
        length-append engine'.made more.moves.more,
      ) in
      let going : None ≢ Some NoMemory = λ (e : None ≡ Some NoMemory). cc in
      record {
        moves = moves;
        lines = same_lines_on first second third engine.made engine'.made engine''.made climbs.lines more.lines;
        geometry = more.geometry ∙ climbs.geometry;
        root = more.root ∙ climbs.root;
        nodes = λ are. more.nodes (climbs.nodes are);
        copies = λ level low. more.copies level low ∙ climbs.copies level low;
        last = λ level index low. more.last level index low ∙ climbs.last level index low;
        blocks = λ level low. more.blocks level low ∙ climbs.blocks level low;
        written = λ level index low. more.written level index low ∙ climbs.written level index low;
        reads = λ level index low. more.reads level index low ∙ climbs.reads level index low;
        holds = λ holds remembered. more.holds (climbs.holds holds going) remembered;
        honest = λ holds used was.
            subst (λ (t : Message → List ℕ). IsAccounted t used engine''.made third stop engine''.evidence) tags
            (more.honest (climbs.holds holds going) used
            (subst (λ (t : Message → List ℕ). IsAccounted t used engine'.made second None engine'.evidence) (sym tags) (climbs.honest holds used was)));
        lied = λ holds quiet place is.
            elim (some_or_none engine'.evidence) [
              | inl still ↦
                  let rose : Rose second.lies third.lies = more.lied (climbs.holds holds going) still place is in
                  omega (arith, rose, climbs.moves.lies)
              | inr shown ↦
                  let rose : Rose first.lies second.lies = climbs.shown holds quiet (some_not_none engine'.evidence shown.0 shown.1) in
                  omega (arith, rose, more.moves.lies)
            ];
        shown = λ holds quiet some.
            elim (some_or_none engine'.evidence) [
              | inl still ↦
                  let rose : Rose second.lies third.lies = more.shown (climbs.holds holds going) still some in
                  omega (arith, rose, climbs.moves.lies)
              | inr shown ↦
                  let rose : Rose first.lies second.lies = climbs.shown holds quiet (some_not_none engine'.evidence shown.0 shown.1) in
                  omega (arith, rose, more.moves.lies)
            ];
        tampered = λ place is. subst (λ (k : GeometryView). IsNodeFrom k from place) climbs.geometry (more.tampered place is);
        found = λ quiet evidence is.
            elim (some_or_none engine'.evidence) [
              | inl still ↦ subst (λ (k : GeometryView). IsNodeFrom k from (evidence_place evidence)) climbs.geometry (more.found still evidence is)
              | inr shown ↦
                  let kept : engine''.evidence ≡ Some shown.0 = more.moves.evidence shown.0 shown.1 in
                  let same : shown.0 ≡ evidence = cc in
                  subst (λ (e : Evidence). IsNodeFrom tree.geometry from (evidence_place e)) same (climbs.found quiet shown.0 shown.1)
            ];
        unspent = more.unspent;
        room = omega (arith, climbs.room, more.room, long);
        no_rise = omega (arith, climbs.no_rise, more.no_rise);
        made_blocks = λ was.
            subst (λ (k : GeometryView). NodesAreMade k engine''.made third.written) climbs.geometry
            (more.made_blocks (subst (λ (k : GeometryView). NodesAreMade k engine'.made second.written) (sym climbs.geometry) (climbs.made_blocks was)));
        last_blocks = λ remembered was.
            subst (λ (k : GeometryView). NodesHoldLast k engine''.made third.written) climbs.geometry
            (more.last_blocks remembered (subst (λ (k : GeometryView). NodesHoldLast k engine'.made second.written) (sym climbs.geometry) (climbs.last_blocks going was)));
        slots = λ holds quiet tagged.
            let still : engine'.evidence ≡ None = was_none engine'.evidence engine''.evidence more.moves.evidence quiet in
            subst (λ (t : Message → List ℕ). SlotsAreTags t tree.geometry engine''.made) tags
            (subst (λ (k : GeometryView). SlotsAreTags (tags_of d n engine') k engine''.made) climbs.geometry
            (more.slots (climbs.holds holds going) quiet
            (subst (λ (k : GeometryView). SlotsAreTags (tags_of d n engine') k engine'.made) (sym climbs.geometry)
            (subst (λ (t : Message → List ℕ). SlotsAreTags t tree.geometry engine'.made) (sym tags) (climbs.slots holds still tagged)))));
        read = λ holds quiet level index held.
            let still : engine'.evidence ≡ None = was_none engine'.evidence engine''.evidence more.moves.evidence quiet in
            read_up_on tree mid engine.made engine'.made level index first second third climbs.geometry climbs.moves.reads more.moves.reads
            (unmade_before engine.made engine'.made climbs.moves.more climbs.moves.made) (climbs.read holds still)
            (more.read (climbs.holds holds going) quiet level index held);
        unread = λ holds quiet level index none.
            let still : engine'.evidence ≡ None = was_none engine'.evidence engine''.evidence more.moves.evidence quiet in
            more.unread (climbs.holds holds going) quiet level index none
            ∙ climbs.unread holds still level index (unmade_before engine'.made engine''.made more.moves.more more.moves.made level index none);
      }
