-- What a fetch and an update come to.
use Rattle.std.proofs.Common.{◌≡◌, ◌≢◌, ◌⊎◌, inl, inr, ℕ, ◌+◌, ◌-◌, ◌/◌, ◌^◌, ◌<◌, ◌≤◌, List, length, Option, Some, None, Result, Ok, Err, refl, ap, sym, ◌∙◌, subst, arith, length-append}
use Rattle.std.specs.Prelude.{IfOk, OnOk}
use Rattle.std.specs.Result.{result_err}
use Rattle.std.proofs.lemmas.Bool.{cases_lt}
use Rattle.std.proofs.Math.Nat.{pow-le-pow_right}
use Rattle.sec_base.specs.Count.{RoseBy, more_by}
use Rattle.sec_base.specs.Evidence.{evidence_place}
use Rattle.sec_base.specs.Geometry.{GeometryView, IsNode, arity, page_count}
use Rattle.sec_base.specs.LastMessage.{last_node}
use Rattle.sec_base.specs.declared.evidence.Evidence.{Evidence}
use Rattle.sec_base.specs.declared.evidence.Evidence.TheVariants.{Collision}
use Rattle.sec_base.specs.declared.message.Message.{Message}
use Rattle.sec_base.specs.declared.message.Message.TheVariants.{Node}
use Rattle.sec_base.specs.declared.place.Place.{Place}
use Rattle.sec_base.specs.declared.place.Place.TheVariants.{Node as node_place}
use Rattle.sec_base.specs.declared.stop.MemStop.{MemStop}
use Rattle.sec_base.specs.declared.stop.MemStop.TheVariants.{NoMemory}
use Rattle.sec_base.proofs.Results.{was_none, some_or_none}
use Rattle.bus_model.specs.BusHistory.{BusHistory}
use Rattle.tag_engine.specs.TagEngine.{TagEngineView, tags_of}
use Rattle.tag_engine.proofs.Marks.{engine_tag_some}
use Rattle.bonsai_tree.specs.Climb.{Climbs}
use Rattle.bonsai_tree.specs.KeptRead.{IsKeptNode, ReadsKept}
use Rattle.bonsai_tree.specs.Node.{block_or_zeros, no_block, no_tag, page_block, path_index}
use Rattle.bonsai_tree.specs.Tree.{TreeView, HoldsTree, IsFetchPlace, IsKept, IsNodeFrom, IsReadByTag, NodeCame, PathWasRead, SamePages, WasReadUp, above, cached_node, kept_tag, path_accesses, present_accesses}
use Rattle.bonsai_tree.proofs.Climbs.{came_after, came_before, climbs_on, climbs_up, unmade_before}
use Rattle.bonsai_tree.proofs.Nodes.{above_none, path_up, same_tags}
use Rattle.bonsai_tree.proofs.NodeCalls.{climbs_read, kept_node}

-- where it is no refusal
pub ok_of : {A P : Type 0} (result : Result A MemStop) → (result_err result ≡ None → P) → OnOk result P
ok_of (Ok value) fact = fact refl
ok_of (Err stop) fact = tt

-- a page's node is not above level 0
pub not_from_one : (geometry : GeometryView) (page : ℕ) (place : Place) → place ≡ node_place 0 page → IsNodeFrom geometry 1 place → ⊥
not_from_one geometry page place is from =
    let same : node_place 0 page ≡ node_place from.level from.index = sym is ∙ from.place_is in
    let level : 0 ≡ from.level = cc in
    omega (arith, level, from.above)

-- a page's node
pub page_node : (geometry : GeometryView) (page : ℕ) → page < page_count geometry → IsNode geometry 0 page
page_node geometry page inside =
    let same : geometry.levels ≡ geometry.levels - 0 = omega arith in
    (omega arith, subst (λ (k : ℕ). page < arity geometry ^ k) same inside)

-- what it takes for the node above a page's, and one more
pub path_more : (levels : ℕ) → present_accesses levels (0 + 1) + 1 ≡ path_accesses levels
path_more levels =
    let exponent : levels + 2 - (0 + 1) ≡ levels + 1 = omega arith in
    let same : 2 ^ (levels + 2 - (0 + 1)) ≡ 2 ^ (levels + 1) = ap (λ (n : ℕ). 2 ^ n) exponent in
    let some : 2 ≤ 2 ^ (levels + 1) = pow-le-pow_right {n = 2} (omega arith) {i = 1} {j = levels + 1} (omega arith) in
    omega (arith, same, some)

-- where a node of level 1 has a copy, the path above it was read
pub path_read : {tree : TreeView} (page from : ℕ) {made : List Message} {old mid : BusHistory} (new : BusHistory) → 1 ≤ from →
    ((place : Place) → RoseBy 0 (mid.reads place) (new.reads place)) →
    WasReadUp tree made 1 (page / arity tree.geometry) old mid → (level : ℕ) → from ≤ level → level ≤ tree.geometry.levels →
    ((lower : ℕ) → 1 ≤ lower → lower ≤ level → cached_node tree lower (path_index tree.geometry lower page) ≡ None) →
    NodeCame made level (path_index tree.geometry level page) old new
path_read {tree} page from {made} {old} {mid} new some stays up level low high none =
    let level_is : level ≡ 1 + (level - 1) = omega (arith, low, some) in
    let index_is : path_index tree.geometry level page ≡ above tree.geometry (page / arity tree.geometry) (level - 1) = path_up tree.geometry page level (level - 1) level_is in
    let came : NodeCame made (1 + (level - 1)) (above tree.geometry (page / arity tree.geometry) (level - 1)) old mid =
    up.rose (level - 1) (omega (arith, high, low, some)) (λ lower few.
    ap (λ (i : ℕ). cached_node tree (1 + lower) i) (sym (path_up tree.geometry page (1 + lower) lower refl))
    ∙ none (1 + lower) (omega arith) (omega (arith, few, low, some))) in
    came_before made level (path_index tree.geometry level page) old mid new stays
    (subst (λ (k : ℕ). NodeCame made k (path_index tree.geometry level page) old mid) (sym level_is)
    (subst (λ (i : ℕ). NodeCame made (1 + (level - 1)) i old mid) (sym index_is) came))

module _ {T : Type 0} (d n : T → List ℕ → List ℕ) where
  pub climb_room : {from : ℕ} (cost : ℕ) {tree tree' : TreeView} {old new : BusHistory} {engine engine' : TagEngineView T} {stop : Option MemStop} → Climbs (tags_of d n) from tree old engine tree' new engine' stop → length engine'.made ≤ length engine.made + cost → engine.room ≤ engine'.room + cost
  climb_room {from} cost {tree} {tree'} {old} {new} {engine} {engine'} {stop} climbs few =
      omega (arith, climbs.room, ap length climbs.moves.made, length-append engine.made climbs.moves.more, few)

  -- A fetch: the node above the page's is had, and then the page's own is read
  module _ {tree tree' : TreeView} {page : ℕ} {tag : List ℕ} {old mid new : BusHistory} {engine engine' engine'' : TagEngineView T}
      {result : Result (List ℕ) MemStop} (node : IsNode tree.geometry 0 page) (climbs : Climbs (tags_of d n) (0 + 1) tree old engine tree' mid engine' None)
      (is_tag : (made : List Message) → tag ≡ kept_tag tree' made 0 page) (read : ReadsKept (tags_of d n) 0 page tag mid engine' new engine'' result) where
    node_here : IsNode tree'.geometry 0 page
    node_here = subst (λ (k : GeometryView). IsNode k 0 page) (sym climbs.geometry) node

    last_read : Climbs (tags_of d n) 0 tree' mid engine' tree' new engine'' (result_err result)
    last_read = climbs_read d n tree' node_here (is_tag engine'.made) read

    pub fetched : Climbs (tags_of d n) 0 tree old engine tree' new engine'' (result_err result)
    fetched = climbs_on d n (climbs_up d n (omega arith) climbs) last_read

    pub fetched_pages : SamePages old engine.made new engine''.made
    fetched_pages = record {
      last = λ at. ap (λ (made : List Message). last_node 0 at made) read.made ∙ climbs.last 0 at (omega arith);
      written = λ at. ap (λ (w : Place → List ℕ). w (node_place 0 at)) read.written ∙ climbs.written 0 at (omega arith);
    }

    still_quiet : engine''.evidence ≡ None → engine'.evidence ≡ None
    still_quiet quiet = was_none engine'.evidence engine''.evidence read.moves.evidence quiet

    holds_mid : HoldsTree (tags_of d n) tree old engine → HoldsTree (tags_of d n) tree' mid engine'
    holds_mid holds = climbs.holds holds (λ (e : None ≡ Some NoMemory). cc)

    fetched_kept : HoldsTree (tags_of d n) tree old engine → engine''.evidence ≡ None → IsKeptNode (tags_of d n engine') engine'.made mid.written 0 page tag
    fetched_kept holds quiet = kept_node d n tree' node_here (is_tag engine'.made) read (holds_mid holds) (still_quiet quiet)

    block_by : (answer : Result (List ℕ) MemStop) → IfOk answer (λ block. block ≡ block_or_zeros (last_node 0 page engine'.made)) →
        IfOk answer (λ block. block ≡ page_block page engine.made)
    block_by (Ok block) is = is ∙ ap (λ (o : Option (List ℕ)). block_or_zeros o) (climbs.last 0 page (omega arith))
    block_by (Err stop) is = tt

    pub fetched_block : HoldsTree (tags_of d n) tree old engine → engine''.evidence ≡ None → IfOk result (λ block. block ≡ page_block page engine.made)
    fetched_block holds quiet = block_by result (read.block (fetched_kept holds quiet) quiet)

    pub fetched_found : engine.evidence ≡ None → (evidence : Evidence) → engine''.evidence ≡ Some evidence → IsFetchPlace tree.geometry page (evidence_place evidence)
    fetched_found quiet evidence is =
        elim (some_or_none engine'.evidence) [
          | inl still ↦ inl (read.found evidence still is)
          | inr shown ↦
              let kept : engine''.evidence ≡ Some shown.0 = read.moves.evidence shown.0 shown.1 in
              let same : shown.0 ≡ evidence = cc in
              inr (subst (λ (e : Evidence). IsNodeFrom tree.geometry 1 (evidence_place e)) same (climbs.found quiet shown.0 shown.1))
        ]

    pub fetched_accepted : (made_at : ℕ) (bytes under : List ℕ) → engine.evidence ≡ None →
        engine''.evidence ≡ Some (Collision 0 page made_at bytes under) → result ≡ Ok bytes
    fetched_accepted made_at bytes under quiet is =
        elim (some_or_none engine'.evidence) [
          | inl still ↦ read.accepted made_at bytes under still is
          | inr shown ↦
              let kept : engine''.evidence ≡ Some shown.0 = read.moves.evidence shown.0 shown.1 in
              let same : Collision 0 page made_at bytes under ≡ shown.0 = cc in
              absurd (not_from_one tree.geometry page (evidence_place shown.0) (sym (ap evidence_place same)) (climbs.found quiet shown.0 shown.1))
        ]

    kept_by : (answer : Result (List ℕ) MemStop) →
        IfOk answer (λ block. ((tag ≡ no_tag) × (block ≡ no_block)) ⊎ (tags_of d n engine' (Node 0 page block) ≡ tag)) →
        IfOk answer (IsKept (tags_of d n engine) tree' engine''.made 0 page)
    kept_by (Ok block) (inl none) = inl (sym (is_tag engine''.made) ∙ none.0, none.1)
    kept_by (Ok block) (inr tagged) =
        inr (sym (ap (λ (t : Message → List ℕ). t (Node 0 page block)) (same_tags d n old mid engine engine' climbs.moves)) ∙ tagged ∙ is_tag engine''.made)
    kept_by (Err stop) passed = tt

    pub fetched_checked : IfOk result (IsKept (tags_of d n engine) tree' engine''.made 0 page)
    fetched_checked = kept_by result read.checked

    by_kept : (answer : Result (List ℕ) MemStop) → result_err answer ≡ result_err result →
        IfOk answer (λ block. ((tag ≡ no_tag) × (block ≡ no_block)) ⊎ (tags_of d n engine' (Node 0 page block) ≡ tag)) →
        OnOk answer (IsReadByTag (kept_tag tree' engine''.made 0 page) page old new)
    by_kept (Ok block) going (inl none) =
        let idle : new ≡ mid = (read.unasked none.0).0 in
        inl (sym (is_tag engine''.made) ∙ none.0, ap (λ (t : BusHistory). t.reads (node_place 0 page)) idle ∙ climbs.reads 0 page (omega arith))
    by_kept (Ok block) going (inr tagged) =
        let some : tag ≢ no_tag = λ none. engine_tag_some (d engine'.tagger) (n engine'.tagger) engine'.geometry (Node 0 page block) (tagged ∙ none) in
        let remembered : result_err result ≢ Some NoMemory = λ is. let no : None ≡ Some NoMemory = going ∙ is in absurd (cc) in
        inr (λ none. some (is_tag engine''.made ∙ none), read.asked some remembered ∙ ap (more_by 1) (climbs.reads 0 page (omega arith)))
    by_kept (Err stop) going passed = tt

    -- its block is read exactly where a tag is kept of it, and that of no other page
    pub fetched_by_tag : OnOk result (IsReadByTag (kept_tag tree' engine''.made 0 page) page old new)
    fetched_by_tag = by_kept result refl read.checked

    pub fetched_once : new.reads (node_place 0 page) ≤ old.reads (node_place 0 page) + 1
    fetched_once = omega (arith, read.one, climbs.reads 0 page (omega arith))

    pub fetched_alone : (other : ℕ) → other ≢ page → new.reads (node_place 0 other) ≡ old.reads (node_place 0 other)
    fetched_alone other apart = read.alone 0 other (λ same. apart same.1) ∙ climbs.reads 0 other (omega arith)

    pub fetched_read : HoldsTree (tags_of d n) tree old engine → engine''.evidence ≡ None → result_err result ≡ None →
        cached_node tree' 1 (page / arity tree.geometry) ≢ None → PathWasRead tree engine.made 0 page old new
    fetched_read holds quiet going held = record {
      rose = λ level low high none.
          elim (cases_lt 0 level) [
            | inl some ↦ path_read page 1 new (omega arith) read.moves.reads
                (climbs.read holds (still_quiet quiet) 1 (page / arity tree.geometry) held) level (omega (arith, some)) high
                (λ lower above_none_lower few. none lower (omega arith) few)
            | inr first ↦
                let zero_is : 0 ≡ level = omega (arith, first) in
                let index_is : page ≡ path_index tree.geometry 0 page = sym (above_none tree.geometry page) in
                let remembered : result_err result ≢ Some NoMemory = λ (e : result_err result ≡ Some NoMemory). cc in
                let here : NodeCame engine.made 0 page old new =
                came_after engine.made engine'.made 0 page old mid new climbs.moves.reads
                (unmade_before engine.made engine'.made climbs.moves.more climbs.moves.made 0 page)
                (read.came (fetched_kept holds quiet) remembered) in
                subst (λ (k : ℕ). NodeCame engine.made k (path_index tree.geometry k page) old new) zero_is
                (subst (λ (i : ℕ). NodeCame engine.made 0 i old new) index_is here)
          ];
    }

  -- An update: the node above the page's is had, and then the page's own is written
  pub updated_read : {tree tree' : TreeView} {page : ℕ} {old mid new : BusHistory} {engine engine' : TagEngineView T} (engine'' : TagEngineView T) → Climbs (tags_of d n) (0 + 1) tree old engine tree' mid engine' None → ((place : Place) → RoseBy 0 (mid.reads place) (new.reads place)) →
      engine''.evidence ≡ engine'.evidence → cached_node tree' 1 (page / arity tree.geometry) ≢ None →
      HoldsTree (tags_of d n) tree old engine → engine''.evidence ≡ None → PathWasRead tree engine.made 1 page old new
  updated_read {tree} {tree'} {page} {old} {mid} {new} {engine} {engine'} engine'' climbs stays same held holds quiet = record {
    rose = λ level low high none.
        path_read page 1 new (omega arith) stays (climbs.read holds (sym same ∙ quiet) 1 (page / arity tree.geometry) held) level low high none;
  }
