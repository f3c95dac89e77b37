-- Nodes are written back: which are made, how often, and which copies change, over calls.
use Rattle.std.proofs.Common.{◌≡◌, ◌≢◌, ◌⊎◌, inl, inr, ℕ, zero, suc, ◌+◌, ◌-◌, ◌/◌, ◌<◌, ◌≤◌, Bool, true, false, ◌&&◌, cond, nat_eq, List, [], ◌∷◌, ◌++◌, length, fold, Option, Some, None, refl, ap, sym, ◌∙◌, subst, arith, append_assoc, append-nil, length-append}
use Rattle.std.specs.Prelude.{Contains}
use Rattle.std.specs.Bool.{Decides}
use Rattle.std.specs.List.{cons_option, filter_map}
use Rattle.std.specs.Option.{option_map, option_or}
use Rattle.std.proofs.lemmas.List.Sums.{fold-append}
use Rattle.std.proofs.lemmas.Bool.{cases_lt}
use Rattle.std.proofs.lemmas.Bool.Decides.{Decides-and, Decides-eqb}
use Rattle.std.proofs.lemmas.List.Elements.{Contains-append_cases, Contains-append_left, Contains-append_right, Contains-push, Contains-push_cases, filter_map-append}
use Rattle.sec_base.specs.Count.{Rose, RoseBy}
use Rattle.sec_base.specs.Geometry.{GeometryView, arity, parent}
use Rattle.sec_base.specs.LastMessage.{after_item, last_at, last_node, node_part}
use Rattle.sec_base.specs.declared.message.Message.{Message}
use Rattle.sec_base.specs.declared.message.Message.TheVariants.{Line, Node}
use Rattle.sec_base.specs.declared.place.Place.{Place}
use Rattle.sec_base.specs.declared.place.Place.TheVariants.{Node as node_place}
use Rattle.sec_base.specs.declared.stop.MemStop.{MemStop}
use Rattle.sec_base.specs.declared.stop.MemStop.TheVariants.{Tampered, Spent, NoMemory}
use Rattle.cache_set.specs.declared.way.Way.{Way}
use Rattle.sec_base.proofs.Results.{some_or_none, was_none}
use Rattle.bus_model.specs.BusHistory.{BusHistory}
use Rattle.tag_engine.specs.TagEngine.{TagEngineView, tags_of}
use Rattle.checked_bus.specs.Steps.{Moves, unwritten_in}
use Rattle.bonsai_tree.specs.Climb.{Climbs, IsBlockOf, IsVictim, NoNode, WritesUp}
use Rattle.bonsai_tree.specs.Node.{CachedNode, times_made, unread_count}
use Rattle.bonsai_tree.specs.NodeCache.{copy_of}
use Rattle.bonsai_tree.specs.Tree.{CameUnlessHeld, EndsQuietly, HasChild, IsCopyAfter, IsMarked, NodeCame, TreeView, WritesBack, cached_node}
use Rattle.bonsai_tree.proofs.Climbs.{came_after, came_before, unmade_before}
use Rattle.bonsai_tree.proofs.Nodes.{SameNode, same_or_not}
use Rattle.bonsai_tree.proofs.NodeCalls.{held_copy}
use Rattle.bonsai_tree.proofs.NodeWrites.{part_own}

none_in : (message : Message) → Contains [] message → ⊥
none_in message listed = omega (arith, listed.1)

one_in : (message other : Message) → Contains (other ∷ []) message → other ≡ message
one_in message other listed = elim (Contains-push_cases [] other message listed) [
  | inl before ↦ absurd (none_in message before)
  | inr here ↦ here
]

-- How often nodes were made

none_made : (level index : ℕ) → times_made level index [] ≡ 0
unfolding times_made
none_made level index = refl

one_part : (b : Bool) (block : List ℕ) → length (cons_option (cond b (Some block) None) []) ≤ 1
one_part true block = omega arith
one_part false block = omega arith

one_made : (level index other at : ℕ) (block : List ℕ) → times_made level index (Node other at block ∷ []) ≤ 1
unfolding times_made
one_made level index other at block = one_part (nat_eq other level && nat_eq at index) block

made_on : (level index : ℕ) (front more : List Message) → times_made level index (front ++ more) ≡ times_made level index front + times_made level index more
unfolding times_made
made_on level index front more =
    ap length (filter_map-append (node_part level index) front more)
    ∙ length-append (filter_map (node_part level index) front) (filter_map (node_part level index) more)

-- a message of the node, after others
pub made_more : (level index : ℕ) (block : List ℕ) (made mid made' more : List Message) → mid ≡ made ++ more → made' ≡ mid ++ Node level index block ∷ [] →
    times_made level index made < times_made level index made'
unfolding times_made
made_more level index block made mid made' more adds one =
    let times : List Message → ℕ = λ messages. times_made level index messages in
    let own : times (Node level index block ∷ []) ≡ 1 = ap (λ (part : Option (List ℕ)). length (cons_option part [])) (part_own level index block) in
    omega (arith, ap times adds, made_on level index made more, ap times one, made_on level index mid (Node level index block ∷ []), own)

part_apart : (level index other at : ℕ) (b : Bool) (block : List ℕ) (rest : List (List ℕ)) → Decides b ((other ≡ level) × (at ≡ index)) →
    ¬ ((other ≡ level) × (at ≡ index)) → length (cons_option (cond b (Some block) None) rest) ≡ length rest
part_apart level index other at true block rest tells apart = absurd (apart (tells.0 refl))
part_apart level index other at false block rest tells apart = refl

not_made : (level index : ℕ) (more : List Message) → ((block : List ℕ) → Contains more (Node level index block) → ⊥) → times_made level index more ≡ 0
unfolding times_made
not_made level index [] none = refl
not_made level index (Line line counter cipher ∷ more) none =
    not_made level index more (λ block listed. none block (suc listed.0, omega (arith, listed.1), listed.2))
not_made level index (Node other at bytes ∷ more) none =
    part_apart level index other at (nat_eq other level && nat_eq at index) bytes (filter_map (node_part level index) more)
    (Decides-and (nat_eq other level) (nat_eq at index) (Decides-eqb other level) (Decides-eqb at index))
    (λ same. none bytes (zero, omega arith, ap (λ (k : ℕ). Node k at bytes) same.0 ∙ ap (λ (i : ℕ). Node level i bytes) same.1))
    ∙ not_made level index more (λ block listed. none block (suc listed.0, omega (arith, listed.1), listed.2))

-- The last block of a node that was made, and of one that was not

seen_next : {B : Type 0} (seen : ℕ × Option (ℕ × B)) (part : Option B) (rest : List B) → length (cons_option part rest) ≡ 0 →
    (length rest ≡ 0) × (option_or (option_map (λ (x : B). (seen.0, x)) part) seen.1 ≡ seen.1)
seen_next seen None rest none = (none, refl)
seen_next seen (Some x) rest none = absurd (omega (arith, none))

seen_on : {A B : Type 0} (part : A → Option B) (items : List A) (seen : ℕ × Option (ℕ × B)) → length (filter_map part items) ≡ 0 →
    option_map (λ (p : ℕ × B). p.1) (fold (after_item part) seen items).1 ≡ option_map (λ (p : ℕ × B). p.1) seen.1
seen_on part [] seen none = refl
seen_on {A} {B} part (item ∷ items) seen none =
    let next : (length (filter_map part items) ≡ 0) × (option_or (option_map (λ (x : B). (seen.0, x)) (part item)) seen.1 ≡ seen.1) =
    seen_next seen (part item) (filter_map part items) none in
    seen_on part items (after_item part seen item) next.0 ∙ ap (λ (o : Option (ℕ × B)). option_map (λ (p : ℕ × B). p.1) o) next.1

or_some : {X : Type 0} (a b : Option X) → b ≢ None → option_or a b ≢ None
or_some None b some = some
or_some (Some x) b some = λ none. cc

kept_some : {A B : Type 0} (part : A → Option B) (items : List A) (seen : ℕ × Option (ℕ × B)) → seen.1 ≢ None → (fold (after_item part) seen items).1 ≢ None
kept_some part [] seen some = some
kept_some {A} {B} part (item ∷ items) seen some =
    kept_some part items (after_item part seen item) (or_some (option_map (λ (x : B). (seen.0, x)) (part item)) seen.1 some)

some_on : {A B : Type 0} (part : A → Option B) (items : List A) (seen : ℕ × Option (ℕ × B)) → 0 < length (filter_map part items) →
    (fold (after_item part) seen items).1 ≢ None
some_on part [] seen some = absurd (omega (arith, some))
some_on {A} {B} part (item ∷ items) seen some =
    elim (some_or_none (part item)) [
      | inl none ↦ some_on part items (after_item part seen item) (subst (λ (p : Option B). 0 < length (cons_option p (filter_map part items))) none some)
      | inr is ↦ kept_some part items (after_item part seen item) (λ nothing.
          let here : Some (seen.0, is.0) ≡ None = ap (λ (p : Option B). option_or (option_map (λ (x : B). (seen.0, x)) p) seen.1) (sym is.1) ∙ nothing in
          absurd (cc))
    ]

mapped_none : (found : Option (ℕ × List ℕ)) → option_map (λ (p : ℕ × List ℕ). p.1) found ≡ None → found ≡ None
mapped_none None none = refl
mapped_none (Some x) none = absurd (cc)

unmade_last : (level index : ℕ) (made made' more : List Message) → made' ≡ made ++ more → times_made level index more ≡ 0 →
    last_node level index made' ≡ last_node level index made
unfolding times_made last_at
unmade_last level index made made' more adds none =
    let start : ℕ × Option (ℕ × List ℕ) = (0, None) in
    ap (λ (m : List Message). last_node level index m) adds
    ∙ ap (λ (seen : ℕ × Option (ℕ × List ℕ)). option_map (λ (p : ℕ × List ℕ). p.1) seen.1) (fold-append (after_item (node_part level index)) start made more)
    ∙ seen_on (node_part level index) more (fold (after_item (node_part level index)) start made) none

made_last : (level index : ℕ) (made made' more : List Message) → made' ≡ made ++ more → 0 < times_made level index more →
    last_node level index made' ≢ None
unfolding times_made last_at
made_last level index made made' more adds some none =
    let start : ℕ × Option (ℕ × List ℕ) = (0, None) in
    some_on (node_part level index) more (fold (after_item (node_part level index)) start made) some
    (ap (λ (seen : ℕ × Option (ℕ × List ℕ)). seen.1) (sym (fold-append (after_item (node_part level index)) start made more))
    ∙ mapped_none (last_at (node_part level index) (made ++ more)) (ap (λ (m : List Message). last_node level index m) (sym adds) ∙ none))

-- How often they may be made before they are read

one_count : (found : Option CachedNode) (last : Option (List ℕ)) → unread_count found last ≤ 1
one_count (Some copy) last = omega arith
one_count None None = omega arith
one_count None (Some block) = omega arith

-- a node that was not made counts more only if it came
turned_unmade : (found found' : Option CachedNode) (last : Option (List ℕ)) (made unwritten reads reads' : ℕ) → made ≡ 0 → RoseBy 0 reads reads' →
    (found' ≢ None → (found ≢ None) ⊎ ((last ≡ None) ⊎ Rose reads reads')) →
    RoseBy (made + unread_count found' last - (unread_count found last + unwritten)) reads reads'
turned_unmade (Some was) found' last made unwritten reads reads' unmade stays came = omega (arith, unmade, stays, one_count found' last)
turned_unmade None found' None made unwritten reads reads' unmade stays came = omega (arith, unmade, stays, one_count found' None)
turned_unmade None None (Some block) made unwritten reads reads' unmade stays came = omega (arith, unmade, stays)
turned_unmade None (Some copy) (Some block) made unwritten reads reads' unmade stays came =
    elim (came (λ (none : Some copy ≡ None). cc)) [
      | inl held ↦ absurd (held refl)
      | inr some ↦ elim some [
        | inl none ↦ absurd (cc (none))
        | inr rose ↦ omega (arith, unmade, rose)
      ]
    ]

gone_count : (last : Option (List ℕ)) (made : ℕ) → made ≤ 1 → (0 < made → last ≢ None) → made + unread_count None last ≤ 1
gone_count (Some block) made once some = omega (arith, once)
gone_count None made once some =
    elim (cases_lt 0 made) [
      | inl more ↦ absurd (some more refl)
      | inr none ↦ omega (arith, none)
    ]

-- a victim was made once at most, and has no copy then, but where it was not written
turned_victim : (stop : Option MemStop) (found' : Option CachedNode) (last' : Option (List ℕ)) (made reads reads' : ℕ) → RoseBy 0 reads reads' → made ≤ 1 →
    (0 < made → last' ≢ None) → (stop ≡ None → found' ≡ None) → (¬ ((stop ≡ None) ⊎ (stop ≡ Some NoMemory)) → made ≡ 0) →
    RoseBy (made + unread_count found' last' - (1 + unwritten_in stop)) reads reads'
turned_victim None found' last' made reads reads' stays once some left unmade =
    subst (λ (found : Option CachedNode). RoseBy (made + unread_count found last' - (1 + 0)) reads reads') (sym (left refl))
    (omega (arith, stays, gone_count last' made once some))
turned_victim (Some NoMemory) found' last' made reads reads' stays once some left unmade =
    omega (arith, stays, once, one_count found' last')
turned_victim (Some (Spent spent)) found' last' made reads reads' stays once some left unmade =
    let none : made ≡ 0 = unmade (λ victim. elim victim [
      | inl going ↦ let no : Some (Spent spent) ≡ None = going in absurd (cc)
      | inr want ↦ let no : Some (Spent spent) ≡ Some NoMemory = want in absurd (cc)
    ]) in
    omega (arith, stays, none, one_count found' last')
turned_victim (Some (Tampered place)) found' last' made reads reads' stays once some left unmade =
    let none : made ≡ 0 = unmade (λ victim. elim victim [
      | inl going ↦ let no : Some (Tampered place) ≡ None = going in absurd (cc)
      | inr want ↦ let no : Some (Tampered place) ≡ Some NoMemory = want in absurd (cc)
    ]) in
    omega (arith, stays, none, one_count found' last')

-- one call after another
turned_on : (first_made more_made had mid has unwritten first second third : ℕ) → RoseBy (first_made + mid - (had + 0)) first second →
    RoseBy (more_made + has - (mid + unwritten)) second third → RoseBy (first_made + more_made + has - (had + unwritten)) first third
turned_on first_made more_made had mid has unwritten first second third before after = omega (arith, before, after)

child_left : {geometry : GeometryView} {front : List Message} (more : List Message) {level index : ℕ} → HasChild geometry front level index → HasChild geometry (front ++ more) level index
child_left {geometry} {front} more {level} {index} child = record {
  below = child.below;
  child = child.child;
  block = child.block;
  listed = Contains-append_left front more (Node child.below child.child child.block) child.listed;
  parent_is = child.parent_is;
}

child_right : {mid geometry : GeometryView} (front : List Message) {more : List Message} {level index : ℕ} → mid ≡ geometry → HasChild mid more level index → HasChild geometry (front ++ more) level index
child_right {mid} {geometry} front {more} {level} {index} same child = record {
  below = child.below;
  child = child.child;
  block = child.block;
  listed = Contains-append_right front more (Node child.below child.child child.block) child.listed;
  parent_is = ap (λ (k : GeometryView). parent k child.below child.child) (sym same) ∙ child.parent_is;
}

-- a copy that is marked, and what became of it before
changed_before : (quiet : Type 0) (tree : TreeView) (old : BusHistory) (made : List Message) (new : BusHistory) (front more : List Message) (level index : ℕ)
    (block : List ℕ) → IsCopyAfter quiet tree old made new front level index (record { block = block; changed = true }) →
    (cached_node tree level index ≡ Some (record { block = block; changed = true })) ⊎ HasChild tree.geometry (front ++ more) level index
changed_before quiet tree old made new front more level index block (inl was) = inl was
changed_before quiet tree old made new front more level index block (inr (inl came)) = absurd (cc (came.0))
changed_before quiet tree old made new front more level index block (inr (inr child)) = inr (child_left more child)

copy_on : (quiet calm : Type 0) (tree : TreeView) (first second third : BusHistory) (made front more : List Message) (level index : ℕ) (copy : CachedNode) →
    (calm → quiet) → ((place : Place) → RoseBy 0 (second.reads place) (third.reads place)) → IsCopyAfter quiet tree first made second front level index copy →
    IsCopyAfter calm tree first made third (front ++ more) level index copy
copy_on quiet calm tree first second third made front more level index copy sooner after (inl was) = inl was
copy_on quiet calm tree first second third made front more level index copy sooner after (inr (inl came)) =
    inr (inl (came.0, λ is. came_before made level index first second third after (came.1 (sooner is))))
copy_on quiet calm tree first second third made front more level index copy sooner after (inr (inr child)) =
    inr (inr (child_left more child))

-- a victim had a changed copy
victim_changed : (tree : TreeView) (level : ℕ) (way : Way) (stop : Option MemStop) (other at : ℕ) (block : List ℕ) →
    cached_node tree level way.place ≡ Some (copy_of way) → IsVictim level way stop other at block →
    cached_node tree other at ≡ Some (record { block = block; changed = true })
victim_changed tree level way stop other at block held victim =
    let copy : List ℕ → Bool → Option CachedNode = λ b mark. Some (record { block = b; changed = mark }) in
    ap (λ (k : ℕ). cached_node tree k at) victim.0.0 ∙ ap (λ (i : ℕ). cached_node tree level i) victim.0.1 ∙ held
    ∙ ap (λ (mark : Bool). copy way.copy mark) victim.1 ∙ ap (λ (b : List ℕ). copy b true) (sym victim.0.2)

-- a node that was not made, by its last block before
unmade_once : (tree tree' : TreeView) (old new : BusHistory) (made made' more : List Message) (stop : Option MemStop) (level index : ℕ) → made' ≡ made ++ more →
    times_made level index more ≡ 0 → RoseBy 0 (old.reads (node_place level index)) (new.reads (node_place level index)) →
    (cached_node tree' level index ≢ None → (cached_node tree level index ≢ None) ⊎ NodeCame made level index old new) →
    RoseBy (times_made level index more + unread_count (cached_node tree' level index) (last_node level index made')
    - (unread_count (cached_node tree level index) (last_node level index made) + unwritten_in stop))
    (old.reads (node_place level index)) (new.reads (node_place level index))
unmade_once tree tree' old new made made' more stop level index adds none stays came =
    subst (λ (last : Option (List ℕ)). RoseBy (times_made level index more + unread_count (cached_node tree' level index) last
    - (unread_count (cached_node tree level index) (last_node level index made) + unwritten_in stop))
    (old.reads (node_place level index)) (new.reads (node_place level index))) (sym (unmade_last level index made made' more adds none))
    (turned_unmade (cached_node tree level index) (cached_node tree' level index) (last_node level index made) (times_made level index more) (unwritten_in stop)
    (old.reads (node_place level index)) (new.reads (node_place level index)) none stays came)

-- Copies that are marked as changed

flag_or_not : (flag : Bool) → (Some flag ≡ Some true) ⊎ ¬ (Some flag ≡ Some true)
flag_or_not true = inl refl
flag_or_not false = inr (λ (is : Some false ≡ Some true). cc)

mark_or_not : (found : Option CachedNode) →
    (option_map (λ (copy : CachedNode). copy.changed) found ≡ Some true) ⊎ ¬ (option_map (λ (copy : CachedNode). copy.changed) found ≡ Some true)
mark_or_not None = inr (λ (is : None ≡ Some true). cc)
mark_or_not (Some copy) = flag_or_not copy.changed

pub marked_or_not : (tree : TreeView) (level index : ℕ) → IsMarked tree level index ⊎ ¬ (IsMarked tree level index)
marked_or_not tree level index = mark_or_not (cached_node tree level index)

mark_same : (tree tree' : TreeView) (level index : ℕ) → cached_node tree' level index ≡ cached_node tree level index → IsMarked tree level index →
    IsMarked tree' level index
mark_same tree tree' level index same was = ap (option_map (λ (copy : CachedNode). copy.changed)) same ∙ was

-- where one copy came or changed, and is marked if it was
marks_kept : (level index : ℕ) (tree tree' : TreeView) → (IsMarked tree level index → IsMarked tree' level index) →
    ((other at : ℕ) → ¬ (SameNode level index other at) → cached_node tree' other at ≡ cached_node tree other at) → (other at : ℕ) →
    IsMarked tree other at → IsMarked tree' other at
marks_kept level index tree tree' here same other at was =
    elim (same_or_not level index other at) [
      | inr apart ↦ mark_same tree tree' other at (same other at apart) was
      | inl is ↦
          rw (is.0, is.1) (here (subst (λ (i : ℕ). IsMarked tree level i) is.1 (subst (λ (k : ℕ). IsMarked tree k at) is.0 was)))
    ]

-- nothing was made
pub up_unmade : {quiet : Type 0} {from : ℕ} {Own : ℕ → ℕ → List ℕ → Type 0} {tree tree' : TreeView} {old new : BusHistory} {made made' : List Message} {stop : Option MemStop} → ((place : Place) → RoseBy 0 (old.reads place) (new.reads place)) → made' ≡ made →
    ((level index : ℕ) (copy : CachedNode) → cached_node tree' level index ≡ Some copy →
    (cached_node tree level index ≡ Some copy) ⊎ ((copy.changed ≡ false) × (quiet → NodeCame made level index old new))) →
    ((level index : ℕ) → IsMarked tree level index → IsMarked tree' level index) → WritesUp quiet from Own tree old made tree' new made' stop
up_unmade {quiet} {from} {Own} {tree} {tree'} {old} {new} {made} {made'} {stop} stays same copies marks =
    let adds : made' ≡ made ++ [] = same ∙ sym (append-nil made) in
    record {
      back = record {
        more = [];
        made_more = adds;
        changed = λ level index block high listed. absurd (none_in (Node level index block) listed);
        once_a_copy = λ calm level index high.
            unmade_once tree tree' old new made made' [] stop level index adds (none_made level index) (stays (node_place level index))
            (λ held.
            let found : (copy : CachedNode) × (cached_node tree' level index ≡ Some copy) = held_copy (cached_node tree' level index) held in
            elim (copies level index found.0 found.1) [
              | inl before ↦ inl (λ (none : cached_node tree level index ≡ None). let both : None ≡ Some found.0 = sym none ∙ before in absurd (cc))
              | inr came ↦ inr (came.1 calm)
            ]);
        unmarked = λ level index was gone. absurd (gone (marks level index was));
        copies = λ level index copy found. elim (copies level index copy found) [
          | inl before ↦ inl before
          | inr came ↦ inr (inl came)
        ];
      };
      own = λ level index block low listed. absurd (none_in (Node level index block) listed);
      once = λ level index low. omega (arith, none_made level index);
    }

-- and all copies are the same
pub up_same : {quiet : Type 0} {from : ℕ} {Own : ℕ → ℕ → List ℕ → Type 0} {tree tree' : TreeView} {old new : BusHistory} {made made' : List Message} {stop : Option MemStop} → ((place : Place) → RoseBy 0 (old.reads place) (new.reads place)) → made' ≡ made →
    ((level index : ℕ) → cached_node tree' level index ≡ cached_node tree level index) → WritesUp quiet from Own tree old made tree' new made' stop
up_same {quiet} {from} {Own} {tree} {tree'} {old} {new} {made} {made'} {stop} stays unmade same =
    up_unmade stays unmade (λ level index copy found. inl (sym (same level index) ∙ found))
    (λ level index. mark_same tree tree' level index (same level index))

-- a node came, and is kept as a copy
pub up_put : {quiet : Type 0} {from : ℕ} {Own : ℕ → ℕ → List ℕ → Type 0} (level index : ℕ) (block : List ℕ) {tree tree' : TreeView} {old new : BusHistory} {made made' : List Message} {stop : Option MemStop} → ((place : Place) → RoseBy 0 (old.reads place) (new.reads place)) → made' ≡ made →
    cached_node tree level index ≡ None → cached_node tree' level index ≡ Some (record { block = block; changed = false }) →
    ((other at : ℕ) → ¬ (SameNode level index other at) → cached_node tree' other at ≡ cached_node tree other at) →
    (quiet → NodeCame made level index old new) → WritesUp quiet from Own tree old made tree' new made' stop
up_put {quiet} {from} {Own} level index block {tree} {tree'} {old} {new} {made} {made'} {stop} stays unmade absent put same came =
    up_unmade stays unmade (λ other at copy found. elim (same_or_not level index other at) [
      | inr apart ↦ inl (sym (same other at apart) ∙ found)
      | inl here ↦
          let is : Some (record { block = block; changed = false }) ≡ Some copy =
          sym (ap (λ (k : ℕ). cached_node tree' k at) here.0 ∙ ap (λ (i : ℕ). cached_node tree' level i) here.1 ∙ put) ∙ found in
          let unchanged : copy.changed ≡ false = cc in
          inr (
            unchanged,
            λ calm. rw (here.0, here.1) (came calm),
          )
    ]) (marks_kept level index tree tree' (λ was.
    let none : None ≡ Some true = sym (ap (option_map (λ (copy : CachedNode). copy.changed)) absent) ∙ was in absurd (cc)) same)

-- a node was made, and no copy changed but that of the node above it
pub up_made : {quiet : Type 0} (level index : ℕ) (block : List ℕ) {tree tree' : TreeView} {old new : BusHistory} {made made' : List Message} {stop : Option MemStop} → ((place : Place) → RoseBy 0 (old.reads place) (new.reads place)) → made' ≡ made ++ Node level index block ∷ [] →
    ((other at : ℕ) → ¬ (SameNode (level + 1) (index / arity tree.geometry) other at) → cached_node tree' other at ≡ cached_node tree other at) →
    ((other at : ℕ) → cached_node tree' other at ≢ None → cached_node tree other at ≢ None) →
    (IsMarked tree (level + 1) (index / arity tree.geometry) → IsMarked tree' (level + 1) (index / arity tree.geometry)) →
    WritesUp quiet (level + 1) (IsBlockOf level index block) tree old made tree' new made' stop
up_made {quiet} level index block {tree} {tree'} {old} {new} {made} {made'} {stop} stays is same held marks =
    let not_high : (other at : ℕ) (bytes : List ℕ) → level + 1 ≤ other → Contains (Node level index block ∷ []) (Node other at bytes) → ⊥ =
    λ other at bytes high listed.
    let one : Node level index block ≡ Node other at bytes = one_in (Node other at bytes) (Node level index block) listed in
    let level_is : other ≡ level = cc in
    omega (arith, level_is, high) in
    record {
      back = record {
        more = Node level index block ∷ [];
        made_more = is;
        changed = λ other at bytes high listed. absurd (not_high other at bytes high listed);
        once_a_copy = λ calm other at high.
            unmade_once tree tree' old new made made' (Node level index block ∷ []) stop other at is
            (not_made other at (Node level index block ∷ []) (λ bytes listed. not_high other at bytes high listed)) (stays (node_place other at))
            (λ copied. inl (held other at copied));
        unmarked = λ other at was gone. absurd (gone (marks_kept (level + 1) (index / arity tree.geometry) tree tree' marks same other at was));
        copies = λ other at copy found. elim (same_or_not (level + 1) (index / arity tree.geometry) other at) [
          | inr apart ↦ inl (sym (same other at apart) ∙ found)
          | inl here ↦
              let child : HasChild tree.geometry (Node level index block ∷ []) (level + 1) (index / arity tree.geometry) =
              record { below = level; child = index; block = block; listed = Contains-push [] (Node level index block); parent_is = refl } in
              inr (inr (rw (here.0, here.1) child))
        ];
      };
      own = λ other at bytes low listed.
          let one : Node level index block ≡ Node other at bytes = one_in (Node other at bytes) (Node level index block) listed in
          let level_is : other ≡ level = cc in
          let index_is : at ≡ index = cc in
          let block_is : bytes ≡ block = cc in
          (level_is, index_is, block_is);
      once = λ other at low. one_made other at level index block;
    }

-- of levels further up
pub up_wider : {quiet : Type 0} {from more_from : ℕ} {tree tree' : TreeView} {old new : BusHistory} {made made' : List Message} {stop : Option MemStop} → from ≤ more_from → ((place : Place) → RoseBy 0 (old.reads place) (new.reads place)) →
    ((level index : ℕ) → level < more_from → cached_node tree' level index ≡ cached_node tree level index) →
    WritesUp quiet more_from NoNode tree old made tree' new made' stop → WritesUp quiet from NoNode tree old made tree' new made' stop
up_wider {quiet} {from} {more_from} {tree} {tree'} {old} {new} {made} {made'} {stop} wider stays below up = record {
  back = record {
    more = up.back.more;
    made_more = up.back.made_more;
    changed = λ level index block high listed. elim (cases_lt level more_from) [
      | inl low ↦ absurd (up.own level index block low listed)
      | inr far ↦ up.back.changed level index block far listed
    ];
    once_a_copy = λ calm level index high. elim (cases_lt level more_from) [
      | inl low ↦
          unmade_once tree tree' old new made made' up.back.more stop level index up.back.made_more
          (not_made level index up.back.more (λ block listed. up.own level index block low listed)) (stays (node_place level index))
          (λ held. inl (λ (none : cached_node tree level index ≡ None). held (below level index low ∙ none)))
      | inr far ↦ up.back.once_a_copy calm level index far
    ];
    unmarked = up.back.unmarked;
    copies = up.back.copies;
  };
  own = λ level index block low listed. up.own level index block (omega (arith, low, wider)) listed;
  once = λ level index low. up.once level index (omega (arith, low, wider));
}

-- what may be made below is among more
pub up_as : {quiet : Type 0} {from : ℕ} {Own All : ℕ → ℕ → List ℕ → Type 0} {tree tree' : TreeView} {old new : BusHistory} {made made' : List Message} {stop : Option MemStop} → ((level index : ℕ) (block : List ℕ) → Own level index block → All level index block) →
    WritesUp quiet from Own tree old made tree' new made' stop → WritesUp quiet from All tree old made tree' new made' stop
up_as {quiet} {from} {Own} {All} {tree} {tree'} {old} {new} {made} {made'} {stop} among up = record {
  back = up.back;
  own = λ level index block low listed. among level index block (up.own level index block low listed);
  once = up.once;
}

-- one call after another
pub back_on : {quiet early calm : Type 0} {from : ℕ} {tree mid tree' : TreeView} {first second third : BusHistory} {made made' made'' : List Message} {stop : Option MemStop} → mid.geometry ≡ tree.geometry →
    ((place : Place) → RoseBy 0 (first.reads place) (second.reads place)) → ((place : Place) → RoseBy 0 (second.reads place) (third.reads place)) →
    (calm → early) → (calm → quiet) →
    WritesBack early from tree first made mid second made' None → WritesBack quiet from mid second made' tree' third made'' stop →
    WritesBack calm from tree first made tree' third made'' stop
back_on {quiet} {early} {calm} {from} {tree} {mid} {tree'} {first} {second} {third} {made} {made'} {made''} {stop} geometry before after sooner later back next =
    let sum : (level index : ℕ) → times_made level index (back.more ++ next.more) ≡ times_made level index back.more + times_made level index next.more =
    λ level index. made_on level index back.more next.more in
    record {
      more = back.more ++ next.more;
      made_more = next.made_more ∙ ap (λ (messages : List Message). messages ++ next.more) back.made_more ∙ append_assoc made back.more next.more;
      changed = λ level index block high listed. elim (Contains-append_cases back.more next.more (Node level index block) listed) [
        | inl sooner_listed ↦ elim (back.changed level index block high sooner_listed) [
          | inl was ↦ inl was
          | inr child ↦ inr (child_left next.more child)
        ]
        | inr late ↦ elim (next.changed level index block high late) [
          | inl was ↦ changed_before early tree first made second back.more next.more level index block (back.copies level index (record { block = block; changed = true }) was)
          | inr child ↦ inr (child_right back.more geometry child)
        ]
      ];
      once_a_copy = λ is level index high.
          let had : ℕ = unread_count (cached_node tree level index) (last_node level index made) in
          let has : ℕ = unread_count (cached_node tree' level index) (last_node level index made'') in
          let both : RoseBy (times_made level index back.more + times_made level index next.more + has - (had + unwritten_in stop))
          (first.reads (node_place level index)) (third.reads (node_place level index)) =
          turned_on (times_made level index back.more) (times_made level index next.more) had
          (unread_count (cached_node mid level index) (last_node level index made')) has (unwritten_in stop)
          (first.reads (node_place level index)) (second.reads (node_place level index)) (third.reads (node_place level index))
          (back.once_a_copy (sooner is) level index high) (next.once_a_copy (later is) level index high) in
          subst (λ (k : ℕ). RoseBy (k + has - (had + unwritten_in stop)) (first.reads (node_place level index)) (third.reads (node_place level index)))
          (sym (sum level index)) both;
      unmarked = λ level index was gone. elim (marked_or_not mid level index) [
        | inl still ↦ omega (arith, sum level index, next.unmarked level index still gone)
        | inr left ↦ omega (arith, sum level index, back.unmarked level index was left)
      ];
      copies = λ level index copy found. elim (next.copies level index copy found) [
        | inl was ↦ copy_on early calm tree first second third made back.more next.more level index copy sooner after (back.copies level index copy was)
        | inr other ↦ elim other [
          | inl came ↦ inr (inl (
            came.0,
            λ is. came_after made made' level index first second third before
                (unmade_before made made' back.more back.made_more level index) (came.1 (later is)),
          ))
          | inr child ↦ inr (inr (child_right back.more geometry child))
        ]
      ];
    }

-- of which the first makes nothing below
pub up_on : {quiet early calm : Type 0} {from : ℕ} {Own : ℕ → ℕ → List ℕ → Type 0} {tree mid tree' : TreeView} {first second third : BusHistory} {made made' made'' : List Message} {stop : Option MemStop} → mid.geometry ≡ tree.geometry →
    ((place : Place) → RoseBy 0 (first.reads place) (second.reads place)) → ((place : Place) → RoseBy 0 (second.reads place) (third.reads place)) →
    (calm → early) → (calm → quiet) →
    WritesUp early from NoNode tree first made mid second made' None → WritesUp quiet from Own mid second made' tree' third made'' stop →
    WritesUp calm from Own tree first made tree' third made'' stop
unfolding back_on
up_on {quiet} {early} {calm} {from} {Own} {tree} {mid} {tree'} {first} {second} {third} {made} {made'} {made''} {stop} geometry before after sooner later up more = record {
  back = back_on geometry before after sooner later up.back more.back;
  own = λ level index block low listed. elim (Contains-append_cases up.back.more more.back.more (Node level index block) listed) [
    | inl early_listed ↦ absurd (up.own level index block low early_listed)
    | inr late ↦ more.own level index block low late
  ];
  once = λ level index low.
      omega (
        arith,
        made_on level index up.back.more more.back.more,
        not_made level index up.back.more (λ block listed. up.own level index block low listed),
        more.once level index low,
      );
}

-- and both make of the tree what such calls make
pub up_climbed : {T : Type 0} (d n : T → List ℕ → List ℕ) {low from : ℕ} {Own : ℕ → ℕ → List ℕ → Type 0} {tree mid tree' : TreeView} {first second third : BusHistory} {engine engine' engine'' : TagEngineView T} {stop : Option MemStop} → Climbs (tags_of d n) low tree first engine mid second engine' None →
    Moves second engine' third engine'' →
    WritesUp (EndsQuietly (tags_of d n) tree first engine engine') from NoNode tree first engine.made mid second engine'.made None →
    WritesUp (EndsQuietly (tags_of d n) mid second engine' engine'') from Own mid second engine'.made tree' third engine''.made stop →
    WritesUp (EndsQuietly (tags_of d n) tree first engine engine'') from Own tree first engine.made tree' third engine''.made stop
up_climbed d n {low} {from} {Own} {tree} {mid} {tree'} {first} {second} {third} {engine} {engine'} {engine''} {stop} climbs moves up more =
    up_on climbs.geometry climbs.moves.reads moves.reads
    (λ calm. (calm.0, was_none engine'.evidence engine''.evidence moves.evidence calm.1))
    (λ calm. (climbs.holds calm.0 (λ (e : None ≡ Some NoMemory). cc), calm.1)) up more

-- a copy that went out, or that could not be written
pub up_victim : {quiet : Type 0} {level : ℕ} (way : Way) {tree mid tree' : TreeView} {old new : BusHistory} {made made' : List Message} {stop : Option MemStop} → ((place : Place) → RoseBy 0 (old.reads place) (new.reads place)) →
    cached_node tree level way.place ≡ Some (copy_of way) →
    ((at : ℕ) → cached_node mid level at ≡ cached_node tree level at) →
    (stop ≡ None → cached_node tree' level way.place ≡ None) →
    ((copy : CachedNode) → cached_node tree' level way.place ≡ Some copy → cached_node mid level way.place ≡ Some copy) →
    ((other at : ℕ) → ¬ (SameNode level way.place other at) → cached_node tree' other at ≡ cached_node mid other at) →
    (way.changed ≡ true → (IsMarked mid level way.place → IsMarked tree' level way.place) ⊎ (times_made level way.place made < times_made level way.place made')) →
    WritesUp quiet (level + 1) (IsVictim level way stop) tree old made mid new made' stop → WritesUp quiet level NoNode tree old made tree' new made' stop
up_victim {quiet} {level} way {tree} {mid} {tree'} {old} {new} {made} {made'} {stop} stays held beside left fewer same written up =
    let before : (other at : ℕ) (copy : CachedNode) → cached_node tree' other at ≡ Some copy → cached_node mid other at ≡ Some copy =
    λ other at copy found. elim (same_or_not level way.place other at) [
      | inr apart ↦ sym (same other at apart) ∙ found
      | inl here ↦
          rw (here.0, here.1) (fewer copy (sym (ap (λ (k : ℕ). cached_node tree' k at) here.0 ∙ ap (λ (i : ℕ). cached_node tree' level i) here.1) ∙ found))
    ] in
    let own_level : RoseBy (times_made level way.place up.back.more + unread_count (cached_node tree' level way.place) (last_node level way.place made')
    - (unread_count (cached_node tree level way.place) (last_node level way.place made) + unwritten_in stop))
    (old.reads (node_place level way.place)) (new.reads (node_place level way.place)) =
    subst (λ (k : ℕ). RoseBy (times_made level way.place up.back.more + unread_count (cached_node tree' level way.place) (last_node level way.place made') - (k + unwritten_in stop))
    (old.reads (node_place level way.place)) (new.reads (node_place level way.place)))
    (sym (ap (λ (found : Option CachedNode). unread_count found (last_node level way.place made)) held))
    (turned_victim stop (cached_node tree' level way.place) (last_node level way.place made') (times_made level way.place up.back.more)
    (old.reads (node_place level way.place)) (new.reads (node_place level way.place)) (stays (node_place level way.place))
    (up.once level way.place (omega arith)) (made_last level way.place made made' up.back.more up.back.made_more) left
    (λ apart. not_made level way.place up.back.more (λ block listed. apart (up.own level way.place block (omega arith) listed).2))) in
    let all_level : (at : ℕ) → RoseBy (times_made level at up.back.more + unread_count (cached_node tree' level at) (last_node level at made')
    - (unread_count (cached_node tree level at) (last_node level at made) + unwritten_in stop)) (old.reads (node_place level at)) (new.reads (node_place level at)) =
    λ at. elim (same_or_not level way.place level at) [
      | inl here ↦
          subst (λ (i : ℕ). RoseBy (times_made level i up.back.more + unread_count (cached_node tree' level i) (last_node level i made')
          - (unread_count (cached_node tree level i) (last_node level i made) + unwritten_in stop)) (old.reads (node_place level i)) (new.reads (node_place level i)))
          (sym here.1) own_level
      | inr apart ↦
          unmade_once tree tree' old new made made' up.back.more stop level at up.back.made_more
          (not_made level at up.back.more (λ block listed. apart (refl, (up.own level at block (omega arith) listed).0.1))) (stays (node_place level at))
          (λ copied. inl (λ (none : cached_node tree level at ≡ None). copied (same level at apart ∙ beside at ∙ none)))
    ] in
    let own_made : IsMarked tree level way.place → ¬ (IsMarked tree' level way.place) → 0 < times_made level way.place up.back.more =
    λ was gone.
    let mark : Some way.changed ≡ Some true = sym (ap (option_map (λ (copy : CachedNode). copy.changed)) held) ∙ was in
    let changed : way.changed ≡ true = cc in
    elim (written changed) [
      | inl kept ↦ absurd (gone (kept (mark_same tree mid level way.place (beside way.place) was)))
      | inr more ↦
          omega (arith, more, ap (λ (m : List Message). times_made level way.place m) up.back.made_more, made_on level way.place made up.back.more)
    ] in
    record {
      back = record {
        more = up.back.more;
        made_more = up.back.made_more;
        changed = λ other at block high listed. elim (cases_lt level other) [
          | inl far ↦ up.back.changed other at block (omega (arith, far)) listed
          | inr near ↦ inl (victim_changed tree level way stop other at block held (up.own other at block (omega (arith, near)) listed))
        ];
        once_a_copy = λ calm other at high. elim (cases_lt level other) [
          | inl far ↦
              subst (λ (found : Option CachedNode). RoseBy (times_made other at up.back.more + unread_count found (last_node other at made')
              - (unread_count (cached_node tree other at) (last_node other at made) + unwritten_in stop)) (old.reads (node_place other at)) (new.reads (node_place other at)))
              (sym (same other at (λ (here : SameNode level way.place other at). absurd (omega (arith, far, here.0)))))
              (up.back.once_a_copy calm other at (omega (arith, far)))
          | inr near ↦
              let here : level ≡ other = omega (arith, near, high) in
              subst (λ (k : ℕ). RoseBy (times_made k at up.back.more + unread_count (cached_node tree' k at) (last_node k at made')
              - (unread_count (cached_node tree k at) (last_node k at made) + unwritten_in stop)) (old.reads (node_place k at)) (new.reads (node_place k at))) here (all_level at)
        ];
        unmarked = λ other at was gone. elim (same_or_not level way.place other at) [
          | inr apart ↦ up.back.unmarked other at was (λ marked. gone (mark_same mid tree' other at (same other at apart) marked))
          | inl here ↦
              rw (here.0, here.1) (own_made (subst (λ (i : ℕ). IsMarked tree level i) here.1 (subst (λ (k : ℕ). IsMarked tree k at) here.0 was))
              (λ marked. gone (rw (here.0, here.1) marked)))
        ];
        copies = λ other at copy found. up.back.copies other at copy (before other at copy found);
      };
      own = λ other at block low listed.
          let victim : IsVictim level way stop other at block = up.own other at block (omega (arith, low)) listed in
          omega (arith, victim.0.0, low);
      once = λ other at low. up.once other at (omega (arith, low));
    }

-- What has a copy came, unless it was held

kept_or_came : (found : Option CachedNode) (last last' : Option (List ℕ)) (made unwritten reads reads' : ℕ) → made ≡ 0 → unwritten ≡ 0 → last' ≡ last →
    RoseBy (made + 1 - (unread_count found last + unwritten)) reads reads' → ((found ≢ None) × (last' ≡ last)) ⊎ ((last' ≡ None) ⊎ Rose reads reads')
kept_or_came (Some copy) last last' made unwritten reads reads' none written same rose = inl (λ (gone : Some copy ≡ None). cc, same)
kept_or_came None None last' made unwritten reads reads' none written same rose = inr (inl same)
kept_or_came None (Some block) last' made unwritten reads reads' none written same rose = inr (inr (omega (arith, none, written, rose)))

held_or_came : (found found' : Option CachedNode) (last last' : Option (List ℕ)) (made unwritten reads reads' : ℕ) → found' ≢ None → unwritten ≡ 0 →
    (made ≡ 0 → last' ≡ last) → RoseBy (made + unread_count found' last' - (unread_count found last + unwritten)) reads reads' →
    ((found ≢ None) × (last' ≡ last)) ⊎ ((last' ≡ None) ⊎ Rose reads reads')
held_or_came found None last last' made unwritten reads reads' held written same rose = absurd (held refl)
held_or_came found (Some copy) last last' made unwritten reads reads' held written same rose =
    elim (cases_lt 0 made) [
      | inl some ↦ inr (inr (omega (arith, some, written, rose, one_count found last)))
      | inr few ↦
          let none : made ≡ 0 = omega (arith, few) in
          kept_or_came found last last' made unwritten reads reads' none written (same none) rose
    ]

all_written : (stop : Option MemStop) → stop ≢ Some NoMemory → unwritten_in stop ≡ 0
all_written None memory = refl
all_written (Some (Spent spent)) memory = refl
all_written (Some (Tampered place)) memory = refl
all_written (Some NoMemory) memory = absurd (memory refl)

pub came_unless_held : (quiet : Type 0) (tree tree' : TreeView) (old new : BusHistory) (made made' : List Message) (stop : Option MemStop) →
    WritesBack quiet 1 tree old made tree' new made' stop → quiet → stop ≢ Some NoMemory → CameUnlessHeld tree old made tree' new made'
came_unless_held quiet tree tree' old new made made' stop back calm memory zero index held = absurd (held refl)
came_unless_held quiet tree tree' old new made made' stop back calm memory (suc level) index held =
    held_or_came (cached_node tree (suc level) index) (cached_node tree' (suc level) index) (last_node (suc level) index made) (last_node (suc level) index made')
    (times_made (suc level) index back.more) (unwritten_in stop) (old.reads (node_place (suc level) index)) (new.reads (node_place (suc level) index)) held
    (all_written stop memory) (unmade_last (suc level) index made made' back.more back.made_more) (back.once_a_copy calm (suc level) index (omega arith))
