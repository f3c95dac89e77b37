-- Nodes that were had, by what becomes of the sets of their levels.
use Rattle.std.proofs.Common.{◌≡◌, ◌==◌, ◌⊎◌, inl, inr, ℕ, ◌+◌, ◌%◌, ◌/◌, ◌<◌, ◌≤◌, ◌≢◌, length, List, [], ◌∷◌, ◌++◌, map, get_or, Option, None, Some, IsSome, Bool, true, false, not, cond, refl, sym, ◌∙◌, ap, subst, arith}
use Rattle.std.specs.List.{Contains, filter}
use Rattle.std.proofs.Math.ListN.{set}
use Rattle.std.proofs.lemmas.Bool.{cases_eq}
use Rattle.std.proofs.lemmas.List.{get_or-set_other, get_or-set_same}
use Rattle.std.proofs.lemmas.List.Elements.{Contains-append_cases, Contains-append_left, Contains-append_right, Contains-push, Contains-push_cases}
use Rattle.sec_base.specs.Geometry.{GeometryView, arity, parent}
use Rattle.sec_base.specs.declared.place.Place.TheVariants.{Node as node_place}
use Rattle.cache_set.specs.declared.way.Way.{Way}
use Rattle.cache_set.specs.Bringing.{with_changed, with_new}
use Rattle.cache_set.specs.CacheSet.{IsSet, touched, victim, without}
use Rattle.cache_set.specs.Cache.{IsCache, IsLatest, place_of, set_at, victim_for, victim_if, with_set}
use Rattle.cache_set.proofs.Sets.{ways_at}
use Rattle.bus_model.specs.BusHistory.{BusHistory}
use Rattle.bonsai_tree.specs.NodeCache.{IsLatestNode, OtherLevels, level_cache, node_sets, node_way}
use Rattle.bonsai_tree.specs.NodesHad.{HadAbove, NodeAdded, NodesHad, RoomHad, SameOrders, SetBecomes, after_had, is_in, misses, once_had, set_order, with_room_in}
use Rattle.bonsai_tree.specs.Tree.{TreeView}
use Rattle.bonsai_tree.proofs.NodeOrders.{absent_in, added_order, after_above, changed_order, held_in, last_other, last_own, latest_in, latest_order_is, one_miss, room_order, touched_absent, touched_held, victim_order}
use Rattle.bonsai_tree.proofs.NodesJoined.{after_had_on, climbed_on, misses_on}
use Rattle.bonsai_tree.proofs.Nodes.{same_or_not}

-- One set of a level

module _ (tree tree' : TreeView) (level : ℕ) (is : IsCache node_sets (level_cache tree.caches level)) (others : OtherLevels level tree.caches tree'.caches)
    (index : ℕ) where
  order_of : map place_of (set_at (level_cache tree.caches level) index) ≡ set_order tree level (index % node_sets)
  order_of = ap (λ (n : ℕ). map place_of (get_or (level_cache tree.caches level) (index % n) [])) is.counted

  becomes : (ways : List Way) → level_cache tree'.caches level ≡ with_set (level_cache tree.caches level) index ways →
      SetBecomes level (index % node_sets) (map place_of ways) tree tree'
  becomes ways after =
      let cache = level_cache tree.caches level in
      let here : level_cache tree'.caches level ≡ set cache (index % node_sets) ways =
      after ∙ ap (λ (n : ℕ). set cache (index % n) ways) is.counted in
      record {
        order_is =
            ap (λ (c : List (List Way)). map place_of (get_or c (index % node_sets) [])) here
            ∙ ap (map place_of) (get_or-set_same cache (index % node_sets) ways [] (omega (arith, is.counted)));
        others = λ other at apart. elim (cases_eq other level) [
          | inr differs ↦ ap (λ (c : List (List Way)). map place_of (get_or c at [])) (others other differs)
          | inl e ↦ subst (λ (k : ℕ). set_order tree' k at ≡ set_order tree k at) (sym e)
              (ap (λ (c : List (List Way)). map place_of (get_or c at [])) here
              ∙ ap (map place_of) (get_or-set_other cache (index % node_sets) at ways [] (λ same. apart (e, same))))
        ];
      }

  becomes_as : (ways : List Way) (order : List ℕ) → map place_of ways ≡ order →
      level_cache tree'.caches level ≡ with_set (level_cache tree.caches level) index ways → SetBecomes level (index % node_sets) order tree tree'
  becomes_as ways order same after =
      subst (λ (o : List ℕ). SetBecomes level (index % node_sets) o tree tree') same (becomes ways after)

  becomes_same : (ways : List Way) → map place_of ways ≡ map place_of (set_at (level_cache tree.caches level) index) →
      level_cache tree'.caches level ≡ with_set (level_cache tree.caches level) index ways → SameOrders tree tree'
  becomes_same ways same after other at =
      let became = becomes_as ways (set_order tree level (index % node_sets)) (same ∙ order_of) after in
      elim (same_or_not level (index % node_sets) other at) [
        | inr apart ↦ became.others other at apart
        | inl e ↦ rw (e.0, e.1) became.order_is
      ]

  is_set : IsSet (set_at (level_cache tree.caches level) index)
  is_set = subst (λ (n : ℕ). IsSet (get_or (level_cache tree.caches level) (index % n) [])) (sym is.counted) (ways_at node_sets (level_cache tree.caches level) index is).set

  -- by the calls of the caches of nodes
  pub touched_same : node_way tree.caches level index ≡ None →
      level_cache tree'.caches level ≡ with_set (level_cache tree.caches level) index (touched index (set_at (level_cache tree.caches level) index)) →
      SameOrders tree tree'
  touched_same none = becomes_same _ (touched_absent index (set_at (level_cache tree.caches level) index) none)

  pub touched_here : IsSome (node_way tree.caches level index) →
      level_cache tree'.caches level ≡ with_set (level_cache tree.caches level) index (touched index (set_at (level_cache tree.caches level) index)) →
      SetBecomes level (index % node_sets) (once_had index (set_order tree level (index % node_sets))) tree tree'
  touched_here some =
      becomes_as _ _ (touched_held index (set_at (level_cache tree.caches level) index) some ∙ ap (once_had index) order_of)

  pub changed_same : (block : List ℕ) → IsLatest (level_cache tree.caches level) index →
      level_cache tree'.caches level ≡ with_changed (level_cache tree.caches level) index block → SameOrders tree tree'
  changed_same block latest =
      becomes_same _ (changed_order (record { place = index; changed = true; copy = block }) (set_at (level_cache tree.caches level) index) is_set latest)

  pub put_here : (block : List ℕ) → node_way tree.caches level index ≡ None →
      level_cache tree'.caches level ≡ with_new (level_cache tree.caches level) index block →
      SetBecomes level (index % node_sets) (set_order tree level (index % node_sets) ++ index ∷ []) tree tree'
  put_here block none =
      becomes_as _ _ (added_order (record { place = index; changed = false; copy = block }) (set_at (level_cache tree.caches level) index) none
      ∙ ap (λ (order : List ℕ). order ++ index ∷ []) order_of)

  victim_of : (found : Option Way) → node_way tree.caches level index ≡ None → victim_for (level_cache tree.caches level) index ≡ found →
      victim (set_at (level_cache tree.caches level) index) ≡ found
  victim_of found none goes = sym (ap (λ (way : Option Way). victim_if way (set_at (level_cache tree.caches level) index)) none) ∙ goes

  pub removed_here : (way : Way) → node_way tree.caches level index ≡ None → victim_for (level_cache tree.caches level) index ≡ Some way →
      way.place % node_sets ≡ index % node_sets →
      level_cache tree'.caches level ≡ with_set (level_cache tree.caches level) way.place (without way.place (set_at (level_cache tree.caches level) way.place)) →
      SetBecomes level (index % node_sets) (with_room_in (set_order tree level (index % node_sets))) tree tree'
  removed_here way none goes beside after =
      let cache = level_cache tree.caches level in
      let here : way.place % length cache ≡ index % length cache = subst (λ (n : ℕ). way.place % n ≡ index % n) (sym is.counted) beside in
      becomes_as _ _ (victim_order way (set_at cache index) is_set (victim_of (Some way) none goes) ∙ ap with_room_in order_of)
      (after ∙ ap (λ (i : ℕ). set cache i (without way.place (get_or cache i []))) here)

-- no copy goes out where there is room
pub room_here : (tree : TreeView) (level index : ℕ) → IsCache node_sets (level_cache tree.caches level) → node_way tree.caches level index ≡ None →
    victim_for (level_cache tree.caches level) index ≡ None →
    SetBecomes level (index % node_sets) (with_room_in (set_order tree level (index % node_sets))) tree tree
room_here tree level index is none goes = record {
  order_is =
      subst (λ (order : List ℕ). order ≡ with_room_in order) (order_of tree tree level is (λ other apart. refl) index)
      (sym (room_order (set_at (level_cache tree.caches level) index) (victim_of tree tree level is (λ other apart. refl) index None none goes)));
  others = λ other at apart. refl;
}

-- a node without a way is in no order
pub unlisted : (tree : TreeView) (level index : ℕ) → IsCache node_sets (level_cache tree.caches level) → node_way tree.caches level index ≡ None →
    is_in index (set_order tree level (index % node_sets)) ≡ false
unlisted tree level index is none =
    ap (is_in index) (sym (order_of tree tree level is (λ other apart. refl) index)) ∙ absent_in index (set_at (level_cache tree.caches level) index) none

-- one with a way is in its order
pub listed_in : (tree : TreeView) (level index : ℕ) → IsCache node_sets (level_cache tree.caches level) → IsSome (node_way tree.caches level index) →
    is_in index (set_order tree level (index % node_sets)) ≡ true
listed_in tree level index is some =
    ap (is_in index) (sym (order_of tree tree level is (λ other apart. refl) index)) ∙ held_in index (set_at (level_cache tree.caches level) index) some

-- where the orders are the same, so is the most recently used one
pub latest_same : (tree tree' : TreeView) (level index : ℕ) → IsCache node_sets (level_cache tree.caches level) → IsCache node_sets (level_cache tree'.caches level) →
    SameOrders tree tree' → IsLatestNode tree.caches level index → IsLatestNode tree'.caches level index
latest_same tree tree' level index is is' same latest =
    let before = order_of tree tree level is (λ other apart. refl) index in
    let after = order_of tree' tree' level is' (λ other apart. refl) index in
    latest_order_is (set_at (level_cache tree'.caches level) index) ∙ ap latest_in (after ∙ same level (index % node_sets) ∙ sym before)
    ∙ sym (latest_order_is (set_at (level_cache tree.caches level) index)) ∙ latest

-- Nodes that were had

-- before a call that has none
pub had_still : {May Must : ℕ → ℕ → Type 0} {from : ℕ} {tree mid tree' : TreeView} {first second third : BusHistory} →
    NodesHad May Must from tree first mid second → SameOrders mid tree' →
    ((level index : ℕ) → from ≤ level → third.reads (node_place level index) ≡ second.reads (node_place level index)) →
    NodesHad May Must from tree first tree' third
had_still {May} {Must} {from} {tree} {mid} {tree'} {first} {second} {third} nodes same unread = record {
  had = nodes.had;
  each = nodes.each;
  all = nodes.all;
  climbed = nodes.climbed;
  orders = λ level set. same level set ∙ nodes.orders level set;
  reads = λ level index high. omega (arith, nodes.reads level index high, unread level index high);
}

is_here : (May : ℕ → ℕ → Type 0) (level index : ℕ) (node : ℕ × ℕ) → May level index → (level, index) ≡ node → (level ≤ node.0) × May node.0 node.1
is_here May level index node may is = subst (λ (n : ℕ × ℕ). (level ≤ n.0) × May n.0 n.1) is (omega arith, may)

listed_here : (had : List (ℕ × ℕ)) (level index other at : ℕ) → Contains had (level, index) → (other ≡ level) × (at ≡ index) → Contains had (other, at)
listed_here had level index other at listed is =
    subst (λ (k : ℕ). Contains had (k, at)) (sym is.0) (subst (λ (i : ℕ). Contains had (level, i)) (sym is.1) listed)

-- one that had a copy
pub had_one : {May Must : ℕ → ℕ → Type 0} {level : ℕ} (index : ℕ) {tree tree' : TreeView} {history : BusHistory} → May level index →
    ((other at : ℕ) → Must other at → (other ≡ level) × (at ≡ index)) → is_in index (set_order tree level (index % node_sets)) ≡ true →
    SetBecomes level (index % node_sets) (once_had index (set_order tree level (index % node_sets))) tree tree' → NodesHad May Must level tree history tree' history
had_one {May} {Must} {level} index {tree} {tree'} {history} may here held became = record {
  had = (level, index) ∷ [];
  each = λ other at listed. elim (Contains-push_cases [] (level, index) (other, at) listed) [
    | inl none ↦ absurd (omega (arith, none.1))
    | inr is ↦ is_here May level index (other, at) may is
  ];
  all = λ other at must. listed_here ((level, index) ∷ []) level index other at (Contains-push [] (level, index)) (here other at must);
  climbed = λ other at listed below absent. elim (Contains-push_cases [] (level, index) (other, at) listed) [
    | inl none ↦ absurd (omega (arith, none.1))
    | inr is ↦
        let there : is_in at (set_order tree other (at % node_sets)) ≡ true =
        subst (λ (n : ℕ × ℕ). is_in n.1 (set_order tree n.0 (n.1 % node_sets)) ≡ true) is held in
        absurd (cc)
  ];
  orders = λ other at. elim (same_or_not level (index % node_sets) other at) [
    | inr apart ↦ became.others other at apart ∙ sym (last_other other at level index (set_order tree other at) apart)
    | inl e ↦ rw (e.0, e.1) (became.order_is ∙ sym (last_own level index (set_order tree level (index % node_sets))))
  ];
  reads = λ other at high. omega arith;
}

-- one that came, after room was made for it and the nodes above it were had
module _ (May First Second Must : ℕ → ℕ → Type 0) (level index : ℕ) (tree start room parent_tree tree' : TreeView) (first second third fourth : BusHistory)
    (may : May level index) (starts : start.geometry ≡ tree.geometry) (rooms : room.geometry ≡ tree.geometry)
    (among : (other at : ℕ) → Must other at → First other at ⊎ (Second other at ⊎ ((other ≡ level) × (at ≡ index))))
    (up : level < tree.geometry.levels → Second (level + 1) (index / arity tree.geometry))
    (same : SameOrders tree start) (absent : is_in index (set_order tree level (index % node_sets)) ≡ false)
    (made : RoomHad May First level index start first room second) (above : HadAbove May Second level room second parent_tree third)
    (came : NodeAdded level index parent_tree third tree' fourth) where
  abbrev own : List (ℕ × ℕ)
  own = made.above.had.had

  abbrev more : List (ℕ × ℕ)
  more = above.had.had

  abbrev all : List (ℕ × ℕ)
  all = own ++ (more ++ (level, index) ∷ [])

  all_had : (other at : ℕ) (order : List ℕ) →
      after_had other at all order ≡ after_had other at ((level, index) ∷ []) (after_had other at more (after_had other at own order))
  all_had other at order =
      after_had_on other at own (more ++ (level, index) ∷ []) order ∙ after_had_on other at more ((level, index) ∷ []) (after_had other at own order)

  own_same : (order : List ℕ) → after_had level (index % node_sets) own order ≡ order
  own_same order = after_above level (index % node_sets) own order (λ at i listed. let high = (made.above.had.each at i listed).0 in omega (arith, high))

  more_same : (order : List ℕ) → after_had level (index % node_sets) more order ≡ order
  more_same order = after_above level (index % node_sets) more order (λ at i listed. let high = (above.had.each at i listed).0 in omega (arith, high))

  mid_order : (other at : ℕ) → set_order made.mid other at ≡ after_had other at own (set_order tree other at)
  mid_order other at = made.above.had.orders other at ∙ ap (λ (order : List ℕ). after_had other at own order) (same other at)

  own_order : set_order tree' level (index % node_sets) ≡ after_had level (index % node_sets) all (set_order tree level (index % node_sets))
  own_order =
      let order = set_order tree level (index % node_sets) in
      let room_is : set_order room level (index % node_sets) ≡ with_room_in order =
      made.room.order_is ∙ ap with_room_in (mid_order level (index % node_sets) ∙ own_same order) in
      let here : set_order parent_tree level (index % node_sets) ≡ with_room_in order =
      above.had.orders level (index % node_sets) ∙ more_same (set_order room level (index % node_sets)) ∙ room_is in
      let once : with_room_in order ++ index ∷ [] ≡ once_had index order =
      ap (λ (b : Bool). cond b (filter (λ other. not (other == index)) order) (with_room_in order) ++ index ∷ []) (sym absent) in
      let last : once_had index order ≡ after_had level (index % node_sets) all order =
      sym (all_had level (index % node_sets) order ∙ last_own level index (after_had level (index % node_sets) more (after_had level (index % node_sets) own order))
      ∙ ap (once_had index) (more_same (after_had level (index % node_sets) own order) ∙ own_same order)) in
      came.added.order_is ∙ ap (λ (o : List ℕ). o ++ index ∷ []) here ∙ once ∙ last

  room_order_is : (other at : ℕ) → ¬ ((other ≡ level) × (at ≡ index % node_sets)) → set_order room other at ≡ after_had other at own (set_order tree other at)
  room_order_is other at apart = made.room.others other at apart ∙ mid_order other at

  other_order : (other at : ℕ) → ¬ ((other ≡ level) × (at ≡ index % node_sets)) → set_order tree' other at ≡ after_had other at all (set_order tree other at)
  other_order other at apart =
      came.added.others other at apart ∙ above.had.orders other at
      ∙ ap (λ (order : List ℕ). after_had other at more order) (room_order_is other at apart)
      ∙ sym (all_had other at (set_order tree other at)
      ∙ last_other other at level index (after_had other at more (after_had other at own (set_order tree other at))) apart)

  all_misses : (other at : ℕ) (order : List ℕ) →
      misses other at all order ≡ misses other at own order
      + (misses other at more (after_had other (at % node_sets) own order)
      + misses other at ((level, index) ∷ []) (after_had other (at % node_sets) more (after_had other (at % node_sets) own order)))
  all_misses other at order =
      misses_on other at own (more ++ (level, index) ∷ []) order
      ∙ ap (λ (count : ℕ). misses other at own order + count) (misses_on other at more ((level, index) ∷ []) (after_had other (at % node_sets) own order))

  own_reads : (at : ℕ) → fourth.reads (node_place level at)
      ≤ first.reads (node_place level at) + misses level at all (set_order tree level (at % node_sets))
  own_reads at = elim (cases_eq at index) [
    | inr differs ↦ omega (arith, came.alone level at (λ e. differs e.1), above.unread at, made.above.unread at)
    | inl e ↦ subst (λ (i : ℕ). fourth.reads (node_place level i) ≤ first.reads (node_place level i) + misses level i all (set_order tree level (i % node_sets))) (sym e)
        (let order = set_order tree level (index % node_sets) in
        let last : misses level index ((level, index) ∷ []) (after_had level (index % node_sets) more (after_had level (index % node_sets) own order)) ≡ 1 =
        ap (λ (o : List ℕ). misses level index ((level, index) ∷ []) o) (more_same (after_had level (index % node_sets) own order) ∙ own_same order)
        ∙ one_miss level index order absent in
        omega (arith, came.once, above.unread index, made.above.unread index, all_misses level index order, last))
  ]

  other_reads : (other at : ℕ) → level ≤ other → other ≢ level → fourth.reads (node_place other at)
      ≤ first.reads (node_place other at) + misses other at all (set_order tree other (at % node_sets))
  other_reads other at high differs =
      let mid : misses other at own (set_order start other (at % node_sets)) ≡ misses other at own (set_order tree other (at % node_sets)) =
      ap (λ (order : List ℕ). misses other at own order) (same other (at % node_sets)) in
      let later : misses other at more (set_order room other (at % node_sets)) ≡ misses other at more (after_had other (at % node_sets) own (set_order tree other (at % node_sets))) =
      ap (λ (order : List ℕ). misses other at more order) (room_order_is other (at % node_sets) (λ e. differs e.0)) in
      let one = made.above.had.reads other at (omega (arith, high, differs)) in
      let two = above.had.reads other at (omega (arith, high, differs)) in
      omega (arith, came.alone other at (λ e. differs e.0), one, two, mid, later, all_misses other at (set_order tree other (at % node_sets)))

  higher : (other at : ℕ) → (level + 1 ≤ other) × May other at → (level ≤ other) × May other at
  higher other at had = (omega (arith, had.0), had.1)

  -- with each of the first part that had no copy its parent was had, and so with each of the second
  own_climbed : (other at : ℕ) → Contains own (other, at) → other < tree.geometry.levels → is_in at (set_order tree other (at % node_sets)) ≡ false →
      Contains all (parent tree.geometry other at)
  own_climbed other at listed below none =
      Contains-append_left own (more ++ (level, index) ∷ []) (parent tree.geometry other at)
      (subst (λ (k : GeometryView). Contains own (parent k other at)) starts
      (made.above.had.climbed other at listed (subst (λ (k : GeometryView). other < k.levels) (sym starts) below) (ap (is_in at) (same other (at % node_sets)) ∙ none)))

  in_more : (node : ℕ × ℕ) → Contains more node → Contains all node
  in_more node listed = Contains-append_right own (more ++ (level, index) ∷ []) node (Contains-append_left more ((level, index) ∷ []) node listed)

  more_climbed : (other at : ℕ) → Contains more (other, at) → other < tree.geometry.levels → is_in at (set_order tree other (at % node_sets)) ≡ false →
      Contains all (parent tree.geometry other at)
  more_climbed other at listed below none =
      let apart : ¬ ((other ≡ level) × (at % node_sets ≡ index % node_sets)) = λ here. omega (arith, here.0, (above.had.each other at listed).0) in
      elim (climbed_on tree room own other at (room_order_is other (at % node_sets) apart) none) [
        | inl early ↦ own_climbed other at early below none
        | inr still ↦ in_more (parent tree.geometry other at)
            (subst (λ (k : GeometryView). Contains more (parent k other at)) rooms
            (above.had.climbed other at listed (subst (λ (k : GeometryView). other < k.levels) (sym rooms) below) still))
      ]

  pub had_came : NodesHad May Must level tree first tree' fourth
  had_came = record {
    had = all;
    each = λ other at listed. elim (Contains-append_cases own (more ++ (level, index) ∷ []) (other, at) listed) [
      | inl early ↦ higher other at (made.above.had.each other at early)
      | inr late ↦ elim (Contains-push_cases more (level, index) (other, at) late) [
        | inl later ↦ higher other at (above.had.each other at later)
        | inr is ↦ is_here May level index (other, at) may is
      ]
    ];
    all = λ other at must. elim (among other at must) [
      | inl early ↦ Contains-append_left own (more ++ (level, index) ∷ []) (other, at) (made.above.had.all other at early)
      | inr late ↦ elim late [
        | inl later ↦ in_more (other, at) (above.had.all other at later)
        | inr is ↦ listed_here all level index other at
            (Contains-append_right own (more ++ (level, index) ∷ []) (level, index) (Contains-push more (level, index))) is
      ]
    ];
    climbed = λ other at listed below none. elim (Contains-append_cases own (more ++ (level, index) ∷ []) (other, at) listed) [
      | inl early ↦ own_climbed other at early below none
      | inr late ↦ elim (Contains-push_cases more (level, index) (other, at) late) [
        | inl later ↦ more_climbed other at later below none
        | inr is ↦
            let level_is : level ≡ other = ap (λ (n : ℕ × ℕ). n.0) is in
            subst (λ (n : ℕ × ℕ). Contains all (parent tree.geometry n.0 n.1)) is
            (in_more (parent tree.geometry level index) (above.had.all (level + 1) (index / arity tree.geometry) (up (omega (arith, below, level_is)))))
      ]
    ];
    orders = λ other at. elim (same_or_not level (index % node_sets) other at) [
      | inr apart ↦ other_order other at apart
      | inl e ↦ rw (e.0, e.1) own_order
    ];
    reads = λ other at high. elim (cases_eq other level) [
      | inr differs ↦ other_reads other at high differs
      | inl e ↦ subst (λ (k : ℕ). fourth.reads (node_place k at) ≤ first.reads (node_place k at) + misses k at all (set_order tree k (at % node_sets))) (sym e) (own_reads at)
    ];
  }
