-- Nodes that were had by no call, and by one call after another, and which of them may be had.
use Rattle.std.proofs.Common.{◌≡◌, ◌⊎◌, ℕ, ◌+◌, ◌-◌, ◌%◌, ◌/◌, ◌<◌, ◌≤◌, List, [], ◌∷◌, ◌++◌, drop, length, if◌then◌else◌, inl, inr, false, refl, ap, sym, ◌∙◌, subst, arith, append_assoc}
use Rattle.std.proofs.Math.Seq.{drop-append_seam}
use Rattle.std.proofs.lemmas.Bool.{cases_Bool}
use Rattle.std.proofs.lemmas.List.{append-nil}
use Rattle.std.proofs.lemmas.List.Elements.{Contains-append_cases, Contains-append_left, Contains-append_right, Contains-push_cases}
use Rattle.std.specs.List.{Contains}
use Rattle.sec_base.specs.Geometry.{GeometryView, arity, parent}
use Rattle.sec_base.specs.declared.message.Message.{Message}
use Rattle.sec_base.specs.declared.message.Message.TheVariants.{Node}
use Rattle.sec_base.specs.declared.place.Place.{Place}
use Rattle.sec_base.specs.declared.place.Place.TheVariants.{Node as node_place}
use Rattle.bus_model.specs.BusHistory.{BusHistory}
use Rattle.bonsai_tree.specs.Node.{path_index}
use Rattle.bonsai_tree.specs.NodeCache.{node_sets}
use Rattle.bonsai_tree.specs.NodesHad.{HadAbove, IsAboveMade, MayBeHad, MayClimb, MustClimb, NodesHad, RoomHad, after_had, is_in, is_of_set, miss_of, misses, once_had, set_order, since}
use Rattle.bonsai_tree.specs.Tree.{HasChild, TreeView, above}
use Rattle.bonsai_tree.proofs.NodeOrders.{came_in}
use Rattle.bonsai_tree.proofs.Nodes.{above_none, path_up}

pub after_had_on : (level set : ℕ) (first more : List (ℕ × ℕ)) (order : List ℕ) →
    after_had level set (first ++ more) order ≡ after_had level set more (after_had level set first order)
after_had_on level set [] more order = refl
after_had_on level set (node ∷ first) more order = after_had_on level set first more (if is_of_set level set node then once_had node.1 order else order)

pub misses_on : (level index : ℕ) (first more : List (ℕ × ℕ)) (order : List ℕ) →
    misses level index (first ++ more) order ≡ misses level index first order + misses level index more (after_had level (index % node_sets) first order)
misses_on level index [] more order = omega arith
misses_on level index (node ∷ first) more order =
    let next : List ℕ = if is_of_set level (index % node_sets) node then once_had node.1 order else order in
    ap (λ (count : ℕ). miss_of level index node order + count) (misses_on level index first more next) ∙ omega arith

pub nodes_none : (May : ℕ → ℕ → Type 0) {Must : ℕ → ℕ → Type 0} (from : ℕ) (tree : TreeView) (history : BusHistory) →
    ((level index : ℕ) → ¬ Must level index) → NodesHad May Must from tree history tree history
nodes_none May {Must} from tree history none = record {
  had = [];
  each = λ level index listed. absurd (omega (arith, listed.1));
  all = λ level index must. absurd (none level index must);
  climbed = λ level index listed below absent. absurd (omega (arith, listed.1));
  orders = λ level set. refl;
  reads = λ level index high. omega arith;
}

-- a node that is in a set's order after others were had was had, or was in it before
pub climbed_on : (tree mid : TreeView) (had : List (ℕ × ℕ)) (level index : ℕ) →
    set_order mid level (index % node_sets) ≡ after_had level (index % node_sets) had (set_order tree level (index % node_sets)) →
    is_in index (set_order tree level (index % node_sets)) ≡ false →
    Contains had (level, index) ⊎ (is_in index (set_order mid level (index % node_sets)) ≡ false)
climbed_on tree mid had level index order absent = elim (cases_Bool (is_in index (set_order mid level (index % node_sets)))) [
  | inl came ↦ inl (came_in level index had (set_order tree level (index % node_sets)) absent (ap (is_in index) (sym order) ∙ came))
  | inr still ↦ inr still
]

pub nodes_on : {May First Second Must : ℕ → ℕ → Type 0} {from : ℕ} {tree mid tree' : TreeView} {first second third : BusHistory} → mid.geometry ≡ tree.geometry →
    ((level index : ℕ) → Must level index → First level index ⊎ Second level index) →
    NodesHad May First from tree first mid second → NodesHad May Second from mid second tree' third → NodesHad May Must from tree first tree' third
nodes_on {May} {First} {Second} {Must} {from} {tree} {mid} {tree'} {first} {second} {third} geometry either nodes more = record {
  had = nodes.had ++ more.had;
  each = λ level index listed. elim (Contains-append_cases nodes.had more.had (level, index) listed) [
    | inl early ↦ nodes.each level index early
    | inr late ↦ more.each level index late
  ];
  all = λ level index must. elim (either level index must) [
    | inl early ↦ Contains-append_left nodes.had more.had (level, index) (nodes.all level index early)
    | inr late ↦ Contains-append_right nodes.had more.had (level, index) (more.all level index late)
  ];
  climbed = λ level index listed below absent.
      let from_first = λ (early : Contains nodes.had (level, index)).
      Contains-append_left nodes.had more.had (parent tree.geometry level index) (nodes.climbed level index early below absent) in
      elim (Contains-append_cases nodes.had more.had (level, index) listed) [
        | inl early ↦ from_first early
        | inr late ↦ elim (climbed_on tree mid nodes.had level index (nodes.orders level (index % node_sets)) absent) [
          | inl early ↦ from_first early
          | inr still ↦ Contains-append_right nodes.had more.had (parent tree.geometry level index)
              (subst (λ (k : GeometryView). Contains more.had (parent k level index)) geometry
              (more.climbed level index late (subst (λ (k : GeometryView). level < k.levels) (sym geometry) below) still))
        ]
      ];
  orders = λ level set.
      more.orders level set ∙ ap (λ (order : List ℕ). after_had level set more.had order) (nodes.orders level set)
      ∙ sym (after_had_on level set nodes.had more.had (set_order tree level set));
  reads = λ level index high.
      omega (
        arith,
        nodes.reads level index high,
        more.reads level index high,
        ap (λ (order : List ℕ). misses level index more.had order) (nodes.orders level (index % node_sets)),
        misses_on level index nodes.had more.had (set_order tree level (index % node_sets)),
      );
}

-- More nodes may be had

module _ (May Wider : ℕ → ℕ → Type 0) {Must : ℕ → ℕ → Type 0} where
  pub nodes_wider : {from : ℕ} {tree tree' : TreeView} {old new : BusHistory} → ((level index : ℕ) → from ≤ level → May level index → Wider level index) →
      NodesHad May Must from tree old tree' new → NodesHad Wider Must from tree old tree' new
  nodes_wider {from} {tree} {tree'} {old} {new} wider nodes = record {
    had = nodes.had;
    each = λ level index listed. let may = nodes.each level index listed in (may.0, wider level index may.0 may.1);
    all = nodes.all;
    climbed = nodes.climbed;
    orders = nodes.orders;
    reads = nodes.reads;
  }

  pub above_wider : {level : ℕ} {tree tree' : TreeView} {old new : BusHistory} → ((other at : ℕ) → level + 1 ≤ other → May other at → Wider other at) →
      HadAbove May Must level tree old tree' new → HadAbove Wider Must level tree old tree' new
  above_wider {level} {tree} {tree'} {old} {new} wider nodes = record { had = nodes_wider wider nodes.had; unread = nodes.unread }

  pub room_wider : {level index : ℕ} {tree tree' : TreeView} {old new : BusHistory} → ((other at : ℕ) → level + 1 ≤ other → May other at → Wider other at) →
      RoomHad May Must level index tree old tree' new → RoomHad Wider Must level index tree old tree' new
  room_wider {level} {index} {tree} {tree'} {old} {new} wider room =
      record { mid = room.mid; above = above_wider wider room.above; room = room.room }

-- Fewer nodes must be had

pub nodes_fewer : {May Must Fewer : ℕ → ℕ → Type 0} {from : ℕ} {tree tree' : TreeView} {old new : BusHistory} →
    ((level index : ℕ) → Fewer level index → Must level index) → NodesHad May Must from tree old tree' new → NodesHad May Fewer from tree old tree' new
nodes_fewer {May} {Must} {Fewer} {from} {tree} {tree'} {old} {new} fewer nodes = record {
  had = nodes.had;
  each = nodes.each;
  all = λ level index must. nodes.all level index (fewer level index must);
  climbed = nodes.climbed;
  orders = nodes.orders;
  reads = nodes.reads;
}

-- Messages that were made in a call

pub since_is : (made made' more : List Message) → made' ≡ made ++ more → since made made' ≡ more
since_is made made' more is = ap (λ (all : List Message). drop (length made) all) is ∙ drop-append_seam made more

-- by one of three calls
module _ (made : List Message) {first second third : List Message} (some more last : List Message) (first_is : first ≡ made ++ some)
    (second_is : second ≡ first ++ more) (third_is : third ≡ second ++ last) where
  since_all : since made third ≡ some ++ (more ++ last)
  since_all =
      since_is made third (some ++ (more ++ last))
      (third_is ∙ ap (λ (all : List Message). all ++ last) second_is ∙ append_assoc first more last
      ∙ ap (λ (all : List Message). all ++ (more ++ last)) first_is ∙ append_assoc made some (more ++ last))

  pub since_first : (message : Message) → Contains (since made first) message → Contains (since made third) message
  since_first message listed =
      subst (λ (l : List Message). Contains l message) (sym since_all)
      (Contains-append_left some (more ++ last) message (subst (λ (l : List Message). Contains l message) (since_is made first some first_is) listed))

  pub since_second : (message : Message) → Contains (since first second) message → Contains (since made third) message
  since_second message listed =
      subst (λ (l : List Message). Contains l message) (sym since_all) (Contains-append_right some (more ++ last) message
      (Contains-append_left more last message (subst (λ (l : List Message). Contains l message) (since_is first second more second_is) listed)))

-- by one of two
module _ (made : List Message) {first second : List Message} (some more : List Message) (first_is : first ≡ made ++ some) (second_is : second ≡ first ++ more) where
  pub since_both : since made second ≡ some ++ more
  since_both = since_is made second (some ++ more) (second_is ∙ ap (λ (all : List Message). all ++ more) first_is ∙ append_assoc made some more)

  pub since_joined : since made second ≡ since made first ++ since first second
  since_joined =
      since_both ∙ ap (λ (all : List Message). all ++ more) (sym (since_is made first some first_is))
      ∙ ap (λ (all : List Message). since made first ++ all) (sym (since_is first second more second_is))

  pub since_before : (message : Message) → Contains (since made first) message → Contains (since made second) message
  since_before message listed =
      subst (λ (l : List Message). Contains l message) (sym since_both)
      (Contains-append_left some more message (subst (λ (l : List Message). Contains l message) (since_is made first some first_is) listed))

  pub since_after : (message : Message) → Contains more message → Contains (since made second) message
  since_after message listed = subst (λ (l : List Message). Contains l message) (sym since_both) (Contains-append_right some more message listed)

-- Which nodes must be had

child_none : (geometry : GeometryView) (level index : ℕ) → ¬ (HasChild geometry [] level index)
child_none geometry level index node = absurd (omega (arith, node.listed.1))

-- of a call that made none
pub child_not : (geometry : GeometryView) (made : List Message) (level index : ℕ) → ¬ (HasChild geometry (since made made) level index)
child_not geometry made level index =
    subst (λ (more : List Message). ¬ (HasChild geometry more level index)) (sym (since_is made made [] (sym (append-nil made)))) (child_none geometry level index)

-- by one of two calls
pub child_on : (geometry : GeometryView) (some more : List Message) (level index : ℕ) → HasChild geometry (some ++ more) level index →
    HasChild geometry some level index ⊎ HasChild geometry more level index
child_on geometry some more level index node = elim (Contains-append_cases some more (Node node.below node.child node.block) node.listed) [
  | inl early ↦ inl (record { below = node.below; child = node.child; block = node.block; listed = early; parent_is = node.parent_is })
  | inr late ↦ inr (record { below = node.below; child = node.child; block = node.block; listed = late; parent_is = node.parent_is })
]

-- the parent of a node that was made last
pub must_made : (geometry : GeometryView) (made : List Message) {first second : List Message} (some : List Message) (level index : ℕ) (block : List ℕ) →
    level < geometry.levels → first ≡ made ++ some → second ≡ first ++ Node level index block ∷ [] → (other at : ℕ) →
    HasChild geometry (since made second) other at → MustClimb geometry (level + 1) (parent geometry level index).1 (since made first) other at
must_made geometry made {first} {second} some level index block below first_is second_is other at node =
    let own : List Message = Node level index block ∷ [] in
    elim (child_on geometry some own other at (subst (λ (more : List Message). HasChild geometry more other at) (since_both made some own first_is second_is) node)) [
      | inl early ↦ inr (subst (λ (more : List Message). HasChild geometry more other at) (sym (since_is made first some first_is)) early)
      | inr late ↦ elim (Contains-push_cases [] (Node level index block) (Node late.below late.child late.block) late.listed) [
        | inl none ↦ absurd (omega (arith, none.1))
        | inr is ↦
            let level_is : late.below ≡ level = cc in
            let index_is : late.child ≡ index = cc in
            inl (
              omega (arith, below),
              sym (ap (λ (n : ℕ × ℕ). n.0) late.parent_is) ∙ ap (λ (k : ℕ). k + 1) level_is,
              sym (ap (λ (n : ℕ × ℕ). n.1) late.parent_is) ∙ ap (λ (i : ℕ). i / arity geometry) index_is,
            )
      ]
    ]

-- the parent of a node below the top
pub must_parent : {geometry geometry' : GeometryView} → geometry' ≡ geometry → (level index : ℕ) (more : List Message) → level < geometry.levels →
    MustClimb geometry' (level + 1) (parent geometry' level index).1 more (level + 1) (index / arity geometry)
must_parent {geometry} {geometry'} same level index more below =
    inl (omega (arith, below, ap (λ (k : GeometryView). k.levels) same), refl, ap (λ (k : GeometryView). index / arity k) (sym same))

-- by one of two calls, or the node itself
pub must_joined : {geometry start room : GeometryView} {some more all : List Message} → start ≡ geometry → room ≡ start → (level index : ℕ) → all ≡ some ++ more →
    (other at : ℕ) → MustClimb geometry level index all other at →
    HasChild start some other at ⊎ (MustClimb room (level + 1) (parent room level index).1 more other at ⊎ ((other ≡ level) × (at ≡ index)))
must_joined {geometry} {start} {room} {some} {more} {all} starts rooms level index all_is other at must = elim must [
  | inl here ↦ inr (inr (here.1, here.2))
  | inr child ↦ elim (child_on geometry some more other at (subst (λ (l : List Message). HasChild geometry l other at) all_is child)) [
    | inl early ↦ inl (subst (λ (k : GeometryView). HasChild k some other at) (sym starts) early)
    | inr late ↦ inr (inl (inr (subst (λ (k : GeometryView). HasChild k more other at) (sym (rooms ∙ starts)) late)))
  ]
]

-- Which nodes may be had

-- the node itself
pub climb_here : (geometry : GeometryView) (level index : ℕ) (more : List Message) → MayClimb geometry level index more level index
climb_here geometry level index more =
    let none : 0 ≡ level - level = omega arith in
    inl (omega arith, sym (above_none geometry index) ∙ ap (above geometry index) none)

module _ {geometry geometry' : GeometryView} (few more : List Message) (same : geometry' ≡ geometry)
    (wider : (message : Message) → Contains few message → Contains more message) where
  pub made_wider : (level index : ℕ) → IsAboveMade geometry' few level index → IsAboveMade geometry more level index
  made_wider level index node = record {
    below = node.below;
    child = node.child;
    block = node.block;
    listed = wider (Node node.below node.child node.block) node.listed;
    higher = node.higher;
    on_path = subst (λ (k : GeometryView). index ≡ above k node.child (level - node.below)) same node.on_path;
  }

  -- by a path of the node above
  pub climb_parent : (level index other at : ℕ) → level + 1 ≤ other → MayClimb geometry' (level + 1) (index / arity geometry') few other at →
      MayClimb geometry level index more other at
  climb_parent level index other at high may = elim may [
    | inl up ↦
        let here : at ≡ above geometry (index / arity geometry) (other - (level + 1)) =
        subst (λ (k : GeometryView). at ≡ above k (index / arity k) (other - (level + 1))) same up.1 in
        inl (omega (arith, high), here ∙ sym (path_up geometry index (other - level) (other - (level + 1)) (omega (arith, high))))
    | inr made ↦ inr (made_wider other at made)
  ]

  pub climb_wider : (level index other at : ℕ) → MayClimb geometry' level index few other at → MayClimb geometry level index more other at
  climb_wider level index other at may = elim may [
    | inl up ↦ inl (up.0, subst (λ (k : GeometryView). at ≡ above k index (other - level)) same up.1)
    | inr made ↦ inr (made_wider other at made)
  ]

  -- where the node was made
  pub climb_made : (level index : ℕ) (block : List ℕ) → Contains more (Node level index block) → (other at : ℕ) → level + 1 ≤ other →
      MayClimb geometry' level index few other at → IsAboveMade geometry more other at
  climb_made level index block listed other at high may = elim may [
    | inl up ↦
        record {
          below = level;
          child = index;
          block = block;
          listed = listed;
          higher = omega (arith, high);
          on_path = subst (λ (k : GeometryView). at ≡ above k index (other - level)) same up.1;
        }
    | inr made ↦ made_wider other at made
  ]

  pub may_wider : (Where Wider : Place → Type 0) → ((place : Place) → Where place → Wider place) → (level index : ℕ) →
      MayBeHad geometry' Where few level index → MayBeHad geometry Wider more level index
  may_wider Where Wider among level index may = elim may [
    | inl path ↦
        inl (path.0, among (node_place 0 path.0) path.1, subst (λ (k : GeometryView). index ≡ path_index k level path.0) same path.2)
    | inr made ↦ inr (made_wider level index made)
  ]

  -- of a page whose place may be named
  pub climb_page : (Where : Place → Type 0) (page : ℕ) → Where (node_place 0 page) → (level index : ℕ) → MayClimb geometry' 0 page few level index →
      MayBeHad geometry Where more level index
  climb_page Where page named level index may = elim may [
    | inl up ↦
        let up_is : level - 0 ≡ level = omega arith in
        inl (page, named, subst (λ (k : GeometryView). index ≡ above k page level) same (up.1 ∙ ap (above geometry' page) up_is))
    | inr made ↦ inr (made_wider level index made)
  ]
