-- Orders of the nodes of a set, and what the calls of a cache make of them.
use Rattle.std.proofs.Common.{◌≡◌, ◌==◌, ◌⊎◌, inl, inr, ℕ, ◌%◌, ◌<◌, List, [], ◌∷◌, ◌++◌, map, Option, Some, None, IsSome, Bool, true, false, not, cond, if◌then◌else◌, refl, sym, ◌∙◌, ap, subst, arith}
use Rattle.std.specs.List.{Contains, filter}
use Rattle.std.proofs.lemmas.Bool.{cases_Bool}
use Rattle.std.proofs.lemmas.Bool.Decides.{nat_tests}
use Rattle.std.proofs.lemmas.List.{map-append}
use Rattle.std.proofs.lemmas.List.Elements.{Contains-append_right}
use Rattle.cache_set.specs.declared.way.Way.{Way}
use Rattle.cache_set.specs.CacheSet.{IsSet, latest_place, touched, victim, way_of, with_found, with_latest, without}
use Rattle.cache_set.specs.Cache.{place_of}
use Rattle.cache_set.proofs.Ways.{place_found, without_absent}
use Rattle.bonsai_tree.specs.NodeCache.{node_sets}
use Rattle.bonsai_tree.specs.NodesHad.{after_had, is_in, is_of_set, misses, once_had, with_room_in}

-- Orders of ways

-- a node with a way is among them
pub held_in : (index : ℕ) (ways : List Way) → IsSome (way_of index ways) → is_in index (map place_of ways) ≡ true
held_in index [] held = absurd (cc)
held_in index (way ∷ ways) held = grind (arith, nat_tests, held_in index ways)

-- a node without a way is not among them
pub absent_in : (index : ℕ) (ways : List Way) → way_of index ways ≡ None → is_in index (map place_of ways) ≡ false
absent_in index [] none = refl
absent_in index (way ∷ ways) none = grind (arith, nat_tests, absent_in index ways)

without_order : (index : ℕ) (ways : List Way) → map place_of (without index ways) ≡ filter (λ other. not (other == index)) (map place_of ways)
without_order index [] = refl
without_order index (way ∷ ways) = grind (arith, nat_tests, without_order index ways)

latest_order : (way : Way) (ways : List Way) → map place_of (with_latest way ways) ≡ filter (λ other. not (other == way.place)) (map place_of ways) ++ way.place ∷ []
latest_order way ways =
    map-append place_of (without way.place ways) (way ∷ []) ∙ ap (λ (order : List ℕ). order ++ way.place ∷ []) (without_order way.place ways)

had_by : (found : Option Way) (index : ℕ) (ways : List Way) → way_of index ways ≡ found → IsSome found →
    map place_of (with_found found ways) ≡ once_had index (map place_of ways)
had_by None index ways is some = absurd (cc)
had_by (Some way) index ways is some =
    let place : way.place ≡ index = place_found index ways way is in
    let held : is_in index (map place_of ways) ≡ true = held_in index ways (subst IsSome (sym is) some) in
    latest_order way ways
    ∙ ap (λ (i : ℕ). filter (λ other. not (other == i)) (map place_of ways) ++ i ∷ []) place
    ∙ ap (λ (b : Bool). cond b (filter (λ other. not (other == index)) (map place_of ways)) (with_room_in (map place_of ways)) ++ index ∷ []) (sym held)

-- a touch of a node that has a way
pub touched_held : (index : ℕ) (ways : List Way) → IsSome (way_of index ways) → map place_of (touched index ways) ≡ once_had index (map place_of ways)
touched_held index ways some = had_by (way_of index ways) index ways refl some

-- of one that has none
pub touched_absent : (index : ℕ) (ways : List Way) → way_of index ways ≡ None → map place_of (touched index ways) ≡ map place_of ways
touched_absent index ways none = ap (λ (found : Option Way). map place_of (with_found found ways)) none

-- the latest way is changed
pub changed_order : (way : Way) (ways : List Way) → IsSet ways → latest_place ways ≡ Some way.place → map place_of (with_latest way ways) ≡ map place_of ways
changed_order way [] is latest = absurd (cc)
changed_order way (one ∷ []) is latest = grind (arith, nat_tests)
changed_order way (one ∷ next ∷ []) is latest = grind (arith, nat_tests)
changed_order way (one ∷ next ∷ more ∷ ways) is latest = absurd is

-- the most recently used one of an order
pub latest_in : List ℕ → Option ℕ
latest_in [] = None
latest_in (index ∷ []) = Some index
latest_in (index ∷ next ∷ order) = latest_in (next ∷ order)

pub latest_order_is : (ways : List Way) → latest_place ways ≡ latest_in (map place_of ways)
unfolding latest_in
latest_order_is [] = refl
latest_order_is (way ∷ []) = refl
latest_order_is (way ∷ next ∷ ways) = latest_order_is (next ∷ ways)

-- a way comes
pub added_order : (way : Way) (ways : List Way) → way_of way.place ways ≡ None → map place_of (with_latest way ways) ≡ map place_of ways ++ way.place ∷ []
added_order way ways none =
    ap (λ (others : List Way). map place_of (others ++ way ∷ [])) (without_absent way.place ways none) ∙ map-append place_of ways (way ∷ [])

-- the victim goes out
pub victim_order : (way : Way) (ways : List Way) → IsSet ways → victim ways ≡ Some way → map place_of (without way.place ways) ≡ with_room_in (map place_of ways)
victim_order way [] is goes = absurd (cc)
victim_order way (one ∷ []) is goes = absurd (cc)
victim_order way (one ∷ next ∷ []) is goes = grind (arith, nat_tests)
victim_order way (one ∷ next ∷ more ∷ ways) is goes = absurd is

-- none does where there is room
pub room_order : (ways : List Way) → victim ways ≡ None → with_room_in (map place_of ways) ≡ map place_of ways
room_order [] none = refl
room_order (one ∷ []) none = refl
room_order (one ∷ next ∷ ways) none = absurd (cc)

-- A node that came to an order

in_others : (index other : ℕ) (order : List ℕ) → is_in index (filter (λ node. not (node == other)) order) ≡ true → is_in index order ≡ true
in_others index other [] listed = listed
in_others index other (node ∷ order) listed = grind (arith, nat_tests, in_others index other order)

in_room : (index : ℕ) (order : List ℕ) → is_in index (with_room_in order) ≡ true → is_in index order ≡ true
in_room index [] listed = listed
in_room index (node ∷ []) listed = listed
in_room index (node ∷ next ∷ order) listed = grind (arith, nat_tests)

in_pushed : (index other : ℕ) (order : List ℕ) → is_in index (order ++ other ∷ []) ≡ true → (is_in index order ≡ true) ⊎ (index ≡ other)
in_pushed index other [] listed = inr (grind (arith, nat_tests))
in_pushed index other (node ∷ order) listed = grind (arith, nat_tests, in_pushed index other order)

in_once : (index other : ℕ) (order : List ℕ) → is_in index (once_had other order) ≡ true → (is_in index order ≡ true) ⊎ (index ≡ other)
in_once index other order listed = elim (cases_Bool (is_in other order)) [
  | inl held ↦
      let here : is_in index (filter (λ node. not (node == other)) order ++ other ∷ []) ≡ true =
      sym (ap (λ (b : Bool). is_in index (cond b (filter (λ node. not (node == other)) order) (with_room_in order) ++ other ∷ [])) held) ∙ listed in
      elim (in_pushed index other (filter (λ node. not (node == other)) order) here) [
        | inl before ↦ inl (in_others index other order before)
        | inr is ↦ inr is
      ]
  | inr absent ↦
      let here : is_in index (with_room_in order ++ other ∷ []) ≡ true =
      sym (ap (λ (b : Bool). is_in index (cond b (filter (λ node. not (node == other)) order) (with_room_in order) ++ other ∷ [])) absent) ∙ listed in
      elim (in_pushed index other (with_room_in order) here) [
        | inl before ↦ inl (in_room index order before)
        | inr is ↦ inr is
      ]
]

came_once : (level index : ℕ) (node : ℕ × ℕ) (order : List ℕ) → is_in index order ≡ false →
    is_in index (if is_of_set level (index % node_sets) node then once_had node.1 order else order) ≡ true → (level, index) ≡ node
came_once level index node order absent listed = elim (cases_Bool (is_of_set level (index % node_sets) node)) [
  | inr other ↦
      let here : is_in index order ≡ true = sym (ap (λ (b : Bool). is_in index (cond b (once_had node.1 order) order)) other) ∙ listed in
      absurd (cc)
  | inl own ↦
      let here : is_in index (once_had node.1 order) ≡ true = sym (ap (λ (b : Bool). is_in index (cond b (once_had node.1 order) order)) own) ∙ listed in
      elim (in_once index node.1 order here) [
        | inl before ↦ absurd (cc)
        | inr is ↦ let same : level ≡ node.0 = grind (arith, nat_tests) in ap (λ (k : ℕ). (k, index)) same ∙ ap (λ (i : ℕ). (node.0, i)) is
      ]
]

-- it was had
pub came_in : (level index : ℕ) (had : List (ℕ × ℕ)) (order : List ℕ) → is_in index order ≡ false →
    is_in index (after_had level (index % node_sets) had order) ≡ true → Contains had (level, index)
came_in level index [] order absent listed = absurd (cc)
came_in level index (node ∷ had) order absent listed =
    let next : List ℕ = if is_of_set level (index % node_sets) node then once_had node.1 order else order in
    elim (cases_Bool (is_in index next)) [
      | inl came ↦ subst (λ (n : ℕ × ℕ). Contains (node ∷ had) n) (sym (came_once level index node order absent came)) (0, omega arith, refl)
      | inr still ↦ Contains-append_right (node ∷ []) had (level, index) (came_in level index had next still listed)
    ]

-- Nodes of other levels

pub after_above : (level set : ℕ) (had : List (ℕ × ℕ)) (order : List ℕ) → ((at index : ℕ) → Contains had (at, index) → level < at) → after_had level set had order ≡ order
after_above level set [] order above = refl
after_above level set (node ∷ had) order above =
    let first : level < node.0 = above node.0 node.1 (0, omega arith, refl) in
    let other : is_of_set level set node ≡ false = grind (arith, nat_tests) in
    ap (λ (b : Bool). after_had level set had (cond b (once_had node.1 order) order)) other
    ∙ after_above level set had order (λ at index listed. above at index (Contains-append_right (node ∷ []) had (at, index) listed))

-- A node of a set

is_of_own : (level index : ℕ) → is_of_set level (index % node_sets) (level, index) ≡ true
is_of_own level index = grind (arith, nat_tests)

is_of_other : (level set at index : ℕ) → ¬ ((level ≡ at) × (set ≡ index % node_sets)) → is_of_set level set (at, index) ≡ false
is_of_other level set at index apart = grind (arith, nat_tests)

pub one_miss : (level index : ℕ) (order : List ℕ) → is_in index order ≡ false → misses level index ((level, index) ∷ []) order ≡ 1
one_miss level index order absent = grind (arith, nat_tests)

pub last_own : (level index : ℕ) (order : List ℕ) → after_had level (index % node_sets) ((level, index) ∷ []) order ≡ once_had index order
last_own level index order = ap (λ (b : Bool). cond b (once_had index order) order) (is_of_own level index)

pub last_other : (level set at index : ℕ) (order : List ℕ) → ¬ ((level ≡ at) × (set ≡ index % node_sets)) → after_had level set ((at, index) ∷ []) order ≡ order
last_other level set at index order apart = ap (λ (b : Bool). cond b (once_had index order) order) (is_of_other level set at index apart)
