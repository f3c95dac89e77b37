-- The caches of all levels, where one of them changes.
use Rattle.std.proofs.Common.{◌≡◌, ◌≢◌, inl, inr, ℕ, zero, suc, ◌+◌, ◌-◌, ◌<◌, ◌≤◌, List, [], ◌∷◌, ◌++◌, length, replicate, get_or, Some, None, Bool, refl, ap, sym, ◌∙◌, subst, arith}
use Rattle.std.proofs.Math.ListN.{set}
use Rattle.std.proofs.lemmas.Bool.{cases_eq, cases_lt}
use Rattle.std.proofs.lemmas.List.{get_or_default, get_or_past, get_or-replicate, get_or-set_same, get_or-set_other, length-replicate, length-set, replicate-append-replicate}
use Rattle.sec_base.specs.Geometry.{GeometryView, IsNode}
use Rattle.cache_set.specs.declared.way.Way.{Way}
use Rattle.cache_set.specs.Cache.{IsCache, new_cache, places, way_at}
use Rattle.cache_set.proofs.Sets.{cache_new, none_new, few_in}
use Rattle.bonsai_tree.specs.NodeCache.{AreEmpty, AreNodeCaches, OtherLevels, OtherNodes, copied_nodes, level_cache, most_copies, node_sets, node_way}

-- the cache of a level above level 0
pub level_is : (caches : List (List (List Way))) (level : ℕ) → 0 < level → level_cache caches level ≡ get_or caches (level - 1) []
level_is caches zero some = absurd (omega arith)
level_is caches (suc level) some = let back : level ≡ suc level - 1 = omega arith in ap (λ n. get_or caches n []) back

level_other : (caches : List (List (List Way))) (level : ℕ) (cache : List (List Way)) → 0 < level → OtherLevels level caches (set caches (level - 1) cache)
level_other caches level cache some zero apart = refl
level_other caches level cache some (suc other) apart = get_or-set_other caches (level - 1) other cache [] (λ same. apart (omega (arith, same)))

module _ (geometry : GeometryView) (caches : List (List (List Way))) (level : ℕ) (is : AreNodeCaches geometry caches) (some : 0 < level) (inside : level ≤ geometry.levels)
    (old : List (List Way)) (was : old ≡ get_or caches (level - 1) old) where
  below : level - 1 < length caches
  below = omega (arith, is.all)

  pub read_level : level_cache caches level ≡ old
  read_level = level_is caches level some ∙ sym (was ∙ get_or_default caches (level - 1) old [] below)

  module _ (new : List (List Way)) where
    pub level_here : level_cache (set caches (level - 1) new) level ≡ new
    level_here = level_is (set caches (level - 1) new) level some ∙ get_or-set_same caches (level - 1) new [] below

    pub others : OtherLevels level caches (set caches (level - 1) new)
    others = level_other caches level new some

    -- by what becomes of the ways of the level
    same_at : (at : ℕ) → way_at new at ≡ way_at old at → node_way (set caches (level - 1) new) level at ≡ node_way caches level at
    same_at at same = ap (λ (c : List (List Way)). way_at c at) level_here ∙ same ∙ ap (λ (c : List (List Way)). way_at c at) (sym read_level)

    pub all_same : ((at : ℕ) → way_at new at ≡ way_at old at) → (other at : ℕ) → node_way (set caches (level - 1) new) other at ≡ node_way caches other at
    all_same same other at =
        elim (cases_eq other level) [
          | inr apart ↦ ap (λ (c : List (List Way)). way_at c at) (others other apart)
          | inl e ↦ subst (λ (k : ℕ). node_way (set caches (level - 1) new) k at ≡ node_way caches k at) (sym e) (same_at at (same at))
        ]

    pub other_same : (index : ℕ) → ((at : ℕ) → at ≢ index → way_at new at ≡ way_at old at) → OtherNodes level index caches (set caches (level - 1) new)
    other_same index same other at apart =
        elim (cases_eq other level) [
          | inr differs ↦ ap (λ (c : List (List Way)). way_at c at) (others other differs)
          | inl e ↦ subst (λ (k : ℕ). node_way (set caches (level - 1) new) k at ≡ node_way caches k at) (sym e)
              (same_at at (same at (λ here. apart (e, here))))
        ]

    -- where the ways are of nodes of the level, and whole
    pub are_with : IsCache node_sets new → ((at : ℕ) (way : Way) → way_at new at ≡ Some way → IsNode geometry level at × (length way.copy ≡ 64)) →
        AreNodeCaches geometry (set caches (level - 1) new)
    are_with cache of = record {
      all = length-set caches (level - 1) new ∙ is.all;
      each = λ other low high.
          elim (cases_eq other level) [
            | inr apart ↦ subst (IsCache node_sets) (sym (others other apart)) (is.each other low high)
            | inl e ↦ subst (λ (k : ℕ). IsCache node_sets (level_cache (set caches (level - 1) new) k)) (sym e) (subst (IsCache node_sets) (sym level_here) cache)
          ];
      nodes = λ other at way found.
          elim (cases_eq other level) [
            | inr apart ↦ is.nodes other at way (ap (λ (c : List (List Way)). way_at c at) (sym (others other apart)) ∙ found)
            | inl e ↦ subst (λ (k : ℕ). IsNode geometry k at) (sym e)
                (of at way (ap (λ (c : List (List Way)). way_at c at) (sym level_here)
                ∙ ap (λ (k : ℕ). node_way (set caches (level - 1) new) k at) (sym e) ∙ found)).0
          ];
      whole = λ other at way found.
          elim (cases_eq other level) [
            | inr apart ↦ is.whole other at way (ap (λ (c : List (List Way)). way_at c at) (sym (others other apart)) ∙ found)
            | inl e ↦ (of at way (ap (λ (c : List (List Way)). way_at c at) (sym level_here)
                ∙ ap (λ (k : ℕ). node_way (set caches (level - 1) new) k at) (sym e) ∙ found)).1
          ];
    }

    -- where the ways are those of before
    of_before : (at : ℕ) (way : Way) → way_at new at ≡ way_at old at → way_at new at ≡ Some way → IsNode geometry level at × (length way.copy ≡ 64)
    of_before at way same found =
        let before : node_way caches level at ≡ Some way = ap (λ (c : List (List Way)). way_at c at) read_level ∙ sym same ∙ found in
        (is.nodes level at way before, is.whole level at way before)

    pub are_same : IsCache node_sets new → ((at : ℕ) → way_at new at ≡ way_at old at) → AreNodeCaches geometry (set caches (level - 1) new)
    are_same cache same = are_with cache (λ at way found. of_before at way (same at) found)

    pub are_put : IsCache node_sets new → (index : ℕ) (block : List ℕ) (put : Bool) → IsNode geometry level index → length block ≡ 64 →
        way_at new index ≡ Some (record { place = index; changed = put; copy = block }) →
        ((at : ℕ) → at ≢ index → way_at new at ≡ way_at old at) → AreNodeCaches geometry (set caches (level - 1) new)
    are_put cache index block put node long here same =
        are_with cache
        (λ at way found.
        elim (cases_eq at index) [
          | inr apart ↦ of_before at way (same at apart) found
          | inl e ↦
              let is_way : Some way ≡ Some (record { place = index; changed = put; copy = block }) =
              sym found ∙ ap (way_at new) e ∙ here in
              let copy : way.copy ≡ block = cc in
              (subst (IsNode geometry level) (sym e) node, ap length copy ∙ long)
        ])

    pub are_left : IsCache node_sets new → (index : ℕ) → way_at new index ≡ None →
        ((at : ℕ) → at ≢ index → way_at new at ≡ way_at old at) → AreNodeCaches geometry (set caches (level - 1) new)
    are_left cache index none same =
        are_with cache
        (λ at way found.
        elim (cases_eq at index) [
          | inr apart ↦ of_before at way (same at apart) found
          | inl e ↦ let none_here : None ≡ Some way = sym none ∙ ap (way_at new) (sym e) ∙ found in absurd (cc)
        ])

-- New caches, of which none has a copy

pub new_caches : ℕ → List (List (List Way))
new_caches levels = replicate levels (new_cache node_sets)

pub caches_none : [] ≡ new_caches 0
unfolding new_caches
caches_none = refl

pub caches_more : (levels : ℕ) → new_caches levels ++ new_cache node_sets ∷ [] ≡ new_caches (levels + 1)
unfolding new_caches
caches_more levels = replicate-append-replicate levels 1 (new_cache node_sets)

level_new : (levels level : ℕ) → 0 < level → level ≤ levels → level_cache (new_caches levels) level ≡ new_cache node_sets
unfolding new_caches
level_new levels level some inside =
    level_is (replicate levels (new_cache node_sets)) level some ∙ get_or-replicate levels (level - 1) (new_cache node_sets) [] (omega arith)

level_past : (levels level : ℕ) → levels < level → level_cache (new_caches levels) level ≡ []
unfolding new_caches
level_past levels level past =
    level_is (replicate levels (new_cache node_sets)) level (omega arith)
    ∙ get_or_past (replicate levels (new_cache node_sets)) (level - 1) [] (omega (arith, length-replicate levels (new_cache node_sets)))

pub new_empty : (levels : ℕ) → AreEmpty (new_caches levels)
unfolding new_caches
new_empty levels zero index = refl
new_empty levels (suc level) index =
    elim (cases_lt level levels) [
      | inl less ↦ ap (λ (c : List (List Way)). way_at c index) (level_new levels (suc level) (omega arith) (omega arith)) ∙ none_new node_sets index (omega arith)
      | inr past ↦ ap (λ (c : List (List Way)). way_at c index) (level_past levels (suc level) (omega arith))
    ]

pub new_none : (levels level : ℕ) → copied_nodes (new_caches levels) level ≡ []
unfolding new_caches
new_none levels zero = refl
new_none levels (suc level) =
    elim (cases_lt level levels) [
      | inl less ↦ ap places (level_new levels (suc level) (omega arith) (omega arith))
      | inr past ↦ ap places (level_past levels (suc level) (omega arith))
    ]

pub new_are : (geometry : GeometryView) → AreNodeCaches geometry (new_caches geometry.levels)
unfolding new_caches
new_are geometry = record {
  all = length-replicate geometry.levels (new_cache node_sets);
  each = λ level some inside. subst (IsCache node_sets) (sym (level_new geometry.levels level some inside)) (cache_new node_sets (omega arith) (omega arith));
  nodes = λ level index way found. let none : None ≡ Some way = sym (new_empty geometry.levels level index) ∙ found in absurd (cc);
  whole = λ level index way found. let none : None ≡ Some way = sym (new_empty geometry.levels level index) ∙ found in absurd (cc);
}

-- There are few copies

pub few_copies : (geometry : GeometryView) (caches : List (List (List Way))) (level : ℕ) → AreNodeCaches geometry caches → length (copied_nodes caches level) ≤ most_copies
few_copies geometry caches zero is = omega arith
few_copies geometry caches (suc level) is =
    elim (cases_lt level geometry.levels) [
      | inl less ↦
          let cache : IsCache node_sets (level_cache caches (suc level)) = is.each (suc level) (omega arith) (omega arith) in
          omega (arith, few_in node_sets 0 (level_cache caches (suc level)) cache.sets_are, cache.counted)
      | inr past ↦
          let none : level_cache caches (suc level) ≡ [] = get_or_past caches level [] (omega (arith, is.all)) in
          subst (λ (c : List (List Way)). length (places c) ≤ 16) (sym none) (omega arith)
    ]
