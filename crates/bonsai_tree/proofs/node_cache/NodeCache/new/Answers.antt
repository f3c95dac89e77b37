use Rattle.std.proofs.Common.{◌≡◌, ℕ, List, [], ◌∷◌, ◌++◌, ap, sym, ◌∙◌, subst, arith}
use Rattle.cache_set.specs.declared.way.Way.{Way}
use Rattle.bonsai_tree.specs.NodeCache.{AreEmpty, AreNodeCaches, copied_nodes}
use Rattle.bonsai_tree.proofs.Copies.{caches_more, caches_none, new_are, new_caches, new_empty, new_none}
use Rattle.bonsai_tree.proofs.node_cache.NodeCache.new.Goals as goal

pub loop-init : goal.loop-init
loop-init c = c.new-caches.ensures.items ∙ caches_none

pub loop-preserved : goal.loop-preserved
loop-preserved c =
    c.in_ok-push.ensures.items
    ∙ ap (λ (caches : List (List (List Way))). caches ++ c.in_ok-new.field-0 ∷ []) c.loop.invariant
    ∙ ap (λ (cache : List (List Way)). new_caches c.loop.counter ++ cache ∷ []) c.in_ok-new.ensures.empty
    ∙ caches_more c.loop.counter

pub invariant_of-result : goal.invariant_of-result
invariant_of-result c =
    let count : c.loop.counter ≡ c.args.geometry.levels = omega (arith, c.levels-end.ensures.levels) in
    subst (λ (caches : List (List (List Way))). AreNodeCaches c.args.geometry caches) (ap new_caches (sym count) ∙ sym c.loop.invariant)
    (new_are c.args.geometry)

pub returns-clause-nodes : goal.returns-clause-nodes
returns-clause-nodes c =
    let count : c.loop.counter ≡ c.args.geometry.levels = omega (arith, c.levels-end.ensures.levels) in
    subst (λ (caches : List (List (List Way))). AreNodeCaches c.args.geometry caches) (ap new_caches (sym count) ∙ sym c.loop.invariant)
    (new_are c.args.geometry)

pub returns-clause-none : goal.returns-clause-none
returns-clause-none c = subst (λ (caches : List (List (List Way))). AreEmpty caches) (sym c.loop.invariant) (new_empty c.loop.counter)

pub returns-clause-empty : goal.returns-clause-empty
returns-clause-empty c = subst (λ (caches : List (List (List Way))). (level : ℕ) → copied_nodes caches level ≡ []) (sym c.loop.invariant) (new_none c.loop.counter)
