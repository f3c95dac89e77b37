use Rattle.std.proofs.Common.{◌<◌, ◌≤◌, ◌∙◌, List, length, ap, sym, subst}
use Rattle.cache_set.specs.declared.way.Way.{Way}
use Rattle.cache_set.specs.Cache.{set_at}
use Rattle.bonsai_tree.specs.NodeCache.{NodeCacheView, node_way}
use Rattle.bonsai_tree.proofs.Copies.{are_left, other_same, level_here}
use Rattle.bonsai_tree.proofs.node_cache.NodeCache.remove.Goals as goal

pub invariant_of-self : goal.invariant_of-self
invariant_of-self c = are_left c.self.inside.geometry c.self.inside.caches.items c.args.level c.self.invariant c.requires.above (subst (λ (v : NodeCacheView). c.args.level ≤ v.geometry.levels) (sym c.self.view_is) c.requires.inside) c.index_mut.result.now c.index_mut.ensures.value c.remove.new.self c.remove.ensures.cache c.args.index c.remove.ensures.removed c.remove.ensures.same

pub returns-clause-nodes : goal.returns-clause-nodes
returns-clause-nodes c = are_left c.self.inside.geometry c.self.inside.caches.items c.args.level c.self.invariant c.requires.above (subst (λ (v : NodeCacheView). c.args.level ≤ v.geometry.levels) (sym c.self.view_is) c.requires.inside) c.index_mut.result.now c.index_mut.ensures.value c.remove.new.self c.remove.ensures.cache c.args.index c.remove.ensures.removed c.remove.ensures.same

pub returns-clause-same : goal.returns-clause-same
returns-clause-same c = λ other at apart. other_same c.self.inside.geometry c.self.inside.caches.items c.args.level c.self.invariant c.requires.above (subst (λ (v : NodeCacheView). c.args.level ≤ v.geometry.levels) (sym c.self.view_is) c.requires.inside) c.index_mut.result.now c.index_mut.ensures.value c.remove.new.self c.args.index c.remove.ensures.same other at apart ∙ ap (λ (v : NodeCacheView). node_way v.caches other at) c.self.view_is

pub returns-clause-room : goal.returns-clause-room
returns-clause-room c = λ other beside.
    subst (λ (cache : List (List Way)). length (set_at cache other) < 2) (sym (level_here c.self.inside.geometry c.self.inside.caches.items c.args.level c.self.invariant c.requires.above (subst (λ (v : NodeCacheView). c.args.level ≤ v.geometry.levels) (sym c.self.view_is) c.requires.inside) c.index_mut.result.now c.index_mut.ensures.value c.remove.new.self)) (c.remove.ensures.room other beside)
