use Rattle.std.proofs.Common.{◌≤◌, ◌∙◌, ap, sym, subst}
use Rattle.bonsai_tree.specs.NodeCache.{NodeCacheView, node_way}
use Rattle.bonsai_tree.proofs.Copies.{all_same, are_same}
use Rattle.bonsai_tree.proofs.node_cache.NodeCache.touch.Goals as goal

pub invariant_of-self : goal.invariant_of-self
invariant_of-self c = are_same c.self.inside.geometry c.self.inside.caches.items c.args.level c.self.invariant c.requires.above (subst (λ (v : NodeCacheView). c.args.level ≤ v.geometry.levels) (sym c.self.view_is) c.requires.inside) c.index_mut.result.now c.index_mut.ensures.value c.touch.new.self c.touch.ensures.cache c.touch.ensures.same

pub returns-clause-nodes : goal.returns-clause-nodes
returns-clause-nodes c = are_same c.self.inside.geometry c.self.inside.caches.items c.args.level c.self.invariant c.requires.above (subst (λ (v : NodeCacheView). c.args.level ≤ v.geometry.levels) (sym c.self.view_is) c.requires.inside) c.index_mut.result.now c.index_mut.ensures.value c.touch.new.self c.touch.ensures.cache c.touch.ensures.same

pub returns-clause-same : goal.returns-clause-same
returns-clause-same c = λ other at. all_same c.self.inside.geometry c.self.inside.caches.items c.args.level c.self.invariant c.requires.above (subst (λ (v : NodeCacheView). c.args.level ≤ v.geometry.levels) (sym c.self.view_is) c.requires.inside) c.index_mut.result.now c.index_mut.ensures.value c.touch.new.self c.touch.ensures.same other at ∙ ap (λ (v : NodeCacheView). node_way v.caches other at) c.self.view_is
