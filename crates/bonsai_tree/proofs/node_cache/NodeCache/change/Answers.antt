use Rattle.std.proofs.Common.{◌∙◌, true, ap, sym, subst, rules}
use Rattle.sec_base.specs.Geometry.{IsNode}
use Rattle.bonsai_tree.specs.NodeCache.{NodeCacheView, node_way}
use Rattle.bonsai_tree.proofs.Copies.{are_put, other_same}
use Rattle.bonsai_tree.proofs.node_cache.NodeCache.change.Goals as goal

pub invariant_of-self : goal.invariant_of-self
invariant_of-self c = are_put c.self.inside.geometry c.self.inside.caches.items c.args.level c.self.invariant c.requires.above (subst (λ (v : NodeCacheView). IsNode v.geometry c.args.level c.args.index) (sym c.self.view_is) c.requires.node).0 c.index_mut.result.now c.index_mut.ensures.value c.change.new.self c.change.ensures.cache c.args.index c.args.block true (subst (λ (v : NodeCacheView). IsNode v.geometry c.args.level c.args.index) (sym c.self.view_is) c.requires.node) (search rules) c.change.ensures.changed c.change.ensures.same

pub returns-clause-nodes : goal.returns-clause-nodes
returns-clause-nodes c = are_put c.self.inside.geometry c.self.inside.caches.items c.args.level c.self.invariant c.requires.above (subst (λ (v : NodeCacheView). IsNode v.geometry c.args.level c.args.index) (sym c.self.view_is) c.requires.node).0 c.index_mut.result.now c.index_mut.ensures.value c.change.new.self c.change.ensures.cache c.args.index c.args.block true (subst (λ (v : NodeCacheView). IsNode v.geometry c.args.level c.args.index) (sym c.self.view_is) c.requires.node) (search rules) c.change.ensures.changed c.change.ensures.same

pub returns-clause-same : goal.returns-clause-same
returns-clause-same c = λ other at apart. other_same c.self.inside.geometry c.self.inside.caches.items c.args.level c.self.invariant c.requires.above (subst (λ (v : NodeCacheView). IsNode v.geometry c.args.level c.args.index) (sym c.self.view_is) c.requires.node).0 c.index_mut.result.now c.index_mut.ensures.value c.change.new.self c.args.index c.change.ensures.same other at apart ∙ ap (λ (v : NodeCacheView). node_way v.caches other at) c.self.view_is
