use Rattle.std.proofs.Common.{◌≡◌, ◌+◌, ℕ, ap, sym, ◌∙◌, subst, arith}
use Rattle.sec_base.specs.Geometry.{GeometryView, parent}
use Rattle.cache_set.specs.Bringing.{with_changed}
use Rattle.bonsai_tree.specs.NodeCache.{AreNodeCaches, IsLatestNode, level_cache}
use Rattle.bonsai_tree.specs.Tree.{TreeView}
use Rattle.bonsai_tree.proofs.NodesHad.{changed_same}
use Rattle.bonsai_tree.proofs.Views.{others_as, tree_of}
use Rattle.bonsai_tree.proofs.tree.Tree.keep_tag.Goals as goal

pub returns-clause-orders : goal.returns-clause-orders
returns-clause-orders c =
    let tree = c.args.self.now in
    let above = c.parent-above.result in
    let are : AreNodeCaches tree.geometry tree.caches = subst (λ (v : TreeView). AreNodeCaches v.geometry v.caches) c.self.view_is c.self.invariant in
    let is : above ≡ parent tree.geometry c.args.level c.args.index =
    c.parent-above.ensures.parent ∙ ap (λ (k : GeometryView). parent k c.args.level c.args.index) (c.geometry-geometry.ensures ∙ ap (λ (v : TreeView). v.geometry) c.self.view_is) in
    let level_is : above.0 ≡ c.args.level + 1 = ap (λ (node : ℕ × ℕ). node.0) is in
    changed_same tree (tree_of c.self.inside.root c.change.new.self) above.0 (are.each above.0 (omega (arith, level_is)) (omega (arith, level_is, c.requires.below)))
    (others_as c.self.inside.root c.self.inside.nodes c.change.new.self c.self.view_is above.0 c.change.ensures.others) above.1 c.put_tag.new.block
    (subst (λ (node : ℕ × ℕ). IsLatestNode tree.caches node.0 node.1) (sym is) c.requires.parent)
    (subst (λ (v : TreeView). level_cache c.change.new.self.caches above.0 ≡ with_changed (level_cache v.caches above.0) above.1 c.put_tag.new.block) c.self.view_is
    c.change.ensures.after)
