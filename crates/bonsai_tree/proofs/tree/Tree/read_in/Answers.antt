use Rattle.std.proofs.Common.{◌≡◌, ◌+◌, ◌/◌, false, Some, None, refl, ap, subst, rules}
use Rattle.std.specs.Option.{option_map}
use Rattle.std.specs.Result.{result_err}
use Rattle.sec_base.specs.Geometry.{arity}
use Rattle.sec_base.proofs.Results.{was_none}
use Rattle.sec_base.specs.declared.stop.MemStop.TheVariants.{NoMemory}
use Rattle.cache_set.specs.Bringing.{with_new}
use Rattle.tag_engine.specs.TagEngine.{tags_of}
use Rattle.bonsai_tree.specs.NodeCache.{AreNodeCaches, copy_of, level_cache}
use Rattle.bonsai_tree.specs.Tree.{HoldsTree, NodeCame, TreeView}
use Rattle.bonsai_tree.proofs.NodesHad.{put_here}
use Rattle.bonsai_tree.proofs.NodeCalls.{climbs_put, climbs_read, kept_node}
use Rattle.bonsai_tree.proofs.OutFor.{kept_at}
use Rattle.bonsai_tree.proofs.Views.{latest_cached, geometry_as, others_as, root_as, same_as, tree_of}
use Rattle.bonsai_tree.proofs.WrittenBack.{up_put, up_same}
use Rattle.bonsai_tree.proofs.TreeMakes.{makes_read}
use Rattle.bonsai_tree.proofs.tree.Tree.read_in.Given.{Over}
use Rattle.bonsai_tree.proofs.tree.Tree.read_in.Goals as goal

pub returns-in_err-block-clause-climbs : goal.returns-in_err-block-clause-climbs
returns-in_err-block-clause-climbs g c =
    let why = c.in_err-block.field-0.0 in
    let stop : result_err c.from_residual.result ≡ Some why = search rules in
    rw stop (climbs_read g.T.Tagger.data_tag_of g.T.Tagger.node_tag_of c.args.self.now c.requires.node
    (c.kept_tag-tag.ensures c.args.tags.now.made) c.in_err-block.ensures.read)

pub returns-clause-climbs : goal.returns-clause-climbs
returns-clause-climbs g c =
    climbs_put g.T.Tagger.data_tag_of g.T.Tagger.node_tag_of c.args.self.now c.requires.node
    (c.kept_tag-tag.ensures c.args.tags.now.made) c.in_ok-block.ensures.read
    (tree_of c.self.inside.root c.put.new.self) c.in_ok-block.block refl
    (geometry_as c.self.inside.root c.self.inside.nodes c.put.new.self c.self.view_is c.put.ensures.geometry)
    (root_as c.self.inside.root c.self.inside.nodes c.put.new.self c.self.view_is) c.put.ensures.nodes
    (others_as c.self.inside.root c.self.inside.nodes c.put.new.self c.self.view_is c.args.level c.put.ensures.others)
    (ap (λ o. option_map copy_of o) c.requires.absent) (ap (λ o. option_map copy_of o) c.put.ensures.put)
    (same_as c.self.inside.root c.self.inside.nodes c.put.new.self c.self.view_is c.args.level c.args.index c.put.ensures.same)
    (λ below. latest_cached c.args.self.now (c.args.level + 1) (c.args.index / arity c.args.self.now.geometry) (c.requires.parent below))
    c.in_ok-block.ensures.read.block

-- it came, where the tree fits
came_in : (g : Over) (c : goal.After-put g) → HoldsTree (tags_of g.T.Tagger.data_tag_of g.T.Tagger.node_tag_of) c.args.self.now (g.B.Bus.history c.args.bus.now) c.args.tags.now →
    c.read_kept.new.tags.evidence ≡ None → NodeCame c.args.tags.now.made c.args.level c.args.index (g.B.Bus.history c.args.bus.now) (g.B.Bus.history c.read_kept.new.bus)
came_in g c holds quiet =
    c.in_ok-block.ensures.read.came (kept_node g.T.Tagger.data_tag_of g.T.Tagger.node_tag_of c.args.self.now c.requires.node
    (c.kept_tag-tag.ensures c.args.tags.now.made) c.in_ok-block.ensures.read holds
    (was_none c.args.tags.now.evidence c.read_kept.new.tags.evidence c.in_ok-block.ensures.read.moves.evidence quiet))
    (λ (e : None ≡ Some NoMemory). cc)

pub returns-in_err-block-clause-back : goal.returns-in_err-block-clause-back
returns-in_err-block-clause-back g c =
    let why = c.in_err-block.field-0.0 in
    let stop : result_err c.from_residual.result ≡ Some why = search rules in
    rw stop (up_same c.in_err-block.ensures.read.moves.reads c.in_err-block.ensures.read.made (λ level index. refl))

pub returns-clause-back : goal.returns-clause-back
returns-clause-back g c =
    up_put c.args.level c.args.index c.in_ok-block.block
    c.in_ok-block.ensures.read.moves.reads c.in_ok-block.ensures.read.made (ap (λ o. option_map copy_of o) c.requires.absent) (ap (λ o. option_map copy_of o) c.put.ensures.put)
    (same_as c.self.inside.root c.self.inside.nodes c.put.new.self c.self.view_is c.args.level c.args.index c.put.ensures.same)
    (λ calm. came_in g c calm.0 calm.1)

pub returns-clause-kept : goal.returns-clause-kept
returns-clause-kept g c =
    kept_at c.args.level c.args.index c.args.self.now (tree_of c.self.inside.root c.put.new.self) (record { block = c.in_ok-block.block; changed = false })
    (ap (λ o. option_map copy_of o) c.put.ensures.put)
    (same_as c.self.inside.root c.self.inside.nodes c.put.new.self c.self.view_is c.args.level c.args.index c.put.ensures.same)

pub returns-clause-had : goal.returns-clause-had
returns-clause-had g c =
    let are : AreNodeCaches c.args.self.now.geometry c.args.self.now.caches =
    subst (λ (v : TreeView). AreNodeCaches v.geometry v.caches) c.self.view_is c.self.invariant in
    record {
      added =
          put_here c.args.self.now (tree_of c.self.inside.root c.put.new.self) c.args.level (are.each c.args.level c.requires.above c.requires.node.0)
          (others_as c.self.inside.root c.self.inside.nodes c.put.new.self c.self.view_is c.args.level c.put.ensures.others) c.args.index
          c.in_ok-block.block c.requires.absent
          (subst (λ (v : TreeView). level_cache c.put.new.self.caches c.args.level ≡ with_new (level_cache v.caches c.args.level) c.args.index c.in_ok-block.block) c.self.view_is
          c.put.ensures.after);
      once = c.in_ok-block.ensures.read.one;
      alone = c.in_ok-block.ensures.read.alone;
    }

pub returns-in_err-block-clause-makes : goal.returns-in_err-block-clause-makes
returns-in_err-block-clause-makes g c =
    let why = c.in_err-block.field-0.0 in
    let stop : result_err c.from_residual.result ≡ Some why = search rules in
    let read = c.in_err-block.ensures.makes in (
      read.0,
      read.1,
      rw stop
          (makes_read g.T.Tagger.data_tag_of g.T.Tagger.node_tag_of c.args.self.now c.args.level c.args.index c.requires.node (c.kept_tag-tag.ensures c.args.tags.now.made) read.2),
    )

pub returns-clause-makes : goal.returns-clause-makes
returns-clause-makes g c =
    let read = c.in_ok-block.ensures.makes in (
      read.0,
      read.1,
      makes_read g.T.Tagger.data_tag_of g.T.Tagger.node_tag_of c.args.self.now c.args.level c.args.index c.requires.node (c.kept_tag-tag.ensures c.args.tags.now.made) read.2,
    )

pub returns-clause-came : goal.returns-clause-came
returns-clause-came g c = came_in g c
