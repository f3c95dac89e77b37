use Rattle.std.proofs.Common.{◌≡◌, rules, sym, ◌∙◌}
use Rattle.sec_base.specs.declared.message.Message.TheVariants.{Node}
use Rattle.tag_engine.specs.Invariant.{engine_view}
use Rattle.tag_engine.specs.TagEngine.{tags_of}
use Rattle.tag_engine.proofs.Upkeep.{failed_check_node, kept_collision}
use Rattle.tag_engine.proofs.Collisions.{known}
use Rattle.tag_engine.proofs.tag_engine.TagEngine.check_node.Goals as goal

pub returns-then-ne-clause-state : goal.returns-then-ne-clause-state
returns-then-ne-clause-state g c =
    failed_check_node (tags_of g.T.Tagger.data_tag_of g.T.Tagger.node_tag_of c.args.self.now) c.args.self.now c.args.level c.args.index
    c.args.block.now c.args.tag.now

pub invariant_of-self : goal.invariant_of-self
invariant_of-self g c =
    let tagged : c.args.tag.now ≡ tags_of g.T.Tagger.data_tag_of g.T.Tagger.node_tag_of c.args.self.now (Node c.args.level c.args.index c.args.block.now) = search rules in
    kept_collision _ _ _ _ (engine_view c.self.inside) c.args.level c.args.index c.args.block.now c.args.tag.now _
    c.self.invariant (rw (← c.self.view_is) at tagged) (rw (← c.self.view_is) at c.collision-self-inside.ensures)

pub returns-then-is_none-clause-known : goal.returns-then-is_none-clause-known
returns-then-is_none-clause-known g c = λ last _ none made tagged.
    known (tags_of g.T.Tagger.data_tag_of g.T.Tagger.node_tag_of c.args.self.now) c.args.self.now.made c.args.level c.args.index
    c.args.block.now c.args.tag.now last (sym none ∙ c.collision-self-inside.ensures) made tagged

pub returns-then-is_none-clause-genuine : goal.returns-then-is_none-clause-genuine
returns-then-is_none-clause-genuine g c = (invariant_of-self g c).evidence
