use Rattle.std.proofs.Common.{◌≡◌, ◌≢◌, rules, ◌∙◌}
use Rattle.sec_base.specs.declared.message.Message.TheVariants.{Node}
use Rattle.tag_engine.specs.TagEngine.{tags_of}
use Rattle.tag_engine.proofs.Collisions.{none_made, same_block, other_tag, a_collision}
use Rattle.tag_engine.proofs.tag_engine.TagEngine.collision.Goals as goal

pub returns-in_err-made_at : goal.returns-in_err-made_at
returns-in_err-made_at g c =
    c.from_residual.ensures
    ∙ none_made (tags_of g.T.Tagger.data_tag_of g.T.Tagger.node_tag_of c.args.self.now) c.args.self.now.made c.args.level c.args.index
    c.args.block.now c.args.tag.now c.in_err-made_at.ensures

pub returns-then-eq : goal.returns-then-eq
returns-then-eq g c =
    let same : c.in_ok-made_at.last ≡ c.args.block.now = search rules in
    same_block (tags_of g.T.Tagger.data_tag_of g.T.Tagger.node_tag_of c.args.self.now) c.args.self.now.made c.args.level c.args.index
    c.in_ok-made_at.made_at c.in_ok-made_at.last c.args.block.now c.args.tag.now c.in_ok-made_at.ensures same

pub returns-then-ne : goal.returns-then-ne
returns-then-ne g c =
    let differs : tags_of g.T.Tagger.data_tag_of g.T.Tagger.node_tag_of c.args.self.now (Node c.args.level c.args.index c.in_ok-made_at.last) ≢ c.args.tag.now = search rules in
    other_tag (tags_of g.T.Tagger.data_tag_of g.T.Tagger.node_tag_of c.args.self.now) c.args.self.now.made c.args.level c.args.index
    c.in_ok-made_at.made_at c.in_ok-made_at.last c.args.block.now c.args.tag.now c.in_ok-made_at.ensures differs

pub returns : goal.returns
returns g c =
    let differs : c.in_ok-made_at.last ≢ c.args.block.now = search rules in
    let tagged : tags_of g.T.Tagger.data_tag_of g.T.Tagger.node_tag_of c.args.self.now (Node c.args.level c.args.index c.in_ok-made_at.last) ≡ c.args.tag.now = search rules in
    a_collision (tags_of g.T.Tagger.data_tag_of g.T.Tagger.node_tag_of c.args.self.now) c.args.self.now.made c.args.level c.args.index
    c.in_ok-made_at.made_at c.in_ok-made_at.last c.args.block.now c.args.tag.now c.in_ok-made_at.ensures differs tagged
