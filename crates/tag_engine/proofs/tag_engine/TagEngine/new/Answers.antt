use Rattle.std.proofs.Common.{ℕ, Option, replicate, rules, ap, ◌∙◌}
use Rattle.std.specs.Vec.{vec_capacity}
use Rattle.tag_engine.specs.TagEngine.{tags_of, new_engine}
use Rattle.tag_engine.proofs.Upkeep.{kept_new}
use Rattle.tag_engine.proofs.tag_engine.TagEngine.new.Goals as goal

pub invariant_of-result : goal.invariant_of-result
invariant_of-result g c =
    rw c.new.ensures.items
    (kept_new (tags_of g.T.Tagger.data_tag_of g.T.Tagger.node_tag_of (new_engine c.args.tagger c.args.geometry))
    c.in_ok-vec.field-0.items c.in_ok-vec-2.field-0.items (vec_capacity c.new.result) c.lines.result c.node_end.result c.args.geometry c.args.tagger
    (c.in_ok-vec.ensures.items_if_clones_equal (λ y h. search rules) ∙ ap (λ (o : Option ℕ). replicate c.lines.result o) c.none.ensures) c.lines.ensures.lines
    (c.in_ok-vec-2.ensures.items_if_clones_equal (λ y h. search rules) ∙ ap (λ (o : Option ℕ). replicate c.node_end.result o) c.none-2.ensures) c.node_end.ensures.end)
