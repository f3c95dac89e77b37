use Rattle.std.proofs.Common.{arith, sym, ◌∙◌}
use Rattle.tag_engine.specs.Invariant.{engine_view}
use Rattle.tag_engine.proofs.Collisions.{last_inside, last_read, no_line_read}
use Rattle.tag_engine.proofs.Upkeep.{node_place}
use Rattle.tag_engine.proofs.tag_engine.TagEngine.last_block.Goals as goal

pub index-requires-2 : goal.index-requires-2
index-requires-2 g c =
    let inside = last_inside c.self.inside.made.items c.args.level c.args.index c.in_ok-at.at
    (sym c.in_ok-at.was ∙ c.get.ensures ∙ node_place _ _ _ _ (engine_view c.self.inside) c.args.level c.args.index c.node_number.result c.index.result.now
    c.self.invariant (rw (← c.self.view_is) at c.requires) c.node_number.ensures.number c.index.ensures) in
    omega (arith, inside, c.self.inside.made.ok)

pub returns-in-Node : goal.returns-in-Node
returns-in-Node g c =
    rw (← c.self.view_is) (last_read c.self.inside.made.items c.args.level c.args.index c.in_ok-at.at
    c.in-Node.level c.in-Node.index c.in-Node.block c.index-2.result.now
    (sym c.in_ok-at.was ∙ c.get.ensures ∙ node_place _ _ _ _ (engine_view c.self.inside) c.args.level c.args.index c.node_number.result c.index.result.now
    c.self.invariant (rw (← c.self.view_is) at c.requires) c.node_number.ensures.number c.index.ensures)
    c.index-2.ensures c.in-Node.is)

pub returns-in-Line : goal.returns-in-Line
returns-in-Line g c =
    absurd (no_line_read c.self.inside.made.items c.args.level c.args.index c.in_ok-at.at
    c.in-Line.line c.in-Line.counter c.in-Line.cipher c.index-2.result.now
    (sym c.in_ok-at.was ∙ c.get.ensures ∙ node_place _ _ _ _ (engine_view c.self.inside) c.args.level c.args.index c.node_number.result c.index.result.now
    c.self.invariant (rw (← c.self.view_is) at c.requires) c.node_number.ensures.number c.index.ensures)
    c.index-2.ensures c.in-Line.is)
