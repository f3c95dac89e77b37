use Rattle.std.proofs.Common.{ℕ, List, Ok, rules, subst}
use Rattle.sec_base.specs.declared.message.Message.{Message}
use Rattle.sec_base.specs.declared.message.Message.TheVariants.{Node}
use Rattle.sec_base.specs.declared.stop.NoMemory.{NoMemory}
use Rattle.bus_model.specs.Access.{Access}
use Rattle.tag_engine.specs.TagEngine.{tags_of}
use Rattle.checked_bus.specs.Makes.{access_of, if_done}
use Rattle.checked_bus.proofs.TaggedWrites.{none_done, write_makes}
use Rattle.checked_bus.proofs.node.write_node.Goals as goal

-- Refused, out of memory

pub returns-in_err-write_node-clause-made : goal.returns-in_err-write_node-clause-made
returns-in_err-write_node-clause-made g c = search rules

pub returns-in_err-write_node-clause-makes : goal.returns-in_err-write_node-clause-makes
returns-in_err-write_node-clause-makes g c =
    let message : Message = Node c.args.level c.args.index c.args.block.now in
    let tag_of : Message → List ℕ = tags_of g.T.Tagger.data_tag_of g.T.Tagger.node_tag_of c.args.tags.now in
    let result = c.from_residual-in_err-write_node.result in
    let none : g.B.Bus.moved c.args.bus.now (if_done result (access_of tag_of message)) c.write_node.new.self =
    subst (λ (accesses : List Access). g.B.Bus.moved c.args.bus.now accesses c.write_node.new.self)
    (none_done result (access_of tag_of message) c.from_residual-in_err-write_node.ensures.0) c.in_err-write_node.ensures.access in (
      none,
      write_makes tag_of message (g.B.Bus.history c.args.bus.now) (g.B.Bus.history c.write_node.new.self)
          c.args.tags.now c.make_node.new.self (returns-in_err-write_node-clause-made g c) (c.requires.node, tt) result
          (g.met.B.Bus.told c.args.bus.now c.write_node.new.self _ none),
    )

-- Written

pub returns-clause-made : goal.returns-clause-made
returns-clause-made g c = search rules

pub returns-clause-makes : goal.returns-clause-makes
returns-clause-makes g c = (
  c.in_ok-write_node.ensures.access,
  write_makes (tags_of g.T.Tagger.data_tag_of g.T.Tagger.node_tag_of c.args.tags.now)
      (Node c.args.level c.args.index c.args.block.now) (g.B.Bus.history c.args.bus.now) (g.B.Bus.history c.write_node.new.self)
      c.args.tags.now c.make_node.new.self (returns-clause-made g c) (c.requires.node, tt) {E = NoMemory} (Ok c.in_ok-tag.tag)
      (g.met.B.Bus.told c.args.bus.now c.write_node.new.self _ c.in_ok-write_node.ensures.access),
)
