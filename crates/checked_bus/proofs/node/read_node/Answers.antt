use Rattle.std.proofs.Common.{◌≡◌, Bool, false, [], ◌∷◌, Result, Ok, Err, List, ℕ, ap, refl, rules, sym, ◌∙◌, subst}
use Rattle.sec_base.specs.declared.place.Place.TheVariants.{Node as node_place}
use Rattle.sec_base.specs.declared.stop.MemStop.{MemStop}
use Rattle.sec_base.specs.declared.stop.MemStop.TheVariants.{Tampered, NoMemory}
use Rattle.bus_model.specs.Access.{Read}
use Rattle.tag_engine.specs.TagEngine.{after_check_node, tags_of}
use Rattle.tag_engine.proofs.Upkeep.{failed_check_node}
use Rattle.checked_bus.specs.Checks.{FailedNode, IsCheckedNode, PassedNode}
use Rattle.checked_bus.proofs.CheckedNodes.{node_reads}
use Rattle.checked_bus.proofs.node.read_node.Goals as goal

-- Refused, out of memory

pub returns-in_err-block : goal.returns-in_err-block
returns-in_err-block g c =
    let tag_of = tags_of g.T.Tagger.data_tag_of g.T.Tagger.node_tag_of c.args.tags.now in
    let is : c.from_residual.result ≡ Err NoMemory = search rules in record {
      reads = (
        [],
        c.in_err-block.ensures.access,
        node_reads tag_of c.args.level c.args.index c.args.tag.now
            (g.B.Bus.history c.args.bus.now) (g.B.Bus.history c.read_node.new.self) c.args.tags.now c.args.tags.now
            [] (g.met.B.Bus.told c.args.bus.now c.read_node.new.self [] c.in_err-block.ensures.access) c.requires.node c.from_residual.result
            (subst (λ (result : Result (List ℕ) MemStop). IsCheckedNode tag_of c.args.level c.args.index c.args.tag.now [] c.args.tags.now c.args.tags.now result)
            (sym is) (refl, refl)),
      );
    }

-- Failed

pub returns-then-not-check_node : goal.returns-then-not-check_node
returns-then-not-check_node g c =
    let tag_of = tags_of g.T.Tagger.data_tag_of g.T.Tagger.node_tag_of c.args.tags.now in
    let accesses = Read (node_place c.args.level c.args.index) c.in_ok-block.block ∷ [] in
    let failed : c.check_node.result ≡ false = search rules in
    let read : FailedNode tag_of c.args.level c.args.index c.args.tag.now accesses c.args.tags.now c.check_node.new.self =
    record {
      block = c.in_ok-block.block;
      untagged = λ tagged. let passes = c.check_node.ensures.passes.1 tagged in absurd (cc);
      answered = refl;
      long = search rules;
      unchanged = c.check_node.ensures.state
          ∙ ap (λ (passes : Bool). after_check_node tag_of c.args.level c.args.index c.in_ok-block.block c.args.tag.now passes c.args.tags.now) failed
          ∙ sym (failed_check_node tag_of c.args.tags.now c.args.level c.args.index c.in_ok-block.block c.args.tag.now);
    } in record {
      reads = (
        accesses,
        c.in_ok-block.ensures.access,
        node_reads tag_of c.args.level c.args.index c.args.tag.now
            (g.B.Bus.history c.args.bus.now) (g.B.Bus.history c.read_node.new.self) c.args.tags.now c.check_node.new.self
            accesses (g.met.B.Bus.told c.args.bus.now c.read_node.new.self accesses c.in_ok-block.ensures.access) c.requires.node
            (Err (Tampered (node_place c.args.level c.args.index))) (refl, read),
      );
    }

-- Passed

pub returns : goal.returns
returns g c =
    let tag_of = tags_of g.T.Tagger.data_tag_of g.T.Tagger.node_tag_of c.args.tags.now in
    let accesses = Read (node_place c.args.level c.args.index) c.in_ok-block.block ∷ [] in
    let read : PassedNode tag_of c.args.level c.args.index c.args.tag.now accesses c.args.tags.now c.check_node.new.self c.in_ok-block.block = search rules in record {
      reads = (
        accesses,
        c.in_ok-block.ensures.access,
        node_reads tag_of c.args.level c.args.index c.args.tag.now
            (g.B.Bus.history c.args.bus.now) (g.B.Bus.history c.read_node.new.self) c.args.tags.now c.check_node.new.self
            accesses (g.met.B.Bus.told c.args.bus.now c.read_node.new.self accesses c.in_ok-block.ensures.access) c.requires.node
            (Ok c.in_ok-block.block) read,
      );
    }
