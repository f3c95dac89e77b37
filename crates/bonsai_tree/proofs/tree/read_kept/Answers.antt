use Rattle.std.proofs.Common.{◌≡◌, ◌≢◌, rules, []}
use Rattle.tag_engine.specs.TagEngine.{tags_of}
use Rattle.checked_bus.proofs.Makes.{makes_not}
use Rattle.bonsai_tree.specs.Node.{no_tag}
use Rattle.bonsai_tree.proofs.KeptReads.{reads_made, reads_none}
use Rattle.bonsai_tree.specs.KeptRead.{IsKeptNode}
use Rattle.bonsai_tree.proofs.TreeMakes.{makes_kept}
use Rattle.bonsai_tree.proofs.tree.read_kept.Goals as goal

pub returns-clause-read : goal.returns-clause-read
returns-clause-read g c =
    let some : c.args.tag.now ≢ no_tag = search rules in
    reads_made g.T.Tagger.data_tag_of g.T.Tagger.node_tag_of c.args.level c.args.index c.args.tag.now (g.B.Bus.history c.args.bus.now)
    (g.B.Bus.history c.read_node.new.bus) c.args.tags.now c.read_node.new.tags c.read_node.ensures.reads.0 c.read_node.result some c.read_node.ensures.reads.2

pub returns-then-eq-clause-read : goal.returns-then-eq-clause-read
returns-then-eq-clause-read g c =
    let none : c.args.tag.now ≡ no_tag = search rules in
    reads_none g.T.Tagger.data_tag_of g.T.Tagger.node_tag_of c.args.level c.args.index c.args.tag.now (g.B.Bus.history c.args.bus.now) c.args.tags.now none

pub returns-then-eq-clause-makes : goal.returns-then-eq-clause-makes
returns-then-eq-clause-makes g c =
    ([], g.met.B.Bus.unmoved c.args.bus.now, makes_not (tags_of g.T.Tagger.data_tag_of g.T.Tagger.node_tag_of c.args.tags.now) (λ used. IsKeptNode (tags_of g.T.Tagger.data_tag_of g.T.Tagger.node_tag_of c.args.tags.now) c.args.tags.now.made (g.B.Bus.history c.args.bus.now).written c.args.level c.args.index c.args.tag.now) (g.B.Bus.history c.args.bus.now) c.args.tags.now)

pub returns-clause-makes : goal.returns-clause-makes
returns-clause-makes g c =
    let some : c.args.tag.now ≢ no_tag = search rules in
    let read = c.read_node.ensures.reads in (
      read.0,
      read.1,
      makes_kept g.T.Tagger.data_tag_of g.T.Tagger.node_tag_of c.args.level c.args.index c.args.tag.now some read.2.makes,
    )
