use Rattle.std.proofs.Common.{refl, sym, ◌∙◌, ◌≡◌, [], Some, rules}
use Rattle.checked_bus.proofs.Makes.{makes_not}
use Rattle.sec_base.specs.declared.stop.MemStop.TheVariants.{NoMemory}
use Rattle.tag_engine.specs.TagEngine.{tags_of}
use Rattle.bonsai_tree.proofs.NewTrees.{new_holds}
use Rattle.bonsai_tree.proofs.Views.{tree_of}
use Rattle.bonsai_tree.specs.Node.{no_tag}
use Rattle.bonsai_tree.proofs.TreeMakes.{makes_refused}
use Rattle.bonsai_tree.specs.Tree.{want_of}
use Rattle.bonsai_tree.proofs.tree.Tree.boot.Goals as goal

pub returns-clause-holds : goal.returns-clause-holds
returns-clause-holds g c =
    new_holds g.T.Tagger.data_tag_of g.T.Tagger.node_tag_of (tree_of no_tag c.in_ok-nodes.nodes) (g.B.Bus.history c.args.bus.now) c.args.tags.now
    (c.requires.bus ∙ sym c.in_ok-nodes.ensures.geometry) refl c.in_ok-nodes.ensures.none c.requires.nothing_written c.requires.nothing_made

pub returns-in_err-nodes-clause-makes : goal.returns-in_err-nodes-clause-makes
returns-in_err-nodes-clause-makes g c =
    let stop : want_of c.from_residual.result ≡ Some NoMemory = search rules in (
      [],
      g.met.B.Bus.unmoved c.args.bus.now,
      rw stop
          (makes_refused (tags_of g.T.Tagger.data_tag_of g.T.Tagger.node_tag_of c.args.tags.now) (λ used. Unit {0}) (g.B.Bus.history c.args.bus.now) c.args.tags.now),
    )

pub returns-clause-makes : goal.returns-clause-makes
returns-clause-makes g c =
    ([], g.met.B.Bus.unmoved c.args.bus.now, makes_not (tags_of g.T.Tagger.data_tag_of g.T.Tagger.node_tag_of c.args.tags.now) (λ used. Unit {0}) (g.B.Bus.history c.args.bus.now) c.args.tags.now)
