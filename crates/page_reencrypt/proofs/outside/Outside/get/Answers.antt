use Rattle.std.proofs.Common.{◌≡◌, sym, subst}
use Rattle.std.specs.Result.{result_err}
use Rattle.sec_base.specs.Geometry.{GeometryView}
use Rattle.sec_base.proofs.Results.{was_none}
use Rattle.tag_engine.specs.TagEngine.{tags_of}
use Rattle.bonsai_tree.specs.Tree.{SlotsAreTags}
use Rattle.page_reencrypt.specs.Contents.{NodesSay}
use Rattle.page_reencrypt.specs.Outside.{AreConsistent, CountersSay, HaveLast, HaveLastNodes, OutsideView, terms_of}
use Rattle.page_reencrypt.specs.SealedLines.{AreOfPages}
use Rattle.page_reencrypt.proofs.NodeSteps.{fits_before, node_step}
use Rattle.page_reencrypt.proofs.CountersHad.{had_pages}
use Rattle.page_reencrypt.proofs.SayingNodes.{says_had}
use Rattle.page_reencrypt.proofs.outside.Outside.get.Goals as goal

pub returns-clause-step : goal.returns-clause-step
returns-clause-step g c =
    let old : OutsideView g.row.B.Denot g.row.T.Denot = record { bus = c.self.inside.bus; engine = c.self.inside.tags; pads = c.self.inside.pads } in
    let d = g.T.Tagger.data_tag_of in
    let n = g.T.Tagger.node_tag_of in
    let h = g.B.Bus.history in
    let geometry : c.args.counters.now.tree.geometry ≡ old.engine.geometry = rw (← c.self.view_is) at c.requires.geometry in
    let kept : AreConsistent (terms_of h g.B.Bus.moved d n old) old = rw (← c.self.view_is) at c.requires.consistent in
    let last : HaveLast (terms_of h g.B.Bus.moved d n old) old = rw (← c.self.view_is) at c.requires.holds_last in
    let nodes : HaveLastNodes (terms_of h g.B.Bus.moved d n old) old = rw (← c.self.view_is) at c.requires.nodes_hold_last in
    let tree = c.get.ensures.had.has.tree in
    rw (← c.self.view_is)
    (node_step h g.B.Bus.moved d n old c.get.new.bus c.get.new.tags c.args.counters.now.tree _ geometry kept last nodes
    c.get.ensures.accesses tree.moves tree.lines tree.made_blocks (λ was goes_on. tree.last_blocks goes_on was))

pub returns-clause-nodes : goal.returns-clause-nodes
returns-clause-nodes g c = λ inside fits says quiet said.
    let old : OutsideView g.row.B.Denot g.row.T.Denot = record { bus = c.self.inside.bus; engine = c.self.inside.tags; pads = c.self.inside.pads } in
    let d = g.T.Tagger.data_tag_of in
    let n = g.T.Tagger.node_tag_of in
    let h = g.B.Bus.history in
    let was_fit = fits_before h g.B.Bus.moved d n old c.get.new.bus c.get.new.tags c.args.counters.now (rw (← c.self.view_is) at fits) in
    let geometry : c.args.counters.now.tree.geometry ≡ old.engine.geometry = rw (← c.self.view_is) at c.requires.geometry in
    let pages : AreOfPages old.engine.geometry c.args.counters.now = rw (← c.self.view_is) at inside in
    let say : CountersSay (terms_of h g.B.Bus.moved d n old) old c.args.counters.now = rw (← c.self.view_is) at says in
    let before : NodesSay (tags_of d n old.engine) old.engine.geometry old.pads.used old.engine.made = rw (← c.self.view_is) at said in
    let step = c.get.ensures.had.has.tree in
    rw (← c.self.view_is)
    (record {
      slots = subst (λ (l : GeometryView). SlotsAreTags (tags_of d n old.engine) l c.get.new.tags.made) geometry
          (step.slots was_fit.tree quiet (subst (λ (l : GeometryView). SlotsAreTags (tags_of d n old.engine) l old.engine.made) (sym geometry) before.slots));
      blocks = says_had old.engine.geometry old.pads.used c.args.counters.now c.args.page (h old.bus) (h c.get.new.bus) old.engine.made c.get.new.tags.made
          step.lines pages (say (was_none old.engine.evidence c.get.new.tags.evidence step.moves.evidence quiet)) c.get.ensures.had.written before.blocks;
    })

pub returns-clause-pages : goal.returns-clause-pages
returns-clause-pages g c = had_pages g.T.Tagger.data_tag_of g.T.Tagger.node_tag_of c.args.counters.now c.get.new.self (g.B.Bus.history c.self.inside.bus) (g.B.Bus.history c.get.new.bus) c.self.inside.tags c.get.new.tags c.args.page (result_err c.get.result) c.get.ensures.had c.args.self.now.engine.geometry c.requires.geometry

pub returns-clause-geometry : goal.returns-clause-geometry
returns-clause-geometry g c = c.get.ensures.had.has.tree.geometry

pub returns-clause-had : goal.returns-clause-had
returns-clause-had g c = rw (← c.self.view_is) c.get.ensures.had
