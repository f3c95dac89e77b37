use Rattle.std.proofs.Common.{refl, sym, ap, ◌∙◌, subst}
use Rattle.bus_model.specs.BusHistory.{NothingWritten}
use Rattle.tag_engine.specs.TagEngine.{TagEngineView}
use Rattle.page_reencrypt.proofs.NewLines.{boot_protected}
use Rattle.page_reencrypt.proofs.sealed_lines.SealedLines.boot.Goals as goal

pub invariant_of-result : goal.invariant_of-result
invariant_of-result g c =
    let b = c.in-Ok-boot.ensures in
    let new = b.tags ∙ c.in-Ok.ensures in (
      sym (ap (λ (e : TagEngineView g.row.T.Denot). e.geometry) new),
      boot_protected g.T.Tagger.data_tag_of g.T.Tagger.node_tag_of g.B.Bus.history g.B.Bus.moved c.boot.new.bus c.args.tagger c.args.enc_key.now
          c.args.geometry c.args.page_limit c.boot.new.tags c.in-Ok-new.pads c.in-Ok-boot.counters new c.in-Ok-new.ensures.fresh
          (ap (λ bus. (g.B.Bus.history bus).geometry) b.bus ∙ c.requires.geometry)
          (subst (λ bus. NothingWritten (g.B.Bus.history bus)) (sym b.bus) c.requires.nothing_written) b.geometry b.holds b.zeros b.empty,
    )

pub returns-clause-fits : goal.returns-clause-fits
returns-clause-fits g c =
    (invariant_of-result g c).1.fits refl (ap (λ (e : TagEngineView g.row.T.Denot). e.evidence) (c.in-Ok-boot.ensures.tags ∙ c.in-Ok.ensures))
