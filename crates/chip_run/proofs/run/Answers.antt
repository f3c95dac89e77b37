use Rattle.std.proofs.Common.{[], refl, sym, ap, subst}
use Rattle.tag_engine.specs.Tag.{engine_tag}
use Rattle.chip_run.specs.Run.{Terms, run_terms}
use Rattle.chip_run.specs.Session.{HasPrinted}
use Rattle.chip_run.proofs.Memories.{no_accesses}
use Rattle.chip_run.proofs.Outcomes.{boot_refused}
use Rattle.chip_run.proofs.Sessions.{sink_ends}
use Rattle.chip_run.proofs.run.Given.{Over}
use Rattle.chip_run.proofs.run.Goals as goal

pub returns-in-Err-clause-run : goal.returns-in-Err-clause-run
returns-in-Err-clause-run g c =
    let image = c.args.image.now in
    let run = c.no_run.ensures in
    let left = c.in-Err.field-0.0 in
    boot_refused _ (g.S.Sink.state c.args.out.now) (g.B.Bus.history c.args.bus) (g.B.Bus.history left) c.no_run.result
    image.entry image.size image.segments c.args.input.now refl c.requires.geometry c.requires.no_lie c.requires.nothing_written
    (ap (λ bus. g.B.Bus.history bus) c.in-Err.ensures.refused)
    run.retired run.ending run.made run.used run.evidence run.report

pub returns-in-Err-clause-accesses : goal.returns-in-Err-clause-accesses
returns-in-Err-clause-accesses g c =
    let run = c.no_run.ensures in (
      [],
      subst (λ (bus : g.row.B.Denot). g.B.Bus.moved c.args.bus [] bus) (sym c.in-Err.ensures.refused) (g.met.B.Bus.unmoved c.args.bus),
      no_accesses _ _ c.no_run.result run.retired run.ending run.made run.evidence,
    )

-- it printed what its turns did
printed : (g : Over) (c : goal.After-finish g) → HasPrinted g.T.Tagger.data_tag_of g.T.Tagger.node_tag_of g.B.Bus.history g.B.Bus.moved c.args.bus c.args.tagger
    (run_terms c.args.image.now c.args.input.now c.args.setup.now (engine_tag (g.T.Tagger.data_tag_of c.args.tagger) (g.T.Tagger.node_tag_of c.args.tagger) c.args.setup.now.geometry))
    c.go_on.ensures.turns.printed c.go_on.new.self
printed g c =
    let terms : Terms = run_terms c.args.image.now c.args.input.now c.args.setup.now (engine_tag (g.T.Tagger.data_tag_of c.args.tagger) (g.T.Tagger.node_tag_of c.args.tagger) c.args.setup.now.geometry) in
    c.go_on.ensures.turns.leads c.args.bus c.args.tagger terms [] c.in-Ok.ensures.begun

pub returns-clause-run : goal.returns-clause-run
returns-clause-run g c =
    let turns = c.go_on.ensures.turns in
    let comes = c.finish.ensures.ran c.args.bus c.args.tagger _ turns.printed (printed g c) in
    record {
      printed = turns.printed;
      sink = sink_ends c.in-Ok.session.ended c.go_on.new.self.ended c.finish.result.0.ending (g.S.Sink.state c.args.out.now) (g.S.Sink.state c.go_on.new.out) turns.printed
          c.in-Ok.ensures.going c.finish.ensures.ending turns.sink;
      ran = comes.ran;
      report = comes.report;
    }

pub returns-clause-accesses : goal.returns-clause-accesses
returns-clause-accesses g c = c.finish.ensures.accesses c.args.bus c.args.tagger _ c.go_on.ensures.turns.printed (printed g c)
