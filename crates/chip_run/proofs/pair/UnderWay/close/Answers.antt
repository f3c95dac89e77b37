use Rattle.std.proofs.Common.{[], sym, ap, subst}
use Rattle.chip_run.specs.Pair.{HasCome}
use Rattle.chip_run.specs.declared.pair.UnderWay.{UnderWay}
use Rattle.chip_run.specs.declared.pair.UnderWay.TheVariants.{Begun, Refused}
use Rattle.chip_run.proofs.Memories.{no_accesses}
use Rattle.chip_run.proofs.Outcomes.{refused_comes}
use Rattle.chip_run.proofs.Pairs.{refused_side, side_of}
use Rattle.chip_run.proofs.pair.UnderWay.close.Goals as goal

pub returns-in-Refused-clause-side : goal.returns-in-Refused-clause-side
returns-in-Refused-clause-side g c = λ bus tagger terms out out2 has.
    let left = c.in-Refused.bus in
    let run = c.no_run.ensures in
    let refused : HasCome g.T.Tagger.data_tag_of g.T.Tagger.node_tag_of g.B.Bus.history g.B.Bus.moved bus tagger terms out out2 (Refused left) =
    subst (λ (side : UnderWay g.row.B.Denot g.row.T.Denot).
    HasCome g.T.Tagger.data_tag_of g.T.Tagger.node_tag_of g.B.Bus.history g.B.Bus.moved bus tagger terms out out2 side) c.in-Refused.is has in
    refused_side terms out out2 (g.B.Bus.history bus) (g.B.Bus.history left) c.no_run.result refused.sink_is run.retired run.ending
    (refused_comes terms (g.B.Bus.history bus) (g.B.Bus.history left) c.no_run.result refused.image.entry refused.image.size refused.image.segments refused.input
    refused.start_is refused.geometry refused.no_lie refused.nothing_written (ap (λ b. g.B.Bus.history b) refused.bus_is)
    run.retired run.ending run.made run.used run.evidence run.report)

pub returns-in-Refused-clause-accesses : goal.returns-in-Refused-clause-accesses
returns-in-Refused-clause-accesses g c = λ bus tagger terms out out2 has.
    let left = c.in-Refused.bus in
    let run = c.no_run.ensures in
    let refused : HasCome g.T.Tagger.data_tag_of g.T.Tagger.node_tag_of g.B.Bus.history g.B.Bus.moved bus tagger terms out out2 (Refused left) =
    subst (λ (side : UnderWay g.row.B.Denot g.row.T.Denot).
    HasCome g.T.Tagger.data_tag_of g.T.Tagger.node_tag_of g.B.Bus.history g.B.Bus.moved bus tagger terms out out2 side) c.in-Refused.is has in (
      [],
      subst (λ (b : g.row.B.Denot). g.B.Bus.moved bus [] b) (sym refused.bus_is) (g.met.B.Bus.unmoved bus),
      no_accesses terms (g.B.Bus.history left) c.no_run.result run.retired run.ending run.made run.evidence,
    )

pub returns-in-Begun-clause-side : goal.returns-in-Begun-clause-side
returns-in-Begun-clause-side g c = λ bus tagger terms out out2 has.
    let session = c.in-Begun.session in
    let finish = c.finish-record.ensures in
    let run = c.finish-record.result.0 in
    let had : HasCome g.T.Tagger.data_tag_of g.T.Tagger.node_tag_of g.B.Bus.history g.B.Bus.moved bus tagger terms out out2 (Begun session) =
    subst (λ (side : UnderWay g.row.B.Denot g.row.T.Denot).
    HasCome g.T.Tagger.data_tag_of g.T.Tagger.node_tag_of g.B.Bus.history g.B.Bus.moved bus tagger terms out out2 side) c.in-Begun.is has in
    side_of terms session.ended session.execution.retired out out2 (g.B.Bus.history bus) (g.B.Bus.history c.finish-record.result.1) c.stop-stop.result run had.0
    (finish.ran bus tagger terms had.0 had.2) finish.ending finish.retired had.1 (c.stop-stop.ensures had.0 had.2.taken)

pub returns-in-Begun-clause-accesses : goal.returns-in-Begun-clause-accesses
returns-in-Begun-clause-accesses g c = λ bus tagger terms out out2 has.
    let session = c.in-Begun.session in
    let had : HasCome g.T.Tagger.data_tag_of g.T.Tagger.node_tag_of g.B.Bus.history g.B.Bus.moved bus tagger terms out out2 (Begun session) =
    subst (λ (side : UnderWay g.row.B.Denot g.row.T.Denot).
    HasCome g.T.Tagger.data_tag_of g.T.Tagger.node_tag_of g.B.Bus.history g.B.Bus.moved bus tagger terms out out2 side) c.in-Begun.is has in
    c.finish-record.ensures.accesses bus tagger terms had.0 had.2
