use Rattle.std.proofs.Common.{◌<◌, ◌++◌, Option, sym, subst}
use Rattle.sec_base.specs.declared.ending.Ending.{Ending}
use Rattle.chip_run.specs.Pair.{HasCome, SinkTook, turns_left}
use Rattle.chip_run.specs.declared.pair.UnderWay.{UnderWay}
use Rattle.chip_run.specs.declared.pair.UnderWay.TheVariants.{Begun}
use Rattle.chip_run.proofs.Pairs.{not_ended, took_on}
use Rattle.chip_run.proofs.pair.UnderWay.turn.Goals as goal

pub returns-in-Begun-clause-came : goal.returns-in-Begun-clause-came
returns-in-Begun-clause-came g c = λ bus tagger terms start has.
    let session = c.in-Begun.session in
    let turn = c.turn in
    let turns = turn.ensures.turns in
    let had : HasCome g.T.Tagger.data_tag_of g.T.Tagger.node_tag_of g.B.Bus.history g.B.Bus.moved bus tagger terms start (g.S.Sink.state c.args.out.now) (Begun session) =
    subst (λ (side : UnderWay g.row.B.Denot g.row.T.Denot).
    HasCome g.T.Tagger.data_tag_of g.T.Tagger.node_tag_of g.B.Bus.history g.B.Bus.moved bus tagger terms start (g.S.Sink.state c.args.out.now) side) c.in-Begun.is has in
    let left : 0 < turns_left (Begun session) = subst (λ (side : UnderWay g.row.B.Denot g.row.T.Denot). 0 < turns_left side) c.in-Begun.is c.requires in (
      had.0 ++ turns.printed,
      subst (λ (ended : Option Ending). SinkTook ended start (had.0 ++ turns.printed) (g.S.Sink.state turn.new.out)) (sym turn.ensures.ended)
          (took_on session.ended turn.result start (g.S.Sink.state c.args.out.now) (g.S.Sink.state turn.new.out) had.0 turns.printed
          (not_ended session.ended session.execution.budget session.execution.retired left) had.1 turns.sink),
      turns.leads bus tagger terms had.0 had.2,
    )
