use Rattle.std.proofs.Common.{◌≡◌, ◌++◌, None, subst, rules}
use Rattle.chip_run.specs.Pair.{HasCome}
use Rattle.chip_run.specs.declared.pair.UnderWay.{UnderWay}
use Rattle.chip_run.specs.declared.pair.UnderWay.TheVariants.{Begun}
use Rattle.chip_run.proofs.Pairs.{took_on}
use Rattle.chip_run.proofs.pair.UnderWay.go_on.Goals as goal

pub returns-then-is_none-clause-came : goal.returns-then-is_none-clause-came
returns-then-is_none-clause-came g c = λ bus tagger terms start has.
    let session = c.in-Begun.session in
    let turns = c.go_on.ensures.turns in
    let had : HasCome g.T.Tagger.data_tag_of g.T.Tagger.node_tag_of g.B.Bus.history g.B.Bus.moved bus tagger terms start (g.S.Sink.state c.args.out.now) (Begun session) =
    subst (λ (side : UnderWay g.row.B.Denot g.row.T.Denot).
    HasCome g.T.Tagger.data_tag_of g.T.Tagger.node_tag_of g.B.Bus.history g.B.Bus.moved bus tagger terms start (g.S.Sink.state c.args.out.now) side) c.in-Begun.is has in
    let none : session.ended ≡ None = search (rules, c.ended.ensures, c.is_none.ensures, c.if-is_none.true) in (
      had.0 ++ turns.printed,
      took_on session.ended c.go_on.new.self.ended start (g.S.Sink.state c.args.out.now) (g.S.Sink.state c.go_on.new.out) had.0 turns.printed none had.1 turns.sink,
      turns.leads bus tagger terms had.0 had.2,
    )
