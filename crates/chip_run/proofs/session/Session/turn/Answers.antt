use Rattle.std.proofs.Common.{Some, ap, sym, ◌∙◌, subst}
use Rattle.chip_run.specs.Session.{PrintsOn, SessionView}
use Rattle.chip_run.proofs.Sessions.{turns_again, turns_or_ends, turns_stopped}
use Rattle.chip_run.proofs.session.Session.turn.Goals as goal

pub returns-in-Some-clause-turns : goal.returns-in-Some-clause-turns
returns-in-Some-clause-turns g c =
    turns_again g.T.Tagger.data_tag_of g.T.Tagger.node_tag_of g.B.Bus.history g.B.Bus.moved (g.S.Sink.state c.args.out.now) c.args.self.now c.in-Some.ending
    (sym (ap (λ (now : SessionView g.row.B.Denot g.row.T.Denot). now.ended) c.self.view_is) ∙ c.in-Some.is)

pub returns-in-Some-kept-clause-turns : goal.returns-in-Some-kept-clause-turns
returns-in-Some-kept-clause-turns g c =
    let inside = c.self.inside in
    let d = g.T.Tagger.data_tag_of in
    let n = g.T.Tagger.node_tag_of in
    let out = g.S.Sink.state c.args.out.now in
    let ending = c.ending_of-ending.result in
    subst (λ (now : SessionView g.row.B.Denot g.row.T.Denot). PrintsOn d n g.B.Bus.history g.B.Bus.moved (Some ending) out out now
    (record { execution = inside.execution; report = record { measurement = inside.measured; input = inside.input.now; nonce = inside.setup.nonce; layout = inside.setup.geometry.layout; report_key = inside.setup.keys.report_key }; kept = inside.kept; ended = Some ending })) c.self.view_is
    (turns_stopped d n g.B.Bus.history g.B.Bus.moved (record { measurement = inside.measured; input = inside.input.now; nonce = inside.setup.nonce; layout = inside.setup.geometry.layout; report_key = inside.setup.keys.report_key }) out inside.execution inside.kept inside.ended c.in-Some-kept.stop ending
    c.in-Some-kept.is c.in_default.is c.ending_of-ending.ensures)

pub returns-clause-turns : goal.returns-clause-turns
returns-clause-turns g c =
    let inside = c.self.inside in
    let turn = c.turn-self-inside in
    let d = g.T.Tagger.data_tag_of in
    let n = g.T.Tagger.node_tag_of in
    subst (λ (now : SessionView g.row.B.Denot g.row.T.Denot). PrintsOn d n g.B.Bus.history g.B.Bus.moved turn.result (g.S.Sink.state c.args.out.now) (g.S.Sink.state turn.new.out) now
    (record { execution = turn.new.self; report = record { measurement = inside.measured; input = inside.input.now; nonce = inside.setup.nonce; layout = inside.setup.geometry.layout; report_key = inside.setup.keys.report_key }; kept = inside.kept; ended = turn.result })) c.self.view_is
    (turns_or_ends d n g.B.Bus.history g.B.Bus.moved (record { measurement = inside.measured; input = inside.input.now; nonce = inside.setup.nonce; layout = inside.setup.geometry.layout; report_key = inside.setup.keys.report_key }) g.met.B.Bus.unmoved g.met.B.Bus.moved_on
    (g.S.Sink.state c.args.out.now) (g.S.Sink.state turn.new.out) inside.execution turn.new.self inside.kept inside.ended turn.result c.in_default-kept.is c.in_default.is
    turn.ensures.goes turn.ensures.ends)
