use Rattle.std.proofs.Common.{Some, None, ap, ◌≡◌, ◌∙◌, subst}
use Rattle.chip_run.specs.Session.{PrintsOn, SessionView}
use Rattle.chip_run.proofs.Sessions.{turns_or_ends, turns_stopped}
use Rattle.chip_run.proofs.session.Session.go_on.Goals as goal

pub returns-in-Some-clause-turns : goal.returns-in-Some-clause-turns
returns-in-Some-clause-turns g c =
    let inside = c.self.inside in
    let d = g.T.Tagger.data_tag_of in
    let n = g.T.Tagger.node_tag_of in
    let out = g.S.Sink.state c.args.out.now in
    let ending = c.ending_of.result in
    let new : inside.ended ≡ None = ap (λ (now : SessionView g.row.B.Denot g.row.T.Denot). now.ended) c.self.view_is ∙ c.requires in
    subst (λ (now : SessionView g.row.B.Denot g.row.T.Denot). PrintsOn d n g.B.Bus.history g.B.Bus.moved (Some ending) out out now
    (record { execution = inside.execution; report = record { measurement = inside.measured; input = inside.input.now; nonce = inside.setup.nonce; layout = inside.setup.geometry.layout; report_key = inside.setup.keys.report_key }; kept = inside.kept; ended = Some ending })) c.self.view_is
    (turns_stopped d n g.B.Bus.history g.B.Bus.moved (record { measurement = inside.measured; input = inside.input.now; nonce = inside.setup.nonce; layout = inside.setup.geometry.layout; report_key = inside.setup.keys.report_key }) out inside.execution inside.kept inside.ended c.in-Some.stop ending
    c.in-Some.is new c.ending_of.ensures)

pub returns-clause-turns : goal.returns-clause-turns
returns-clause-turns g c =
    let inside = c.self.inside in
    let finish = c.finish in
    let d = g.T.Tagger.data_tag_of in
    let n = g.T.Tagger.node_tag_of in
    let new : inside.ended ≡ None = ap (λ (now : SessionView g.row.B.Denot g.row.T.Denot). now.ended) c.self.view_is ∙ c.requires in
    subst (λ (now : SessionView g.row.B.Denot g.row.T.Denot). PrintsOn d n g.B.Bus.history g.B.Bus.moved (Some finish.result) (g.S.Sink.state c.args.out.now) (g.S.Sink.state finish.new.out) now
    (record { execution = finish.new.self; report = record { measurement = inside.measured; input = inside.input.now; nonce = inside.setup.nonce; layout = inside.setup.geometry.layout; report_key = inside.setup.keys.report_key }; kept = inside.kept; ended = Some finish.result })) c.self.view_is
    (turns_or_ends d n g.B.Bus.history g.B.Bus.moved (record { measurement = inside.measured; input = inside.input.now; nonce = inside.setup.nonce; layout = inside.setup.geometry.layout; report_key = inside.setup.keys.report_key }) g.met.B.Bus.unmoved g.met.B.Bus.moved_on
    (g.S.Sink.state c.args.out.now) (g.S.Sink.state finish.new.out) inside.execution finish.new.self inside.kept inside.ended (Some finish.result) c.in_default.is new
    (λ none. absurd (cc)) finish.ensures.ended)
