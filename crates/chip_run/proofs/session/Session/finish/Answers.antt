use Rattle.std.proofs.Common.{◌≡◌, Some, sym, ap, ◌∙◌, subst}
use Rattle.sha2.specs.Sha256.{sha256}
use Rattle.rv32_core.specs.State.{CallsView}
use Rattle.rv32_core.specs.Printing.{HoldsTaken}
use Rattle.sec_base.specs.declared.ending.Ending.{Ending}
use Rattle.secure_memory.specs.SecureRam.{SecureRamView}
use Rattle.chip_run.specs.Report.{ReportTerms, signed_report}
use Rattle.chip_run.specs.Running.{HandsOut}
use Rattle.chip_run.specs.Session.{HasPrinted, SessionView}
use Rattle.chip_run.proofs.Reports.{report_is}
use Rattle.chip_run.proofs.Sessions.{comes_to, comes_with}
use Rattle.chip_run.proofs.session.Session.finish.Given.{Over}
use Rattle.chip_run.proofs.session.Session.finish.Goals as goal

-- the session that is given up
abbrev session_of : (g : Over) (c : goal.After-close g) → SessionView g.row.B.Denot g.row.T.Denot
session_of g c =
    let inside = c.self.inside in
    record { execution = inside.execution; report = record { measurement = inside.measured; input = inside.input.now; nonce = inside.setup.nonce; layout = inside.setup.geometry.layout; report_key = inside.setup.keys.report_key }; kept = inside.kept; ended = inside.ended }

hands_out : (g : Over) (c : goal.After-close g) → HandsOut g.T.Tagger.data_tag_of g.T.Tagger.node_tag_of g.B.Bus.history c.self.inside.execution.memory c.close.result.1 c.close.result.0
hands_out g c =
    subst (λ (memory : SecureRamView g.row.B.Denot g.row.T.Denot). HandsOut g.T.Tagger.data_tag_of g.T.Tagger.node_tag_of g.B.Bus.history memory c.close.result.1 c.close.result.0)
    c.into_parts-memory.ensures.memory c.close.ensures.hands_out

pub returns-clause-ran : goal.returns-clause-ran
returns-clause-ran g c = λ bus tagger terms printed had.
    let d = g.T.Tagger.data_tag_of in
    let n = g.T.Tagger.node_tag_of in
    let run = c.close.result.0 in
    let closed = c.close.ensures in
    let session = session_of g c in
    let has : HasPrinted d n g.B.Bus.history g.B.Bus.moved bus tagger terms printed session =
    subst (λ (s : SessionView g.row.B.Denot g.row.T.Denot). HasPrinted d n g.B.Bus.history g.B.Bus.moved bus tagger terms printed s) (sym c.self.view_is) had in
    let taken : HoldsTaken c.into_parts-memory.result.1.taken printed =
    subst (λ (calls : CallsView). HoldsTaken calls.taken printed) (sym c.into_parts-memory.ensures.calls) has.taken in
    comes_to d n g.B.Bus.history g.B.Bus.moved g.met.B.Bus.unmoved g.met.B.Bus.moved_on bus tagger terms printed session has c.close.result.1 run
    (c.unwrap-ending.ensures ∙ ap (λ (ending : Ending). Some ending) (sym closed.ending)) (hands_out g c) (closed.retired ∙ c.retired-retired.ensures)
    (subst (λ (t : ReportTerms). run.report ≡ signed_report t (sha256 printed) run.retired run.ending) (sym has.report_is)
    (report_is _ c.finish.result (sha256 printed) c.retired-retired.result run.retired c.unwrap-ending.result run.ending c.signed_report-report.result run.report
    c.signed_report-report.ensures closed.report (c.finish.ensures printed taken.0) closed.retired closed.ending))

pub returns-clause-accesses : goal.returns-clause-accesses
returns-clause-accesses g c = λ bus tagger terms printed had.
    let d = g.T.Tagger.data_tag_of in
    let n = g.T.Tagger.node_tag_of in
    let closed = c.close.ensures in
    let session = session_of g c in
    let has : HasPrinted d n g.B.Bus.history g.B.Bus.moved bus tagger terms printed session =
    subst (λ (s : SessionView g.row.B.Denot g.row.T.Denot). HasPrinted d n g.B.Bus.history g.B.Bus.moved bus tagger terms printed s) (sym c.self.view_is) had in
    comes_with d n g.B.Bus.history g.B.Bus.moved g.met.B.Bus.unmoved g.met.B.Bus.moved_on bus tagger terms printed session has c.close.result.1 c.close.result.0
    (c.unwrap-ending.ensures ∙ ap (λ (ending : Ending). Some ending) (sym closed.ending)) (hands_out g c) (closed.retired ∙ c.retired-retired.ensures) g.met.B.Bus.told
