use Rattle.std.proofs.Common.{[], ◌∷◌, ◌++◌, Err, refl}
use Rattle.std.proofs.lemmas.Result.{err_from_is_err_and}
use Rattle.chip_words.specs.Texts.{ending_line, lies_line, record_text, report_lines, retired_line, shown_lines}
use Rattle.chip_words.proofs.LinesWritten.{stopped_in, told_both, told_nothing}
use Rattle.chip_words.proofs.note.tell_run.Goals as goal

pub returns-in_err-lines-clause-told : goal.returns-in_err-lines-clause-told
returns-in_err-lines-clause-told g c =
    let p = err_from_is_err_and c.from_residual.result c.from_residual.ensures.1 in
    let run = c.args.run.now in
    rw (p.1, p.2) (told_nothing (record_text run.ending run.retired run.lies run.made.now run.evidence run.report) (g.N.Sink.state c.args.note.now))

pub returns-in_err-write_lines-clause-told : goal.returns-in_err-write_lines-clause-told
returns-in_err-write_lines-clause-told g c =
    let p = err_from_is_err_and c.from_residual-in_err-write_lines.result c.from_residual-in_err-write_lines.ensures.1 in
    let run = c.args.run.now in
    rw (p.1, p.2) (stopped_in _ (ending_line run.ending ∷ retired_line run.retired ∷ lies_line run.lies ∷ [])
    (shown_lines run.made.now run.evidence ++ report_lines run.report) _ _ _ c.in_ok-lines.ensures c.in_err-write_lines.ensures.told)

pub returns-in_err-tell_evidence-clause-told : goal.returns-in_err-tell_evidence-clause-told
returns-in_err-tell_evidence-clause-told g c =
    let p = err_from_is_err_and c.from_residual-in_err-tell_evidence.result c.from_residual-in_err-tell_evidence.ensures.1 in
    let run = c.args.run.now in
    let mid = g.N.Sink.state c.write_lines.new.note in
    let new = g.N.Sink.state c.tell_evidence.new.note in
    let shown = shown_lines run.made.now run.evidence in
    rw (p.1, p.2) (told_both _ (ending_line run.ending ∷ retired_line run.retired ∷ lies_line run.lies ∷ [])
    (shown ++ report_lines run.report) _ mid new (Err c.in_err-tell_evidence.field-0.0)
    c.in_ok-lines.ensures c.in_ok-write_lines.ensures.told c.write_lines.ensures.faults
    (stopped_in shown shown (report_lines run.report) mid new c.in_err-tell_evidence.field-0.0 refl c.in_err-tell_evidence.ensures.told))

pub returns-clause-told : goal.returns-clause-told
returns-clause-told g c =
    let run = c.args.run.now in
    told_both _ (ending_line run.ending ∷ retired_line run.retired ∷ lies_line run.lies ∷ [])
    (shown_lines run.made.now run.evidence ++ report_lines run.report) _ _ _ c.tell_report.result
    c.in_ok-lines.ensures c.in_ok-write_lines.ensures.told c.write_lines.ensures.faults
    (told_both (shown_lines run.made.now run.evidence) (shown_lines run.made.now run.evidence) (report_lines run.report) _ _ _ c.tell_report.result refl
    c.in_ok-tell_evidence.ensures.told c.tell_evidence.ensures.faults c.tell_report.ensures.told)
