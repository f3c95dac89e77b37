use Rattle.std.proofs.lemmas.Result.{err_from_is_err_and}
use Rattle.chip_words.specs.Texts.{field_lines, layout_lines, report_text}
use Rattle.chip_words.proofs.LinesWritten.{stopped_in, told_both, told_nothing}
use Rattle.chip_words.proofs.report_fields.write_fields.Goals as goal

pub returns-in_err-lines-clause-told : goal.returns-in_err-lines-clause-told
returns-in_err-lines-clause-told g c =
    let p = err_from_is_err_and c.from_residual.result c.from_residual.ensures.1 in
    rw (p.1, p.2) (told_nothing (report_text c.args.signed.now) (g.O.Sink.state c.args.out.now))

pub returns-in_err-write_lines-clause-told : goal.returns-in_err-write_lines-clause-told
returns-in_err-write_lines-clause-told g c =
    let p = err_from_is_err_and c.from_residual-in_err-write_lines.result c.from_residual-in_err-write_lines.ensures.1 in
    let signed = c.args.signed.now in
    rw (p.1, p.2) (stopped_in _ (field_lines signed.report) (layout_lines signed.layout) _ _ _
    c.in_ok-lines.ensures c.in_err-write_lines.ensures.told)

pub returns-clause-told : goal.returns-clause-told
returns-clause-told g c =
    let signed = c.args.signed.now in
    told_both _ (field_lines signed.report) (layout_lines signed.layout) _ _ _ c.write_layout.result
    c.in_ok-lines.ensures c.in_ok-write_lines.ensures.told c.write_lines.ensures.faults c.write_layout.ensures.told
