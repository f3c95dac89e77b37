use Rattle.std.proofs.lemmas.Result.{err_from_is_err_and}
use Rattle.chip_words.specs.Texts.{plain_text}
use Rattle.chip_words.proofs.LinesWritten.{told_last, told_nothing}
use Rattle.chip_words.proofs.note.tell_plain.Goals as goal

pub returns-in_err-lines-clause-told : goal.returns-in_err-lines-clause-told
returns-in_err-lines-clause-told g c =
    let p = err_from_is_err_and c.from_residual.result c.from_residual.ensures.1 in
    rw (p.1, p.2) (told_nothing (plain_text c.args.ending c.args.retired) (g.N.Sink.state c.args.note.now))

pub returns-clause-told : goal.returns-clause-told
returns-clause-told g c = told_last _ (plain_text c.args.ending c.args.retired) _ _ c.write_lines.result c.in_ok-lines.ensures c.write_lines.ensures.told
