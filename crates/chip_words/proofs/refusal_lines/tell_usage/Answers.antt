use Rattle.std.proofs.Common.{codes, refl}
use Rattle.std.proofs.lemmas.Result.{err_from_is_err_and}
use Rattle.chip_words.proofs.LinesWritten.{told_first, told_then}
use Rattle.chip_words.proofs.refusal_lines.tell_usage.Goals as goal

pub returns-in_err-write_line-clause-told : goal.returns-in_err-write_line-clause-told
returns-in_err-write_line-clause-told g c =
    let p = err_from_is_err_and c.from_residual.result c.from_residual.ensures.1 in
    rw (p.1, p.2) (told_first _ (codes "usage\n") c.args.text.now _ _ _ refl c.in_err-write_line.ensures.told)

pub returns-clause-told : goal.returns-clause-told
returns-clause-told g c =
    let mid = g.N.Sink.state c.write_line.new.note in
    let new = g.N.Sink.state c.write_line-2.new.note in
    told_then _ (codes "usage\n") c.args.text.now _ mid new c.write_line-2.result refl c.in_ok-write_line.ensures.told c.write_line.ensures.faults
    c.write_line-2.ensures.told
