use Rattle.std.proofs.Common.{refl}
use Rattle.std.proofs.lemmas.Result.{err_from_is_err_and}
use Rattle.chip_words.proofs.LinesWritten.{told_first, told_then}
use Rattle.chip_main.proofs.writing.write_both.Goals as goal

pub returns-in_err-write_all-clause-told : goal.returns-in_err-write_all-clause-told
returns-in_err-write_all-clause-told g c =
    let p = err_from_is_err_and c.from_residual.result c.from_residual.ensures.1 in
    rw (p.1, p.2) (told_first _ c.args.first.now c.args.second.now _ _ _ refl c.in_err-write_all.ensures.written)

pub returns-clause-told : goal.returns-clause-told
returns-clause-told g c =
    told_then _ c.args.first.now c.args.second.now _ _ _ c.write_all-2.result refl c.in_ok-write_all.ensures.written c.write_all.ensures.faults
    c.write_all-2.ensures.written
