use Rattle.std.proofs.Common.{ap, Err}
use Rattle.std.proofs.lemmas.Result.{err_from_is_err_and}
use Rattle.chip_files.proofs.Judged.{no_trace}
use Rattle.chip_files.proofs.taking.take_trace.Goals as goal

pub returns-in_err-parse-clause-stopped : goal.returns-in_err-parse-clause-stopped
returns-in_err-parse-clause-stopped g c =
    let p = err_from_is_err_and c.from_residual-in_err-parse.result c.from_residual-in_err-parse.ensures.1 in
    rw (p.1, p.2) (no_trace c.in_err-parse.field-0.0 c.args.geometry c.args.name.now c.in_ok-bytes.bytes _ _
    c.in_ok-bytes.ensures.bytes c.in_ok-bytes.ensures.within c.in_ok-bytes.ensures.asked
    (λ fault is. rw c.as_slice.ensures at (c.in_err-parse.ensures.refused fault (ap Err is))))
