use Rattle.std.proofs.Common.{ap, Err}
use Rattle.std.proofs.lemmas.Result.{err_from_is_err_and}
use Rattle.chip_files.proofs.Takings.{unread}
use Rattle.chip_files.proofs.taking.read_file.Goals as goal

pub returns-in_err-read-clause-stopped : goal.returns-in_err-read-clause-stopped
returns-in_err-read-clause-stopped g c =
    let p = err_from_is_err_and c.from_residual.result c.from_residual.ensures.1 in
    let read = c.in_err-read.ensures in
    rw (p.1, p.2) (λ fault. unread c.in_err-read.field-0.0 _ _ _ (λ had. read.asked (λ e. had cc))
    (λ long. (read.long (ap Err long), read.taken_long (ap Err long))) (λ failed. read.failed (ap Err failed)) (λ none. read.asked_in_vain (ap Err none)))
