use Rattle.std.proofs.Common.{◌∙◌, ap, Err}
use Rattle.chip_words.specs.Words.{file_asked}
use Rattle.chip_files.proofs.Takings.{at_err, untold}
use Rattle.chip_files.proofs.taking.take_program.Goals as goal

pub returns-clause-stopped : goal.returns-clause-stopped
returns-clause-stopped g c = at_err c.program_in.result _ (λ stop is.
    untold stop (file_asked c.args.file.now) c.in_ok-bytes.bytes _ _
    c.in_ok-bytes.ensures.bytes (rw c.most_bytes.ensures.limit at c.in_ok-bytes.ensures.within) c.in_ok-bytes.ensures.asked
    (λ refusal refused. rw (c.size.ensures.size, c.as_slice.ensures) at c.program_in.ensures.refused refusal (is ∙ ap Err refused)))
