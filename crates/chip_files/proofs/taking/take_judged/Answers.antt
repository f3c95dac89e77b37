use Rattle.std.proofs.Common.{[], ◌∷◌}
use Rattle.std.proofs.lemmas.Result.{err_from_is_err_and}
use Rattle.chip_words.specs.Words.{execution_asked, judge_asked}
use Rattle.chip_files.specs.Needs.{execution_needs, trace_need}
use Rattle.chip_files.proofs.Accepted.{execution_accepted}
use Rattle.chip_files.proofs.Judged.{reads_judged}
use Rattle.chip_files.proofs.Takings.{later_by, stops_first, stops_later}
use Rattle.chip_files.proofs.taking.take_judged.Goals as goal

pub returns-in_err-image-clause-stopped : goal.returns-in_err-image-clause-stopped
returns-in_err-image-clause-stopped g c =
    let p = err_from_is_err_and c.from_residual.result c.from_residual.ensures.1 in
    let asked = c.args.asked.now in
    rw (p.1, p.2) (stops_first c.in_err-image.field-0.0 (execution_needs (execution_asked asked.execution))
    (trace_need asked.execution.file.geometry asked.trace.now ∷ []) _ _ c.in_err-image.ensures.stopped)

pub returns-in_err-trace-clause-stopped : goal.returns-in_err-trace-clause-stopped
returns-in_err-trace-clause-stopped g c =
    let p = err_from_is_err_and c.from_residual-in_err-trace.result c.from_residual-in_err-trace.ensures.1 in
    let asked = c.args.asked.now in
    let execution = execution_asked asked.execution in
    let read = c.in_ok-image.ensures in
    rw (p.1, p.2) (stops_later c.in_err-trace.field-0.0 (execution_needs execution) (trace_need asked.execution.file.geometry asked.trace.now ∷ []) _ _ _
    (execution_accepted execution _ _ _ _ read.taken.2) read.taken.2.asked (later_by read.held read.quiet read.bytes_taken) c.in_err-trace.ensures.stopped)

pub returns-clause-taken : goal.returns-clause-taken
returns-clause-taken g c =
    let read = c.in_ok-image.ensures in (
      read.taken.0,
      read.taken.1,
      reads_judged (judge_asked c.args.asked.now) _ _ _ _ _ _ read.held read.taken.2 c.in_ok-trace.ensures.taken c.in_ok-trace.ensures.asked,
    )
