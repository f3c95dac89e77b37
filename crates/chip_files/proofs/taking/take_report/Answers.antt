use Rattle.chip_words.specs.Words.{report_asked}
use Rattle.chip_files.proofs.Verdicts.{refused_report, taken_report}
use Rattle.chip_files.proofs.taking.take_report.Goals as goal

pub returns-clause-taken : goal.returns-clause-taken
returns-clause-taken g c =
    taken_report (report_asked c.args.asked.now) c.in_ok-text.text _ _ c.report_in.result
    c.in_ok-text.ensures.bytes c.in_ok-text.ensures.within c.in_ok-text.ensures.asked
    (rw c.as_slice.ensures at c.report_in.ensures.verdict) (rw c.as_slice.ensures at c.report_in.ensures.formed)

pub returns-clause-stopped : goal.returns-clause-stopped
returns-clause-stopped g c =
    refused_report (report_asked c.args.asked.now) c.in_ok-text.text _ _ c.report_in.result
    c.in_ok-text.ensures.bytes c.in_ok-text.ensures.within c.in_ok-text.ensures.asked
    (rw c.as_slice.ensures at c.report_in.ensures.refused)
