use Rattle.std.proofs.Common.{ap}
use Rattle.std.specs.List.{concat}
use Rattle.chip_words.specs.Texts.{summary_text}
use Rattle.chip_words.proofs.LinesWritten.{told_last}
use Rattle.chip_words.proofs.summary.write_summary.Goals as goal

pub returns-clause-told : goal.returns-clause-told
returns-clause-told g c =
    told_last _ (summary_text c.args.number c.args.ending c.args.retired c.args.printed.now) _ _ c.write_lines.result (ap concat c.in_ok-lines.ensures) c.write_lines.ensures.told
