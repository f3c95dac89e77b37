use Rattle.std.proofs.Common.{◌≡◌, ap}
use Rattle.chip_words.specs.Defaults.{side_run}
use Rattle.chip_words.specs.Request.{RunAsked}
use Rattle.chip_words.specs.Words.{file_asked, side_asked}
use Rattle.chip_files.proofs.Pairs.{side_asks, side_stopped, side_taken}
use Rattle.chip_files.proofs.pair.take_side.Goals as goal

pub returns-clause-taken : goal.returns-clause-taken
returns-clause-taken g c =
    let file : file_asked c.side_run-run.result.execution.file ≡ (side_run (side_asked c.args.side.now)).execution.file =
    ap (λ (run : RunAsked). run.execution.file) c.side_run-run.ensures.settings in
    side_taken _ _ _ c.take_program.result file c.take_program.ensures.taken

pub returns-clause-asked : goal.returns-clause-asked
returns-clause-asked g c =
    let file : file_asked c.side_run-run.result.execution.file ≡ (side_run (side_asked c.args.side.now)).execution.file =
    ap (λ (run : RunAsked). run.execution.file) c.side_run-run.ensures.settings in
    side_asks _ _ _ _ c.take_program.result file c.take_program.ensures.asked

pub returns-clause-stopped : goal.returns-clause-stopped
returns-clause-stopped g c =
    let file : file_asked c.side_run-run.result.execution.file ≡ (side_run (side_asked c.args.side.now)).execution.file =
    ap (λ (run : RunAsked). run.execution.file) c.side_run-run.ensures.settings in
    side_stopped _ _ _ _ c.take_program.result file c.take_program.ensures.stopped
