use Rattle.chip_words.proofs.DefaultRuns.{default_run_is_read}
use Rattle.chip_words.proofs.defaults.default_run.Goals as goal

pub returns-clause-as_read : goal.returns-clause-as_read
returns-clause-as_read c = default_run_is_read c.args.name.now
