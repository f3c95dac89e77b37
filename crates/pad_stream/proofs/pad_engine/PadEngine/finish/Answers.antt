use Rattle.std.proofs.Common.{rules}
use Rattle.pad_stream.proofs.BlocksApart.{blocks_apart}
use Rattle.pad_stream.proofs.pad_engine.PadEngine.finish.Goals as goal

pub returns-clause-apart : goal.returns-clause-apart
returns-clause-apart c no_repeat = blocks_apart c.args.self.key c.from_vec.result (search rules) no_repeat
