use Rattle.std.proofs.Common.{rules}
use Rattle.sealed_state.proofs.StateBytes.{words_put}
use Rattle.sealed_state.proofs.chip_state.register_bytes.Goals as goal

pub returns-clause-bytes : goal.returns-clause-bytes
returns-clause-bytes c =
    words_put c.args.regs.now c.loop-place.bytes (search rules) c.loop-place.invariant.long (search rules)
