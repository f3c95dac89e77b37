use Rattle.std.proofs.Common.{arith}
use Rattle.pad_stream.proofs.Enciphering.{xor_of-all}
use Rattle.pad_stream.proofs.pad.mixed.Goals as goal

pub returns : goal.returns
returns c =
    xor_of-all c.args.pad.now c.args.bytes.now c.loop-place.mixed c.loop-place.invariant.long
    (λ k inside. c.loop-place.invariant.each k (omega arith))
