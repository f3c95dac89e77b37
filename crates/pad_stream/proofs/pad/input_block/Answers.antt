use Rattle.std.proofs.Common.{rules}
use Rattle.pad_stream.proofs.Pieces.{input_put}
use Rattle.pad_stream.proofs.pad.input_block.Goals as goal

pub returns : goal.returns
returns c =
    input_put c.args.line c.args.block c.args.counter c.to_le_bytes.result c.to_le_bytes-2.result _ _ _
    c.to_le_bytes.ensures c.to_le_bytes-2.ensures (search rules)
    c.put.ensures.front c.put-2.ensures.front c.put-3.ensures.front
