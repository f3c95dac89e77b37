use Rattle.std.proofs.Common.{rules}
use Rattle.sec_base.proofs.MessageBytes.{node_put}
use Rattle.sec_base.proofs.message.node_message.Goals as goal

pub returns : goal.returns
returns c =
    node_put c.args.level c.args.index c.to_le_bytes.result c.args.block.now
    _ _ _ c.to_le_bytes.ensures (search rules) (search rules)
    c.put.ensures.front c.put-2.ensures.front c.put-3.ensures.front
