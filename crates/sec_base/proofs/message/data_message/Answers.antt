use Rattle.std.proofs.Common.{rules}
use Rattle.sec_base.proofs.MessageBytes.{data_put}
use Rattle.sec_base.proofs.message.data_message.Goals as goal

pub returns : goal.returns
returns c =
    data_put c.args.line c.args.counter.page c.args.counter.line c.to_le_bytes.result c.to_le_bytes-2.result c.args.cipher.now
    _ _ _ _ _ c.to_le_bytes.ensures c.to_le_bytes-2.ensures (search rules) (search rules)
    c.put.ensures.front c.put-2.ensures.front c.put-3.ensures.front c.put-4.ensures.front c.put-5.ensures.front
