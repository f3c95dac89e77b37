use Rattle.std.proofs.Common.{refl}
use Rattle.bus_trace.proofs.last_writes.LastWrites.put.Goals as goal

pub returns-in-ReadLine : goal.returns-in-ReadLine
returns-in-ReadLine c = rw c.in-ReadLine.is refl

pub returns-in-ReadNode : goal.returns-in-ReadNode
returns-in-ReadNode c = rw c.in-ReadNode.is refl
