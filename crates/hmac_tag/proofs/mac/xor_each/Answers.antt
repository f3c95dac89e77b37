use Rattle.std.proofs.Common.{rules, bit_xor, arith}
use Rattle.std.proofs.lemmas.List.Edits.{map_over_more}
use Rattle.hmac_tag.proofs.mac.xor_each.Goals as goal

pub bytes-preserved : goal.bytes-preserved
bytes-preserved c =
    map_over_more (λ byte. bit_xor byte c.args.pad) c.args.block.now c.bytes.byte-items c.bytes.byte-index _
    (omega arith) c.bytes.invariant (search rules)
