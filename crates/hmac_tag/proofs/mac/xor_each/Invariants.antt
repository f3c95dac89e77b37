use Rattle.std.proofs.Common.{◌≡◌, ◌++◌, map, take, drop, bit_xor}
use Rattle.hmac_tag.proofs.mac.xor_each.Given as goal

abbrev pub invariant-bytes : goal.invariant-bytes
invariant-bytes l = l.byte-items ≡ map (λ byte. bit_xor byte l.pad) (take l.byte-index l.block) ++ drop l.byte-index l.block
