use Rattle.std.proofs.Common.{rules, replicate, refl}
use Rattle.bus_adversary.proofs.TwoParts.{joined}
use Rattle.bus_adversary.proofs.place_bytes.bytes_of.Goals as goal

pub returns : goal.returns
returns c = rw (c.copy_from_slice.ensures.after, c.copy_from_slice-2.ensures.after) (joined c.args.sealed.now.cipher (replicate 16 0) c.args.sealed.now.tag (search rules) refl (search rules))
