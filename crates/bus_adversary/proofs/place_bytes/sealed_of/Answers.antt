use Rattle.std.proofs.Common.{rules}
use Rattle.bus_adversary.proofs.TwoParts.{back_part, two_parts}
use Rattle.bus_adversary.proofs.place_bytes.sealed_of.Goals as goal

pub returns-clause-bytes : goal.returns-clause-bytes
returns-clause-bytes c = rw (c.copy_from_slice.ensures.after, c.copy_from_slice-2.ensures.after) (two_parts c.args.bytes.now 64 16 (search rules))

pub returns-clause-tag : goal.returns-clause-tag
returns-clause-tag c = rw (c.copy_from_slice-2.ensures.after) (back_part c.args.bytes.now 64 16 (search rules))
