use Rattle.std.proofs.Common.{append_assoc}
use Rattle.sec_base.proofs.Digits.{hex_8_hole}
use Rattle.sec_base.proofs.ending.EndingDisplay.fmt.Goals as goal

pub returns-in-Trapped-clause-writes : goal.returns-in-Trapped-clause-writes
returns-in-Trapped-clause-writes g c =
    let written = rw (hex_8_hole c.in_radix.result c.laid_out.result c.in-Trapped.pc c.in_radix.ensures c.laid_out.ensures) at c.write-in-Trapped.ensures.writes in
    rw c.in-Trapped.is (simp append_assoc written)
