use Rattle.bus_adversary.proofs.MaskedBytes.{mask_more}
use Rattle.bus_adversary.proofs.place_bytes.flip_at.Goals as goal
use Rattle.std.proofs.Common.{arith, sym, ◌∙◌}
use Rattle.std.proofs.lemmas.Grind.{common_steps}

pub loop-i-preserved : goal.loop-i-preserved
loop-i-preserved c =
    (grind (arith, common_steps), sym (mask_more c.args.offset c.loop-i.i c.args.mask.now c.loop-i.bytes c.loop-i-test.true (omega arith)) ∙ c.loop-i.invariant.1)
