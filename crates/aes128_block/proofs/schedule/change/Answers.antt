use Rattle.std.proofs.Common.{◌%◌, eq-eqb, refl}
use Rattle.std.proofs.lemmas.Bool.{ne_eqb}
use Rattle.aes128_block.specs.KeyExpansion.{temp}
use Rattle.aes128_block.proofs.schedule.change.Goals as goal

pub returns-then-n-eq0 : goal.returns-then-n-eq0
unfolding temp
returns-then-n-eq0 c =
    rw (eq-eqb (c.args.n % 4) 0 c.if-n-eq0.true, c.substituted.ensures, c.rotated.ensures, c.from.ensures, c.first_constants.ensures)
    refl

pub returns-else-n-eq0 : goal.returns-else-n-eq0
unfolding temp
returns-else-n-eq0 c = rw (ne_eqb (c.args.n % 4) 0 c.if-n-eq0.false) refl
