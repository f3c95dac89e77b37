use Rattle.std.proofs.Common.{refl}
use Rattle.aes128_block.proofs.KeyWords.{columns_state-key_expansion}
use Rattle.aes128_block.proofs.Key.new.Goals as goal

pub invariant_of-result : goal.invariant_of-result
invariant_of-result c =
    rw (c.expanded_key.ensures, columns_state-key_expansion c.args.key.now c.told-key c.fits-key) refl

pub returns : goal.returns
returns c = rw c.expanded_key.ensures (columns_state-key_expansion c.args.key.now c.told-key c.fits-key)
