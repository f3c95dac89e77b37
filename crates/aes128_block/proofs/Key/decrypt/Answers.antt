use Rattle.std.proofs.Common.{refl}
use Rattle.aes128_block.specs.InverseCipher.{decrypted}
use Rattle.aes128_block.proofs.Laws.{IsBlock-array, encrypted-decrypted}
use Rattle.aes128_block.proofs.Key.decrypt.Goals as goal

pub returns-clause-value : goal.returns-clause-value
unfolding decrypted
returns-clause-value c = rw (c.inv_cipher_block.ensures, ← c.self.view_is, ← c.self.invariant) refl

pub returns-clause-undone : goal.returns-clause-undone
returns-clause-undone c =
    rw (returns-clause-value c) (encrypted-decrypted c.args.self.now _ (IsBlock-array _ c.told-block c.fits-block))
