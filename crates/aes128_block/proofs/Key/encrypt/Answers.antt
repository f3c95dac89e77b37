use Rattle.std.proofs.Common.{refl, ◌∙◌}
use Rattle.aes128_block.specs.KeyExpansion.{encrypted}
use Rattle.aes128_block.proofs.Laws.{IsBlock-array, decrypted-encrypted, encrypted-injective}
use Rattle.aes128_block.proofs.Key.encrypt.Goals as goal

pub returns-clause-value : goal.returns-clause-value
unfolding encrypted
returns-clause-value c = rw (c.cipher_block.ensures, ← c.self.view_is, ← c.self.invariant) refl

pub returns-clause-undone : goal.returns-clause-undone
returns-clause-undone c =
    rw (returns-clause-value c) (decrypted-encrypted c.args.self.now _ (IsBlock-array _ c.told-block c.fits-block))

pub returns-clause-distinct : goal.returns-clause-distinct
returns-clause-distinct c other is_block same =
    encrypted-injective c.args.self.now other _ is_block (IsBlock-array _ c.told-block c.fits-block)
    (same ∙ returns-clause-value c)
