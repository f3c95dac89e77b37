use Rattle.std.proofs.Common.{refl}
use Rattle.aes128_block.specs.InverseCipher.{before_rounds, inv_cipher}
use Rattle.aes128_block.proofs.inverse_rounds.inv_cipher_block.Goals as goal

pub returns : goal.returns
unfolding before_rounds inv_cipher
returns c =
    rw (
      c.state_bytes.ensures,
      c.unboxed.ensures,
      c.before_round-before_1.ensures,
      c.before_round-before_2.ensures,
      c.before_round-before_3.ensures,
      c.before_round-before_4.ensures,
      c.before_round-before_5.ensures,
      c.before_round-before_6.ensures,
      c.before_round-before_7.ensures,
      c.before_round-before_8.ensures,
      c.before_round-before_9.ensures,
      c.add_key-last.ensures,
      c.block_columns.ensures,
    ) refl
