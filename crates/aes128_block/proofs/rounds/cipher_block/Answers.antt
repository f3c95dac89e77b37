use Rattle.std.proofs.Common.{refl}
use Rattle.aes128_block.specs.Cipher.{after_rounds, cipher}
use Rattle.aes128_block.proofs.rounds.cipher_block.Goals as goal

pub returns : goal.returns
unfolding after_rounds cipher
returns c =
    rw (
      c.state_bytes.ensures,
      c.after_last_round.ensures,
      c.after_round-round_9.ensures,
      c.after_round-round_8.ensures,
      c.after_round-round_7.ensures,
      c.after_round-round_6.ensures,
      c.after_round-round_5.ensures,
      c.after_round-round_4.ensures,
      c.after_round-round_3.ensures,
      c.after_round-round_2.ensures,
      c.after_round-round_1.ensures,
      c.add_key-whitened.ensures,
      c.block_columns.ensures,
    ) refl
