use Rattle.std.proofs.Common.{rules}
use Rattle.sealed_state.proofs.Ciphers.{blocks_put}
use Rattle.sealed_state.proofs.state_file.decipher.Goals as goal

pub returns : goal.returns
returns c =
    blocks_put c.args.pads.now.key c.args.number c.args.cipher.now _ _ _ _ _ _
    c.decipher_block.ensures c.decipher_block-2.ensures c.decipher_block-3.ensures
    (search rules) (search rules) (search rules) (search rules)
    c.put.ensures.front c.put-2.ensures.front c.put-3.ensures.front
