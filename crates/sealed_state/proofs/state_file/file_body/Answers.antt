use Rattle.std.proofs.Common.{rules}
use Rattle.sealed_state.proofs.Verdicts.{body_put}
use Rattle.sealed_state.proofs.state_file.file_body.Goals as goal

pub returns : goal.returns
returns c =
    body_put c.args.number c.to_le_bytes.result c.args.cipher.now _ _ _ c.to_le_bytes.ensures (search rules) (search rules)
    c.put.ensures.front c.put-2.ensures.front c.put-3.ensures.front
