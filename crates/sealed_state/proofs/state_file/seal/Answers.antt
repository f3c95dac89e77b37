use Rattle.std.proofs.Common.{rules}
use Rattle.sealed_state.proofs.Verdicts.{file_put, sealed_found}
use Rattle.sealed_state.proofs.state_file.seal.Goals as goal

pub returns-clause-file : goal.returns-clause-file
returns-clause-file c =
    file_put c.args.pads.now.key c.args.key.now c.args.number c.state_bytes.result c.in_ok-cipher.cipher c.args.state.now
    c.file_body-body.result _ _ _
    c.state_bytes.ensures.bytes c.in_ok-cipher.ensures.cipher c.file_body-body.ensures c.hmac.ensures
    (search rules) (search rules) (search rules) c.put.ensures.front c.put-2.ensures.front

pub returns-clause-reread : goal.returns-clause-reread
returns-clause-reread c =
    sealed_found c.args.pads.now.key c.args.key.now c.args.number c.state_bytes.result _ c.args.state.now
    (search rules) (search rules) (search rules) c.state_bytes.ensures.bytes c.state_bytes.ensures.reread (returns-clause-file c)
