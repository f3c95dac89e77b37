use Rattle.std.proofs.Common.{◌∙◌, ◌++◌, ap, rules}
use Rattle.sealed_state.specs.ChipState.{state_of_bytes}
use Rattle.sealed_state.proofs.StateBytes.{fields_put, state_back}
use Rattle.sealed_state.proofs.chip_state.field_bytes.Goals as goal

pub returns-clause-bytes : goal.returns-clause-bytes
returns-clause-bytes c =
    fields_put c.args.state.now _ c.register_bytes.result _ _ _ _ _ _ _ _ _ _
    c.to_le_bytes.ensures c.register_bytes.ensures.bytes (search rules)
    c.to_le_bytes-2.ensures c.to_le_bytes-3.ensures c.to_le_bytes-4.ensures c.to_le_bytes-5.ensures (search rules)
    c.put.ensures.front c.put-2.ensures.front c.put-3.ensures.front c.put-4.ensures.front
    c.put-5.ensures.front c.put-6.ensures.front

pub returns-clause-reread : goal.returns-clause-reread
returns-clause-reread c rest =
    ap (λ bytes. state_of_bytes (bytes ++ rest)) (returns-clause-bytes c)
    ∙ state_back c.args.state.now rest (search rules) c.register_bytes.ensures.fit
    (search rules) (search rules) (search rules) (search rules) (search rules)
