use Rattle.std.proofs.Common.{◌∙◌, ap, refl, rules}
use Rattle.sealed_state.specs.ChipState.{state_bytes, state_of_bytes}
use Rattle.sealed_state.proofs.StateBytes.{spare_left}
use Rattle.sealed_state.proofs.chip_state.state_bytes.Goals as goal

pub returns-clause-bytes : goal.returns-clause-bytes
unfolding state_bytes
returns-clause-bytes c =
    spare_left c.field_bytes.result _ _ (search rules) (search rules) c.put.ensures.front c.put.ensures.rest c.field_bytes.ensures.bytes

pub returns-clause-reread : goal.returns-clause-reread
returns-clause-reread c =
    ap state_of_bytes (spare_left c.field_bytes.result _ _ (search rules) (search rules) c.put.ensures.front c.put.ensures.rest refl)
    ∙ c.field_bytes.ensures.reread _
