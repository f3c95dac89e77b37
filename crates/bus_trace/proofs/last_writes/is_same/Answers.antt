use Rattle.std.proofs.Common.{sym, ◌∙◌, rules}
use Rattle.bus_model.proofs.LieSteps.{bytes_eq-parts}
use Rattle.bus_trace.proofs.last_writes.is_same.Goals as goal

pub returns : goal.returns
returns c =
    c.eq.ensures
    ∙ sym (bytes_eq-parts c.args.first.cipher c.args.second.cipher c.args.first.tag c.args.second.tag (search rules))
