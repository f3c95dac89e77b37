use Rattle.std.proofs.Common.{not, ap, sym, ◌∙◌, rules}
use Rattle.bus_model.proofs.LieSteps.{bytes_eq-parts}
use Rattle.test_protected_runs.proofs.tests.replay_bus.differs.Goals as goal

pub returns : goal.returns
returns c =
    c.ne.ensures
    ∙ ap not (sym (bytes_eq-parts c.args.first.cipher c.args.second.cipher c.args.first.tag c.args.second.tag (search rules)))
