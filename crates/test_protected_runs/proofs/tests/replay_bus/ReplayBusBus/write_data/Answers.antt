use Rattle.sec_base.specs.Evidence.{sealed_bytes}
use Rattle.sec_base.specs.declared.place.Place.TheVariants.{Line}
use Rattle.bus_model.specs.HonestBus.{honest_history}
use Rattle.bus_model.proofs.Accesses.{refused_write}
use Rattle.test_protected_runs.proofs.tests.Replays.{own_same, own_wrote}
use Rattle.test_protected_runs.proofs.tests.replay_bus.ReplayBusBus.write_data.Goals as goal

pub returns-in_err-write_data-clause-access : goal.returns-in_err-write_data-clause-access
returns-in_err-write_data-clause-access c =
    rw (← c.self.view_is) (refused_write (Line c.args.line) (sealed_bytes c.args.sealed.now) _ _ c.from_residual.result c.from_residual.ensures.0
    (own_same (honest_history c.self.inside.bus) (honest_history c.write_data.new.self) _ _ _ c.in_err-write_data.ensures.access))

pub returns-clause-access : goal.returns-clause-access
returns-clause-access c =
    rw (← c.self.view_is) (own_wrote (honest_history c.self.inside.bus) (honest_history c.write_data.new.self) _ _ _ _ (Line c.args.line)
    c.saturating_add-self-inside.ensures (sealed_bytes c.args.sealed.now) c.in_ok-write_data.ensures.access)
