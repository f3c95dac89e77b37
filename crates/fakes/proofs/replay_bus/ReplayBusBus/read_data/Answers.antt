use Rattle.sec_base.specs.Evidence.{sealed_bytes}
use Rattle.sec_base.specs.declared.place.Place.TheVariants.{Line}
use Rattle.bus_model.specs.HonestBus.{honest_history}
use Rattle.fakes.proofs.ReplaySteps.{any_answer}
use Rattle.fakes.proofs.replay_bus.ReplayBusBus.read_data.Goals as goal

pub returns-clause-access : goal.returns-clause-access
returns-clause-access c =
    rw (← c.self.view_is) (any_answer (Line c.args.line) (sealed_bytes c.in_ok-sealed.sealed) (sealed_bytes c.unwrap_or-answer.result)
    (honest_history c.self.inside.bus) (honest_history c.read_data.new.self) c.in_ok-sealed.ensures.access)
