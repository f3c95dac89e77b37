use Rattle.chip_device.proofs.DeviceRuns.{still_of, went_over}
use Rattle.chip_device.proofs.device.run_on_device.Goals as goal

pub returns-clause-bus : goal.returns-clause-bus
returns-clause-bus g c =
    let went = c.run_over.ensures.accesses in
    still_of c.args.script c.in_ok-bus.bus c.run_over.result.1 went.0 c.in_ok-bus.ensures.script went.1

pub returns-clause-accesses : goal.returns-clause-accesses
returns-clause-accesses g c = λ program flat.
    let went = c.run_over.ensures.accesses in
    went_over _ c.run_over.result.0 c.in_ok-bus.bus c.run_over.result.1 went.0 c.in_ok-bus.ensures.history went.1 (went.2 program flat)
