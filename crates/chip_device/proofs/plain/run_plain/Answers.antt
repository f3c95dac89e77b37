use Rattle.chip_device.proofs.DeviceRuns.{opening_is}
use Rattle.chip_device.proofs.plain.run_plain.Goals as goal

pub returns-clause-ran : goal.returns-clause-ran
returns-clause-ran g c = λ program is.
    let opens = opening_is c.args.execution.now.file.geometry program c.args.input.now c.args.image.now is in
    rw opens at c.run.ensures.run

pub returns-clause-faults : goal.returns-clause-faults
returns-clause-faults g c = c.run.ensures.run.sink.faults
