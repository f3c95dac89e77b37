use Rattle.chip_device.proofs.DeviceRuns.{opening_is}
use Rattle.chip_device.proofs.judged.judge_trace.Goals as goal

pub returns-in-Follows : goal.returns-in-Follows
returns-in-Follows c = λ program flat.
    let opens = opening_is c.args.execution.now.file.geometry program c.args.input.now c.args.image.now flat in
    rw (c.in-Follows.is, opens) at c.judge.ensures

pub returns-in-No : goal.returns-in-No
returns-in-No c = λ program flat.
    let opens = opening_is c.args.execution.now.file.geometry program c.args.input.now c.args.image.now flat in
    rw (c.in-No.is, opens) at c.judge.ensures
