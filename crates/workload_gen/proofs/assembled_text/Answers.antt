use Rattle.std.proofs.Common.{◌≡◌, Err, ap}
use Rattle.workload_gen.specs.Text.{workload_text, workload_lines}
use Rattle.workload_gen.proofs.Assembly.{no-fault}
use Rattle.workload_gen.proofs.assembled_text.Goals as goal

pub unreachable-requires : goal.unreachable-requires
unfolding workload_text workload_lines
unreachable-requires c =
    let same : c.as_bytes.result.now ≡ workload_text = c.as_bytes.ensures.value in
    no-fault _ _ same (c.in-Err-Fault.ensures.refused c.in-Err-Fault.field-0-0 c.in-Err-Fault.field-0-1 (ap Err c.in-Err-Fault.field-0-is))

pub returns-in-Ok : goal.returns-in-Ok
unfolding workload_text workload_lines
returns-in-Ok c =
    let same : c.as_bytes.result.now ≡ workload_text = c.as_bytes.ensures.value in
    record { program = rw (same) at c.in-Ok.ensures.program }
