use Rattle.workload_gen.specs.Workload.{workload_of}
use Rattle.chip_device.proofs.DeviceRuns.{program_of}
use Rattle.chip_device.proofs.generated.run_generated.Goals as goal

pub returns : goal.returns
returns c =
    let found = program_of (workload_of c.args.number) _ c.in_ok-image.ensures.program in
    record {
      ran = record {
        program = found.0;
        program_is = found.1;
        bus_is = c.in_ok-run.ensures.bus;
        runs = rw c.new-printed.ensures at (c.in_ok-run.ensures.ran found.0 found.2);
        accesses = c.in_ok-run.ensures.accesses found.0 found.2;
      };
    }
