-- How a generated program is run.
use Rattle.std.specs.Prelude.{◌≡◌, ℕ, List, [], None, Ok}
use Rattle.sec_base.specs.Program.{Program}
use Rattle.bus_model.specs.BusHistory.{new_history}
use Rattle.chip_run.specs.Run.{RunsProtected}
use Rattle.chip_run.specs.declared.RunRecord.{RunRecord}
use Rattle.chip_words.specs.Defaults.{default_execution, default_run}
use Rattle.chip_words.specs.Request.{ExecutionAsked, RunAsked}
use Rattle.workload_gen.specs.Workload.{workload_of}
use Rattle.chip_device.specs.declared.run_bus.RunBus.{RunBus}
use Rattle.chip_device.specs.Buses.{IsBusOf, WentOver, run_history}
use Rattle.chip_device.specs.Device.{terms_of}
use Rattle.chip_device.specs.Printed.{gathered}

-- a tree of four levels, no input, and the steps that a run has by default; it is of no file
abbrev pub generated_execution : ExecutionAsked
generated_execution = default_execution []

-- a run as one that names no option, of no file
abbrev pub generated_run : RunAsked
generated_run = default_run []

-- the generated program of the number ran so, over an honest bus that was new and whose writes are the run's messages, in
-- order, and printed these bytes
pub record RunsGenerated (number : ℕ) (printed : List ℕ) (run : RunRecord) (bus : RunBus) : Type 0 where
  pub program : Program
  pub program_is : workload_of number ≡ Ok program
  pub bus_is : IsBusOf None bus
  pub runs : RunsProtected (terms_of generated_run program []) (gathered []) (gathered printed)
      (new_history generated_execution.file.geometry) (run_history bus) run
  pub accesses : WentOver (terms_of generated_run program []) run bus
