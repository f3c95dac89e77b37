-- What one of two programs comes to that share the core.
use Rattle.std.specs.Prelude.{ℕ, List, [], Option}
use Rattle.bus_model.specs.BusHistory.{new_history}
use Rattle.chip_run.specs.Pair.{RunsAsSide}
use Rattle.chip_run.specs.Run.{Terms}
use Rattle.chip_run.specs.declared.pair.SideStop.{SideStop}
use Rattle.chip_run.specs.declared.record.RunRecord.{RunRecord}
use Rattle.chip_device.specs.declared.run_bus.RunBus.{RunBus}
use Rattle.chip_device.specs.Buses.{WentOver, run_history}
use Rattle.chip_device.specs.Printed.{gathered}

-- One of two programs that shared the core: beside the other one it has the theorem of a run over its own bus, which was new, and
-- without evidence it comes to what it comes to alone; the writes of its bus are its messages, in order; and it printed these
-- bytes.
pub record RunsBeside (terms : Terms) (printed : List ℕ) (run : RunRecord) (bus : RunBus) (stop : Option SideStop) : Type 0 where
  pub side : RunsAsSide terms (gathered []) (gathered printed) (new_history terms.geometry) (run_history bus) stop run
  pub accesses : WentOver terms run bus
