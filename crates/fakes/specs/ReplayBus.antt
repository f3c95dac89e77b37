-- A bus that replays what stood at its places before.
use Rattle.std.specs.Prelude.{None}
use Rattle.sec_base.specs.Count.{top}
use Rattle.sec_base.specs.Tag.{IsTag}
use Rattle.sec_base.specs.declared.geometry.Layout.{Layout}
use Rattle.bus_model.specs.BusHistory.{BusHistory}
use Rattle.bus_model.specs.HonestBus.{HonestBusView, honest_history}
use Rattle.fakes.specs.declared.replay_bus.Stale.{Stale}

-- A history with as many false answers as can be counted: any further answer may be false.
abbrev pub lied_out : BusHistory → BusHistory
lied_out history = record history { lies = top; lie = None }

-- What such a bus was asked and answered.
abbrev pub replay_history : HonestBusView → BusHistory
replay_history kept = lied_out (honest_history kept)

-- The tags that such a bus keeps of its line are tags of this layout.
pub record KeepsTags (layout : Layout) (stale : Stale) : Type 0 where
  pub last : IsTag layout stale.last.tag
  pub before : IsTag layout stale.before.tag
