-- A bus that counts its accesses and its false answers beside an honest one.
use Rattle.std.specs.Prelude.{Option, ℕ}
use Rattle.bus_model.specs.BusHistory.{BusHistory, Lie}
use Rattle.bus_model.specs.HonestBus.{HonestBusView, honest_history}

pub record ReplayBusView : Type 0 where
  pub kept : HonestBusView
  pub accesses : ℕ
  pub lies : ℕ
  pub lie : Option Lie

-- what such a bus was asked and what it answered
abbrev pub replay_history : ReplayBusView → BusHistory
replay_history bus = record (honest_history bus.kept) { accesses = bus.accesses; lies = bus.lies; lie = bus.lie }
