-- A bus that follows a script: a fold over its accesses.
use Rattle.adversary_script.specs.Script.{FitScript}
use Rattle.adversary_script.specs.declared.script.ScriptLine.{ScriptLine}
use Rattle.bus_adversary.specs.ChangedPlaces.{script_may_change}
use Rattle.bus_adversary.specs.Adversary.{AdversaryView, after_due, new_adversary, after_put}
use Rattle.bus_adversary.specs.PlaceCounts.{PlaceCountsView, count_at, new_counts, with_one_more}
use Rattle.bus_adversary.specs.StoredPlaces.{StoredPlacesView, bytes_at}
use Rattle.bus_adversary.specs.declared.next_access.Access.TheVariants.{Read, Write}
use Rattle.bus_adversary.specs.declared.next_access.NextAccess.{NextAccess}
use Rattle.bus_model.specs.Access.{Access, CameBy, came_on}
use Rattle.bus_model.specs.BusHistory.{BusHistory}
use Rattle.bus_model.specs.HonestBus.{HonestBusView, honest_history}
use Rattle.bus_model.specs.Lies.{with_lies}
use Rattle.bus_model.specs.declared.lies.Lies.{Lies}
use Rattle.sec_base.specs.Count.{more_by}
use Rattle.sec_base.specs.Place.{IsPlace, at_place}
use Rattle.sec_base.specs.declared.place.Place.{Place}
use Rattle.std.proofs.Common.{◌∙◌}
use Rattle.std.specs.Prelude.{IfSome, IsFalse, IsTrue, List, None, ℕ, ◌++◌, ◌≡◌}
use Rattle.sec_base.specs.Geometry.{GeometryView}

-- what was written and how often it was read, the false answers so far, what the adversary has, how often each place was
-- written, and the script
pub record ScriptBusView : Type 0 where
  pub kept : HonestBusView
  pub lies : Lies
  pub adversary : AdversaryView
  pub writes : PlaceCountsView
  pub script : List ScriptLine

-- what such a bus was asked and what it answered
abbrev pub script_history : ScriptBusView → BusHistory
script_history bus = with_lies bus.lies (honest_history bus.kept)

-- what the adversary has, how many accesses there were, and how often each place was read and written
pub record ScriptState : Type 0 where
  pub adversary : AdversaryView
  pub accesses : ℕ
  pub reads : Place → ℕ
  pub writes : PlaceCountsView

-- what a script acts on and counts by: the adversary, all accesses, each place's reads and writes
abbrev pub state_of : ScriptBusView → ScriptState
state_of bus =
    record {
      adversary = bus.adversary;
      accesses = bus.kept.accesses;
      reads = (honest_history bus.kept).reads;
      writes = bus.writes;
    }

-- zeros at each place, empty registers, and no access yet
abbrev pub new_state : GeometryView → ScriptState
new_state geometry =
    record { adversary = new_adversary geometry; accesses = 0; reads = λ place. 0; writes = new_counts geometry }

-- what is stored at a place
abbrev pub stored_at : ScriptState → Place → List ℕ
stored_at state place = bytes_at state.adversary.places place

-- the next access, if it is a read of a place
abbrev pub next_read : Place → ScriptState → NextAccess
next_read place state =
    record { access = Read place; accesses_before = state.accesses; same_before = state.reads place }

-- and if it is a write of one
abbrev pub next_write : Place → ScriptState → NextAccess
next_write place state =
    record { access = Write place; accesses_before = state.accesses; same_before = count_at state.writes place }

-- a place was read: first the due actions were done
abbrev pub after_next_read : List ScriptLine → Place → ScriptState → ScriptState
after_next_read script place state =
    record state {
      adversary = after_due (next_read place state) script state.adversary;
      accesses = more_by 1 state.accesses;
      reads = at_place place (more_by 1 (state.reads place)) state.reads;
    }

-- bytes were written at a place: first the due actions were done
abbrev pub after_next_write : List ScriptLine → Place → List ℕ → ScriptState → ScriptState
after_next_write script place bytes state =
    record state {
      adversary = after_put place bytes (after_due (next_write place state) script state.adversary);
      accesses = more_by 1 state.accesses;
      writes = with_one_more place state.writes;
    }

-- what is stored differs from what was written only where the script may change it
abbrev pub StoredAsWritten : List ScriptLine → BusHistory → (Place → List ℕ) → Type 0
StoredAsWritten script history stored =
    (place : Place) → IsPlace history.geometry place → IsFalse (script_may_change script place) →
    stored place ≡ history.written place

-- a script that fits the places: it alone made them differ from what was written, and the first false answer too was
-- at a place that it may change
pub record ChangedByScript (script : List ScriptLine) (history : BusHistory) (places : StoredPlacesView) : Type 0 where
  pub geometry : places.geometry ≡ history.geometry
  pub fits : FitScript history.geometry script
  pub stored : StoredAsWritten script history (bytes_at places)
  pub first : IfSome history.lie (λ lie. IsTrue (script_may_change script lie.place))
  pub none_counted : history.lie ≡ None → history.lies ≡ 0

-- what holds of such a bus before each call and after it, answered or refused
abbrev pub IsScriptBus : ScriptBusView → Type 0
IsScriptBus bus =
    ChangedByScript bus.script (script_history bus) bus.adversary.places × (bus.writes.geometry ≡ bus.kept.geometry)

-- such a bus became another one by these accesses, and kept its script
abbrev pub KeepsScript : ScriptBusView → List Access → ScriptBusView → Type 0
KeepsScript old accesses new = (new.script ≡ old.script) × CameBy (script_history old) accesses (script_history new)

pub keeps_on : (first second third : ScriptBusView) (before after : List Access) →
    KeepsScript first before second → KeepsScript second after third → KeepsScript first (before ++ after) third
keeps_on first second third before after once then =
    (then.0 ∙ once.0, came_on (script_history first) (script_history second) (script_history third) before after once.1 then.1)
