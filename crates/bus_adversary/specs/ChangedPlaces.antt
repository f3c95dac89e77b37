-- The places that a script may change.
use Rattle.adversary_script.specs.declared.script.Action.{Action}
use Rattle.adversary_script.specs.declared.script.Action.TheVariants.{Flip, Put, Restore, RestoreAll, Save, SaveAll, Set, Swap}
use Rattle.adversary_script.specs.declared.script.ScriptLine.{ScriptLine}
use Rattle.bus_adversary.specs.StoredPlaces.{StoredPlacesView, bytes_at}
use Rattle.sec_base.specs.Place.{IsPlace, place_eq}
use Rattle.sec_base.specs.declared.place.Place.{Place}
use Rattle.std.specs.List.{list_any}
use Rattle.std.specs.Prelude.{Bool, IsFalse, List, false, true, ◌||◌, ◌≡◌}

-- an action may change what is stored at a place: it names the place as one that it writes, or puts back all places
abbrev pub may_change : Action → Place → Bool
may_change (Set named offset bytes) place = place_eq place named
may_change (Flip named offset mask) place = place_eq place named
may_change (Swap first second) place = place_eq place first || place_eq place second
may_change (Put named bytes) place = place_eq place named
may_change (Save register named) place = false
may_change (Restore register named) place = place_eq place named
may_change (SaveAll register) place = false
may_change (RestoreAll register) place = true

-- the action of some line may
abbrev pub script_may_change : List ScriptLine → Place → Bool
script_may_change script place = list_any (λ line. may_change line.action place) script

-- what is stored changed at such places alone
abbrev pub ChangesOnly : StoredPlacesView → StoredPlacesView → (Place → Bool) → Type 0
ChangesOnly old new changes =
    (place : Place) → IsPlace old.geometry place → IsFalse (changes place) → bytes_at new place ≡ bytes_at old place
