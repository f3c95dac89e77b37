-- What an adversary has, the stored places and 16 registers, and what a script makes of it.
use Rattle.adversary_script.specs.declared.script.Action.{Action}
use Rattle.adversary_script.specs.declared.script.Action.TheVariants.{Flip, Put, Restore, RestoreAll, Save, SaveAll, Set, Swap}
use Rattle.adversary_script.specs.declared.script.ScriptLine.{ScriptLine}
use Rattle.bus_adversary.specs.NextAccess.{is_due}
use Rattle.bus_adversary.specs.PlaceBytes.{with_mask, with_bytes}
use Rattle.bus_adversary.specs.StoredPlaces.{EndsInZeros, StoredPlacesView, bytes_at, new_places, with_place}
use Rattle.bus_adversary.specs.declared.next_access.NextAccess.{NextAccess}
use Rattle.bus_adversary.specs.declared.adversary.Register.{Register}
use Rattle.bus_adversary.specs.declared.adversary.Register.TheVariants.{AllPlaces, Empty, Line as line_bytes, Node as node_bytes}
use Rattle.sec_base.specs.Place.{zeros_of}
use Rattle.sec_base.specs.declared.place.Place.{Place}
use Rattle.sec_base.specs.declared.place.Place.TheVariants.{Line, Node}
use Rattle.std.specs.List.{fold, list_any}
use Rattle.std.specs.Prelude.{Bool, List, if◌then◌else◌, replicate, slice_index_or, slice_set, ℕ, ◌≡◌}
use Rattle.sec_base.specs.Geometry.{GeometryView}

-- the stored places, and what each register keeps
pub record AdversaryView : Type 0 where
  pub places : StoredPlacesView
  pub registers : List Register

-- zeros at each place, and empty registers
abbrev pub new_adversary : GeometryView → AdversaryView
new_adversary geometry = record { places = new_places geometry; registers = replicate 16 Empty }

-- bytes were put at a place
abbrev pub after_put : Place → List ℕ → AdversaryView → AdversaryView
after_put place bytes adversary = record adversary { places = with_place place bytes adversary.places }

-- something was saved in a register
abbrev pub with_register : ℕ → Register → AdversaryView → AdversaryView
with_register register value adversary = record adversary { registers = slice_set adversary.registers register value }

-- what a register keeps of one place
abbrev pub register_of : Place → List ℕ → Register
register_of (Line line) bytes = line_bytes bytes
register_of (Node level index) bytes = node_bytes bytes

-- what a register keeps was put at a place, if it is a place of that kind
abbrev pub after_restore : Register → Place → AdversaryView → AdversaryView
after_restore (line_bytes bytes) (Line line) adversary = after_put (Line line) bytes adversary
after_restore (node_bytes bytes) (Node level index) adversary = after_put (Node level index) bytes adversary
after_restore (line_bytes bytes) (Node level index) adversary = adversary
after_restore (node_bytes bytes) (Line line) adversary = adversary
after_restore (AllPlaces places) place adversary = adversary
after_restore Empty place adversary = adversary

-- all places were put back, if it keeps them
abbrev pub after_restore_all : Register → AdversaryView → AdversaryView
after_restore_all (AllPlaces places) adversary = record adversary { places = places }
after_restore_all (line_bytes bytes) adversary = adversary
after_restore_all (node_bytes bytes) adversary = adversary
after_restore_all Empty adversary = adversary

-- an action was done
abbrev pub after_action : Action → AdversaryView → AdversaryView
after_action (Set place offset bytes) adversary =
    after_put place (with_bytes offset bytes.items (bytes_at adversary.places place)) adversary
after_action (Flip place offset mask) adversary =
    after_put place (with_mask offset mask.items (bytes_at adversary.places place)) adversary
after_action (Swap first second) adversary =
    after_put second (bytes_at adversary.places first) (after_put first (bytes_at adversary.places second) adversary)
after_action (Put place bytes) adversary = after_put place (with_bytes 0 bytes.items (zeros_of place)) adversary
after_action (Save register place) adversary =
    with_register register (register_of place (bytes_at adversary.places place)) adversary
after_action (Restore register place) adversary =
    after_restore (slice_index_or adversary.registers register Empty) place adversary
after_action (SaveAll register) adversary = with_register register (AllPlaces adversary.places) adversary
after_action (RestoreAll register) adversary = after_restore_all (slice_index_or adversary.registers register Empty) adversary

-- a line's action was done, if it was due
abbrev pub after_line : NextAccess → AdversaryView → ScriptLine → AdversaryView
after_line next adversary line = if is_due next line.trigger then after_action line.action adversary else adversary

-- the due actions were done, in the order of the script
abbrev pub after_due : NextAccess → List ScriptLine → AdversaryView → AdversaryView
after_due next script adversary = fold (after_line next) adversary script

-- the action of some line is due
abbrev pub any_due : NextAccess → List ScriptLine → Bool
any_due next script = list_any (λ line. is_due next line.trigger) script

-- what a register keeps fits the tree: all its places, or the bytes of one
abbrev pub FitsRegister : GeometryView → Register → Type 0
FitsRegister geometry (AllPlaces places) = places.geometry ≡ geometry
FitsRegister geometry (line_bytes bytes) = EndsInZeros geometry bytes
FitsRegister geometry (node_bytes bytes) = Unit {0}
FitsRegister geometry Empty = Unit {0}
