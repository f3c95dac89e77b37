-- Which entries of a trace are false.
use Rattle.std.specs.Prelude.{ℕ, ◌+◌, List, [], ◌∷◌, Option, Some, None, Bool, true, if◌then◌else◌}
use Rattle.std.specs.Str.{bytes_eq}
use Rattle.sec_base.specs.Place.{at_place, zeros_of}
use Rattle.sec_base.specs.declared.place.Place.{Place}
use Rattle.bus_model.specs.Access.{Access, Read, Write}
use Rattle.bus_trace.specs.declared.entry.Entry.{Entry}
use Rattle.bus_trace.specs.Entry.{accesses_of}

-- a read is true where it gives what was written last at its place; a write always is
abbrev pub is_true : (Place → List ℕ) → Access → Bool
is_true written (Read place bytes) = bytes_eq bytes (written place)
is_true written (Write place bytes) = true

-- what is written last at each place after an access
abbrev pub after_access : Access → (Place → List ℕ) → Place → List ℕ
after_access (Read place bytes) written = written
after_access (Write place bytes) written = at_place place bytes written

-- the number of the first false access, where so many went before
abbrev pub first_false_behind : ℕ → (Place → List ℕ) → List Access → Option ℕ
first_false_behind count written [] = None
first_false_behind count written (access ∷ more) =
    if is_true written access then first_false_behind (count + 1) (after_access access written) more else Some (count + 1)

-- the number of the first false entry, counted from 1; before the first one all is zeros
abbrev pub first_false : List Entry → Option ℕ
first_false entries = first_false_behind 0 zeros_of (accesses_of entries)
