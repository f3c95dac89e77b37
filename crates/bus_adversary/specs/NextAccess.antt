-- The access that comes next, and the triggers that are due before it.
use Rattle.adversary_script.specs.declared.script.Trigger.{Trigger}
use Rattle.adversary_script.specs.declared.script.Trigger.TheVariants.{Access as nth_access, Read as nth_read, Write as nth_write}
use Rattle.bus_adversary.specs.declared.next_access.Access.{Access}
use Rattle.bus_adversary.specs.declared.next_access.Access.TheVariants.{Read, Write}
use Rattle.bus_adversary.specs.declared.next_access.NextAccess.{NextAccess}
use Rattle.sec_base.specs.Place.{place_eq}
use Rattle.sec_base.specs.declared.place.Place.{Place}
use Rattle.std.specs.Prelude.{Bool, false, ℕ, ◌&&◌, ◌+◌, ◌==◌}

-- a number, counted from 1, is the one after so many
abbrev pub is_next : ℕ → ℕ → Bool
is_next number before = (before + 1) == number

-- the access is a read of this place
abbrev pub is_read_of : Place → Access → Bool
is_read_of place (Read here) = place_eq here place
is_read_of place (Write here) = false

-- the access is a write of this place
abbrev pub is_write_of : Place → Access → Bool
is_write_of place (Write here) = place_eq here place
is_write_of place (Read here) = false

-- a trigger waits for the next access: for that number among all accesses, or among the reads or writes of its place
abbrev pub is_due : NextAccess → Trigger → Bool
is_due next (nth_access n) = is_next n next.accesses_before
is_due next (nth_read place k) = is_read_of place next.access && is_next k next.same_before
is_due next (nth_write place k) = is_write_of place next.access && is_next k next.same_before
