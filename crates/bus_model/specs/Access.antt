-- The accesses of a bus, and what they make of its history.
use Rattle.std.proofs.Common.{◌≡◌, ℕ, ◌+◌, List, [], ◌∷◌, ◌++◌, if◌then◌else◌, refl, ap, sym, ◌∙◌}
use Rattle.std.specs.Prelude.{Result, Ok, Err}
use Rattle.sec_base.specs.declared.stop.NoMemory.{NoMemory}
use Rattle.sec_base.specs.Place.{place_eq}
use Rattle.sec_base.specs.declared.place.Place.{Place}
use Rattle.bus_model.specs.BusHistory.{BusHistory, after_read, after_write}

-- a read of a place that was answered by these bytes, or a write of these bytes at a place
pub data Access : Type 0 where
  Read : Place → List ℕ → Access
  Write : Place → List ℕ → Access

-- a read of a place, or no access where it was refused
abbrev pub one_read : {A : Type 0} → Place → (A → List ℕ) → Result A NoMemory → List Access
one_read place bytes (Ok answer) = Read place (bytes answer) ∷ []
one_read place bytes (Err refused) = []

-- a write at a place, or no access where it was refused
abbrev pub one_write : Place → List ℕ → Result (Unit {0}) NoMemory → List Access
one_write place bytes (Ok done) = Write place bytes ∷ []
one_write place bytes (Err refused) = []

-- one more access
abbrev pub after_one : Access → BusHistory → BusHistory
after_one (Read place bytes) history = after_read place bytes history
after_one (Write place bytes) history = after_write place bytes history

-- accesses, one after another
abbrev pub after_all : List Access → BusHistory → BusHistory
after_all [] history = history
after_all (access ∷ more) history = after_all more (after_one access history)

-- a history became another one by these accesses
abbrev pub CameBy : BusHistory → List Access → BusHistory → Type 0
CameBy old accesses new = new ≡ after_all accesses old

-- the writes among accesses, in order
abbrev pub writes_in : List Access → List Access
writes_in [] = []
writes_in (Read place bytes ∷ more) = writes_in more
writes_in (Write place bytes ∷ more) = Write place bytes ∷ writes_in more

-- how many of them read a place
abbrev pub reads_of : Place → List Access → ℕ
reads_of place [] = 0
reads_of place (Read other bytes ∷ more) = (if place_eq place other then 1 else 0) + reads_of place more
reads_of place (Write other bytes ∷ more) = reads_of place more

-- what a place holds after them, where it held these bytes
abbrev pub stands_after : Place → List ℕ → List Access → List ℕ
stands_after place bytes [] = bytes
stands_after place bytes (Read other answer ∷ more) = stands_after place bytes more
stands_after place bytes (Write other put ∷ more) = stands_after place (if place_eq place other then put else bytes) more

-- the last one reads a place
pub record EndsWithRead (place : Place) (accesses : List Access) : Type 0 where
  pub before : List Access
  pub bytes : List ℕ
  pub is : accesses ≡ before ++ Read place bytes ∷ []

-- each is of such a place
abbrev pub AreOf : (Place → Type 0) → List Access → Type 0
AreOf Where [] = Unit {0}
AreOf Where (Read place bytes ∷ more) = Where place × AreOf Where more
AreOf Where (Write place bytes ∷ more) = Where place × AreOf Where more

-- Accesses after others make what they make together.

pub after_joined : (before after : List Access) (history : BusHistory) → after_all (before ++ after) history ≡ after_all after (after_all before history)
after_joined [] after history = refl
after_joined (access ∷ before) after history = after_joined before after (after_one access history)

pub came_on : (first second third : BusHistory) (before after : List Access) → CameBy first before second → CameBy second after third →
    CameBy first (before ++ after) third
came_on first second third before after came more = more ∙ ap (after_all after) came ∙ sym (after_joined before after first)
