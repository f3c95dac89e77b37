-- What a bus was asked and what it answered.
use Rattle.std.specs.Prelude.{◌==◌, ◌≡◌, ℕ, List, Option, Some, None, Bool, not, if◌then◌else◌}
use Rattle.std.specs.Str.{bytes_eq}
use Rattle.sec_base.specs.Count.{more_by}
use Rattle.sec_base.specs.Place.{IsPlace, at_place, zeros_of}
use Rattle.sec_base.specs.declared.place.Place.{Place}
use Rattle.sec_base.specs.Geometry.{GeometryView}

-- a false answer: which access it was, its place, and the bytes that were answered
pub record Lie : Type 0 where
  pub access : ℕ
  pub place : Place
  pub bytes : List ℕ

-- the shape of the tree; what was written last at each place, and how often it was read; how many reads and writes
-- were answered; how many answers were false, and the first of them
pub record BusHistory : Type 0 where
  pub geometry : GeometryView
  pub written : Place → List ℕ
  pub reads : Place → ℕ
  pub accesses : ℕ
  pub lies : ℕ
  pub lie : Option Lie

-- nothing was asked yet
abbrev pub new_history : GeometryView → BusHistory
new_history geometry =
    record { geometry = geometry; written = zeros_of; reads = λ place. 0; accesses = 0; lies = 0; lie = None }

-- nothing was written yet
pub record NothingWritten (history : BusHistory) : Type 0 where
  pub zeros : (place : Place) → IsPlace history.geometry place → history.written place ≡ zeros_of place

-- one more access
abbrev pub after_access : BusHistory → BusHistory
after_access history = record history { accesses = more_by 1 history.accesses }

-- bytes were written at a place
unfoldable pub after_write : Place → List ℕ → BusHistory → BusHistory
after_write place bytes history = after_access (record history { written = at_place place bytes history.written })

-- these bytes, as the answer to a read of a place, are false
unfoldable pub is_false : Place → List ℕ → BusHistory → Bool
is_false place bytes history = not (bytes_eq bytes (history.written place))

-- the first lie, where so many were counted before this one
abbrev pub first_lie : ℕ → Option Lie → Lie → Option Lie
first_lie lies before lie = if lies == 0 then Some lie else before

-- the last access was answered falsely
abbrev pub after_lie : Place → List ℕ → BusHistory → BusHistory
after_lie place bytes history =
    record history {
      lies = more_by 1 history.lies;
      lie = first_lie history.lies history.lie (record { access = history.accesses; place = place; bytes = bytes });
    }

-- a read of a place was counted
abbrev pub after_answer : Place → BusHistory → BusHistory
after_answer place history = after_access (record history { reads = at_place place (more_by 1 (history.reads place)) history.reads })

-- a read of a place was answered by these bytes
unfoldable pub after_read : Place → List ℕ → BusHistory → BusHistory
after_read place bytes history =
    if is_false place bytes history then after_lie place bytes (after_answer place history) else after_answer place history
