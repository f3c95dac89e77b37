-- A bus that is honest but for one answer.
use Rattle.std.specs.Prelude.{◌==◌, ℕ, ◌+◌, List, Bool, ◌&&◌, if◌then◌else◌, slice_index, slice_set, bit_xor}
use Rattle.sec_base.specs.Place.{place_eq}
use Rattle.sec_base.specs.declared.place.Place.{Place}
use Rattle.bus_model.specs.declared.lies.Lies.{Lies}
use Rattle.bus_model.specs.declared.flip_bus.Flip.{Flip}
use Rattle.bus_model.specs.BusHistory.{BusHistory}
use Rattle.bus_model.specs.Lies.{with_lies}
use Rattle.bus_model.specs.HonestBus.{HonestBusView, honest_history}

-- what is kept as an honest bus keeps it, which answer is changed and how, and the false answers so far
pub record FlipBusView : Type 0 where
  pub kept : HonestBusView
  pub flip : Flip
  pub lies : Lies

-- what such a bus was asked and answered
abbrev pub flip_history : FlipBusView → BusHistory
flip_history seen = with_lies seen.lies (honest_history seen.kept)

-- after so many reads of a place its next read is the one that is changed
abbrev pub is_due : Flip → Place → ℕ → Bool
is_due flip place reads = place_eq place flip.place && ((reads + 1) == flip.read)

-- bytes, one of which is xored with the mask
unfoldable pub with_flip : ℕ → ℕ → List ℕ → List ℕ
with_flip offset mask bytes = slice_set bytes offset (bit_xor (slice_index bytes offset) mask)

-- what the next read of a place answers
abbrev pub next_answer : Flip → BusHistory → Place → List ℕ
next_answer flip history place =
    if is_due flip place (history.reads place)
    then with_flip flip.offset flip.mask (history.written place)
    else history.written place
