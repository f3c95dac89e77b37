-- The false answers of a bus.
use Rattle.std.specs.Prelude.{◌≡◌, ℕ, List, None, not, if◌then◌else◌}
use Rattle.std.specs.Option.{option_map}
use Rattle.std.specs.Str.{bytes_eq}
use Rattle.sec_base.specs.Count.{more_by}
use Rattle.sec_base.specs.Evidence.{sealed_bytes}
use Rattle.sec_base.specs.declared.place.Place.TheVariants.{Line, Node}
use Rattle.bus_model.specs.declared.lies.FalseAnswer.{FalseAnswer}
use Rattle.bus_model.specs.declared.lies.FalseAnswer.TheVariants.{Sealed as sealed_answer, Block as block_answer}
use Rattle.bus_model.specs.declared.lies.Lies.{Lies}
use Rattle.bus_model.specs.BusHistory.{BusHistory, Lie, first_lie}

-- a false answer as contracts see it
abbrev pub lie_of : FalseAnswer → Lie
lie_of (sealed_answer access line sealed) = record { access = access; place = Line line; bytes = sealed_bytes sealed }
lie_of (block_answer access level index block) = record { access = access; place = Node level index; bytes = block }

-- no answer was false
abbrev pub no_lies : Lies
no_lies = record { count = 0; first = None }

-- a history with these false answers
abbrev pub with_lies : Lies → BusHistory → BusHistory
with_lies lies history = record history { lies = lies.count; lie = option_map lie_of lies.first }

-- an answer was counted where it differs from what was written
pub record IsJudged (answer : Lie) (written : List ℕ) (old new : Lies) : Type 0 where
  pub count : new.count ≡ (if not (bytes_eq answer.bytes written) then more_by 1 old.count else old.count)
  pub first : option_map lie_of new.first
      ≡ (if not (bytes_eq answer.bytes written) then first_lie old.count (option_map lie_of old.first) answer else option_map lie_of old.first)
