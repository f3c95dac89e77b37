-- What became of the false answers of a bus.
use Rattle.std.specs.Prelude.{◌≡◌, ◌⊎◌, ℕ, ◌<◌, List, Option, Some, None}
use Rattle.sec_base.specs.declared.place.Place.{Place}
use Rattle.sec_base.specs.declared.message.Message.{Message}
use Rattle.sec_base.specs.declared.evidence.Evidence.{Evidence}
use Rattle.sec_base.specs.declared.counter.Counter.{Counter}
use Rattle.sec_base.specs.Evidence.{Fails, HasLastCounter, evidence_place, evidence_bytes}
use Rattle.bus_model.specs.BusHistory.{BusHistory, Lie}

-- no answer was false, and none was taken for tampering
pub record IsHonest (history : BusHistory) (tampered : Place → Type 0) : Type 0 where
  pub lies : history.lies ≡ 0
  pub untampered : (place : Place) → ¬ tampered place

-- The one false answer fails its check, was the last access, and was taken for tampering with its place.
pub record IsCaught (tag_of : Message → List ℕ) (used : List (ℕ × Counter)) (made : List Message) (history : BusHistory) (tampered : Place → Type 0) : Type 0 where
  pub lies : history.lies ≡ 1
  pub lie : Lie
  pub first : history.lie ≡ Some lie
  pub last : lie.access ≡ history.accesses
  pub fails : Fails tag_of used made lie.place lie.bytes
  pub ended : tampered lie.place

-- Every answer of the bus was true, or the first false one was caught.
abbrev pub HonestOrCaught : (Message → List ℕ) → List (ℕ × Counter) → List Message → BusHistory → (Place → Type 0) → Type 0
HonestOrCaught tag_of used made history tampered = IsHonest history tampered ⊎ IsCaught tag_of used made history tampered

-- Evidence is of the first false answer: of its place and its bytes, and of the line's last counter.
pub record IsOfFirstLie (made : List Message) (history : BusHistory) (evidence : Evidence) : Type 0 where
  pub lies : 0 < history.lies
  pub lie : Lie
  pub first : history.lie ≡ Some lie
  pub place : lie.place ≡ evidence_place evidence
  pub bytes : lie.bytes ≡ evidence_bytes evidence
  pub counter : HasLastCounter made evidence

-- The false answers are accounted for: without evidence there was none, or the one that there was is caught; evidence is
-- of the first of them.
pub record AccountsForLies (tag_of : Message → List ℕ) (used : List (ℕ × Counter)) (made : List Message) (history : BusHistory) (tampered : Place → Type 0) (evidence : Option Evidence) : Type 0 where
  pub answers : evidence ≡ None → HonestOrCaught tag_of used made history tampered
  pub shown : (shown_evidence : Evidence) → evidence ≡ Some shown_evidence → IsOfFirstLie made history shown_evidence
