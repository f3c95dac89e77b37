-- What a sink keeps that compares what is written to it with the bytes that are expected. Contracts of private calls alone
-- cite it.
use Rattle.std.specs.Prelude.{◌≡◌, ◌≤◌, ◌↔◌, ℕ, List, [], ◌∷◌, ◌++◌, length, take, Option, Some, None, IsTrue}
use Rattle.sec_base.specs.Prefix.{IsPrefix}
use Rattle.sec_base.specs.Sink.{SinkState}
use Rattle.bus_trace.specs.declared.comparison.Printed.{Printed}

-- the bytes that are expected, how many of them came, the byte that then came and isn't the next one, and how many writes
-- failed behind it
pub record ComparisonView : Type 0 where
  pub expected : List ℕ
  pub agreed : ℕ
  pub wrong : Option ℕ
  pub faults : ℕ

-- that byte, with those before it, is no front part of the bytes
pub record Agrees (expected : List ℕ) (agreed : ℕ) (wrong : Option ℕ) : Type 0 where
  pub within : agreed ≤ length expected
  pub apart : (byte : ℕ) → wrong ≡ Some byte → ¬ IsPrefix (take agreed expected ++ byte ∷ []) expected

-- the wrong byte, if there is one
abbrev pub wrong_byte : Option ℕ → List ℕ
wrong_byte None = []
wrong_byte (Some byte) = byte ∷ []

-- all that was written
abbrev pub taken_by : ComparisonView → List ℕ
taken_by seen = take seen.agreed seen.expected ++ wrong_byte seen.wrong

-- the sink; as what was written it tells the bytes that are expected too, so that no write changes them
abbrev pub compared : ComparisonView → SinkState
compared seen = record { written = Some (length seen.expected ∷ (seen.expected ++ taken_by seen)); faults = seen.faults }

-- a test tells whether what was printed is a front part of what was expected, and one whether it goes on from that
pub record IsPrinted (expected printed : List ℕ) (tests : Printed) : Type 0 where
  pub front : IsTrue tests.front ↔ IsPrefix printed expected
  pub whole : IsTrue tests.whole ↔ IsPrefix expected printed
