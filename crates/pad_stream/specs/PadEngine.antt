-- What contracts see of a pad engine, and what its calls make of it.
use Rattle.std.specs.Prelude.{ℕ, ◌-◌, max, List, [], ◌∷◌, ◌++◌}
use Rattle.sec_base.specs.declared.counter.Counter.{Counter}

-- the key's 16 bytes, the lines and counters that were used, in order, and how many more are sure to find memory
pub record PadEngineView : Type 0 where
  pub key : List ℕ
  pub used : List (ℕ × Counter)
  pub room : ℕ

-- nothing was used
abbrev pub new_pads : List ℕ → PadEngineView
new_pads key = record { key = key; used = []; room = 0 }

-- the next n are sure to find memory
abbrev pub with_room : ℕ → PadEngineView → PadEngineView
with_room n stream = record stream { room = max stream.room n }

-- a line was enciphered under a counter
abbrev pub after_encrypt : ℕ → Counter → PadEngineView → PadEngineView
after_encrypt line counter stream =
    record stream { used = stream.used ++ (line, counter) ∷ []; room = stream.room - 1 }
