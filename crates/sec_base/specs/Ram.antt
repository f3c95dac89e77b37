-- What calls make of a memory.
use Rattle.std.specs.Prelude.{◌≡◌, ℕ, List, Option, None}
use Rattle.sec_base.specs.declared.stop.MemStop.{MemStop}

-- The memory had not stopped before, and what it answered can be relied on after.
abbrev pub IsReliable : {M : Type 0} → (M → Option MemStop) → (M → Type 0) → M → M → Type 0
IsReliable {M} stopped sound old new = (stopped old ≡ None) × sound new

-- What all calls leave of a memory: its size, lost soundness stays lost, and calls by some lines led from one to the
-- other, of which this is so.
pub record GoesOn {M : Type 0} (extent_of : M → ℕ) (sound : M → Type 0) (moved_by : M → List ℕ → M → Type 0) (touched_are : List ℕ → Type 0) (old new : M) : Type 0 where
  pub extent : extent_of new ≡ extent_of old
  pub lost : sound new → sound old
  pub lines : List ℕ
  pub moved : moved_by old lines new
  pub touched : touched_are lines
