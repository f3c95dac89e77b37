-- When a program fits a memory.
use Rattle.std.specs.Prelude.{◌≡◌, ◌==◌, ℕ, ◌+◌, ◌%◌, ◌≤◌, Bool, ◌&&◌, nat_le, List, length, All}
use Rattle.sec_base.specs.Geometry.{IsMemorySize}
use Rattle.sec_base.specs.Segment.{IsSegment}
use Rattle.sec_base.specs.declared.segment.Segment.{Segment}

-- a program may begin there: at a multiple of 4 whose word ends inside the memory
abbrev pub is_entry : ℕ → ℕ → Bool
is_entry size address = (address % 4 == 0) && nat_le (address + 4) size

-- An address that a run can begin at: a multiple of 4, with a whole word of memory behind it.
pub record IsEntry (size address : ℕ) : Type 0 where
  pub aligned : address % 4 ≡ 0
  pub inside : address + 4 ≤ size

-- a program that fits a memory of this size
pub record IsImage (entry size : ℕ) (segments : List Segment) : Type 0 where
  pub memory : IsMemorySize size
  pub begins : IsEntry size entry
  pub few : length segments ≤ 64
  pub each : All (IsSegment size) segments
