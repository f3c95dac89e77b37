-- The blocks of the pads of a list of lines with their counters.
use Rattle.std.specs.Prelude.{◌≡◌, ℕ, ◌^◌, ◌<◌, List, Some, All}
use Rattle.std.specs.List.{slice_get}
use Rattle.sec_base.specs.declared.counter.Counter.{Counter}
use Rattle.pad_stream.specs.Pad.{pad_block}

-- a line and a counter fit their types
abbrev pub IsFit : ℕ → Counter → Type 0
IsFit line counter = (line < 2 ^ 32) × (counter.page < 2 ^ 64) × (counter.line < 2 ^ 8)

-- those of a list do
abbrev pub AreFit : List (ℕ × Counter) → Type 0
AreFit used = All (λ entry. IsFit entry.0 entry.1) used

-- under this key no two of all the blocks of all their pads, four each, are the same
pub record ShareNoBlock (key : List ℕ) (used : List (ℕ × Counter)) : Type 0 where
  pub apart : (first second line other : ℕ) (counter later : Counter) (block another : ℕ) →
      slice_get used first ≡ Some (line, counter) → slice_get used second ≡ Some (other, later) →
      block < 4 → another < 4 → pad_block key line counter block ≡ pad_block key other later another →
      (first ≡ second) × (block ≡ another)
