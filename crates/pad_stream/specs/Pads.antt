-- What was enciphered: lines with their counters, in order.
use Rattle.std.specs.Prelude.{◌≡◌, ◌⊎◌, ℕ, ◌<◌, nat_lt, List, Some}
use Rattle.std.specs.List.{filter, slice_get}
use Rattle.sec_base.specs.declared.counter.Counter.{Counter}

-- no line was enciphered twice under one counter
pub record NoRepeat (used : List (ℕ × Counter)) : Type 0 where
  pub once : (first second : ℕ) (entry : ℕ × Counter) →
      slice_get used first ≡ Some entry → slice_get used second ≡ Some entry → first ≡ second

-- a counter comes before another, by the page's and then by the line's own
abbrev pub IsBefore : Counter → Counter → Type 0
IsBefore first second = (first.page < second.page) ⊎ ((first.page ≡ second.page) × (first.line < second.line))

-- the counters of each line rise
pub record AreRising (used : List (ℕ × Counter)) : Type 0 where
  pub rise : (first second line : ℕ) (counter later : Counter) → first < second →
      slice_get used first ≡ Some (line, counter) → slice_get used second ≡ Some (line, later) → IsBefore counter later

-- those of a memory of so many lines
abbrev pub of_lines : ℕ → List (ℕ × Counter) → List (ℕ × Counter)
of_lines lines used = filter (λ entry. nat_lt entry.0 lines) used
