-- Counts that rise, and stand still at 2 ^ 64 - 1.
use Rattle.std.specs.Prelude.{ℕ, ◌+◌, ◌≤◌, min}

-- the greatest count
abbrev pub top : ℕ
top = 18446744073709551615

-- the count after k more
abbrev pub more_by : ℕ → ℕ → ℕ
more_by k n = min (n + k) top

-- it rose by at least k, or stands at its end
abbrev pub RoseBy : ℕ → ℕ → ℕ → Type 0
RoseBy k old new = more_by k old ≤ new

-- it rose, or stands at its end
abbrev pub Rose : ℕ → ℕ → Type 0
Rose old new = RoseBy 1 old new
