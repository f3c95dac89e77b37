-- Counts of many places that rise, each of which stands still at 2 ^ 64 - 1.
use Rattle.std.specs.Prelude.{ℕ, zero, suc, ◌+◌, ◌≤◌, ◌<◌, ◌⊎◌}
use Rattle.sec_base.specs.Count.{top}

-- the counts of the first places together
unfoldable pub sum_below : (ℕ → ℕ) → ℕ → ℕ
sum_below count zero = 0
sum_below count (suc places) = sum_below count places + count places

-- They rose together by at least k, or one of them stands at its end.
abbrev pub Gain : ℕ → (ℕ → ℕ) → (ℕ → ℕ) → ℕ → Type 0
Gain places old new k =
    (sum_below old places + k ≤ sum_below new places) ⊎ ((place : ℕ) × (place < places) × (top ≤ new place))
