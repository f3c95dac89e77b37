-- The definition of turnover, computed at small numbers.
use Rattle.std.proofs.Common.{◌≡◌, ℕ, List, [], ◌∷◌, ◌++◌, replicate, refl}
use Rattle.sec_base.specs.Geometry.{page_of}
use Rattle.rv32_core.specs.Machine.{Machine, plain}
use Rattle.rv32_core.specs.TouchedLines.{touched_lines}
use Rattle.rv32_core.specs.Turnover.{Window, blank_groups, next_window, old_groups, turnover_by, window_at, with_touched}

-- a window in which lines 0 and 1 are old, and 2 and 3 blank
abbrev window : List ℕ → Window
window touched = record { memory = replicate 128 1 ++ replicate 128 0; touched = touched; turnover = 5 }

-- A line counts once. One past the end is blank.

two_old : old_groups (λ line. line) (window (0 ∷ 1 ∷ 0 ∷ 2 ∷ 9 ∷ [])) ≡ 2
two_old = refl

two_blank : blank_groups (λ line. line) (window (0 ∷ 2 ∷ 2 ∷ 9 ∷ [])) ≡ 2
two_blank = refl

one_page : old_groups page_of (window (0 ∷ 1 ∷ 0 ∷ [])) ≡ 1
one_page = refl

-- A window closes at the second old line and is counted, and no line earlier.

closed : next_window (λ line. line) 2 (7 ∷ []) (window (0 ∷ 1 ∷ [])) ≡ record { memory = 7 ∷ []; touched = []; turnover = 6 }
unfolding next_window
closed = refl

still_open : next_window (λ line. line) 2 (7 ∷ []) (window (0 ∷ 0 ∷ 2 ∷ [])) ≡ window (0 ∷ 0 ∷ 2 ∷ [])
unfolding next_window
still_open = refl

-- It closes at the second blank line too, and is not counted; where it has two of each, it is.

closed_blank : next_window (λ line. line) 2 (7 ∷ []) (window (0 ∷ 3 ∷ 2 ∷ [])) ≡ record { memory = 7 ∷ []; touched = []; turnover = 5 }
unfolding next_window
closed_blank = refl

closed_by_both : next_window (λ line. line) 2 (7 ∷ []) (window (0 ∷ 3 ∷ 2 ∷ 1 ∷ [])) ≡ record { memory = 7 ∷ []; touched = []; turnover = 6 }
unfolding next_window
closed_by_both = refl

-- no instruction turns nothing over
pub turned_by_none : (group : ℕ → ℕ) (bound : ℕ) (start : Machine) → turnover_by group bound start 0 ≡ 0
unfolding window_at
turned_by_none group bound start = refl

-- Two instructions that touch these lines, in a memory that neither changes

abbrev after_two : ℕ → List ℕ → List ℕ → List ℕ → Window
after_two bound memory first second =
    next_window (λ line. line) bound memory (with_touched second
    (next_window (λ line. line) bound memory (with_touched first (record { memory = memory; touched = []; turnover = 0 }))))

two_instructions : (start : Machine) (bound : ℕ) (memory first second : List ℕ) →
    start.state.memory ≡ memory → (plain start 1).state.memory ≡ memory → (plain start 2).state.memory ≡ memory →
    touched_lines (plain start 0).state ≡ first → touched_lines (plain start 1).state ≡ second →
    window_at (λ line. line) bound start 2 ≡ after_two bound memory first second
unfolding window_at
two_instructions start bound memory first second begins next last touched more = rw last (rw next (rw touched (rw more (rw begins refl))))

-- loads of lines 1 and 2, whose words stand in line 0: each turns two lines over, and both three
two_loads : (bound : ℕ) → Window
two_loads bound = after_two bound (replicate 192 1) (0 ∷ 1 ∷ []) (0 ∷ 2 ∷ [])

each_turns : (two_loads 2).turnover ≡ 2
unfolding two_loads next_window
each_turns = refl

both_turn : (two_loads 3).turnover ≡ 1
unfolding two_loads next_window
both_turn = refl

none_turns : (two_loads 4).turnover ≡ 0
unfolding two_loads next_window
none_turns = refl
