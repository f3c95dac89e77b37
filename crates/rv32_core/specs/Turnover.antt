-- How often a run turns over what a chip of a bounded size can hold.
use Rattle.std.specs.Prelude.{ℕ, zero, suc, ◌+◌, List, [], ◌++◌, map, Bool, not, ◌==◌, nat_eq, nat_le, if◌then◌else◌}
use Rattle.std.specs.List.{list_any, filter}
use Rattle.std.specs.Set.{distinct_count}
use Rattle.sec_base.specs.Geometry.{page_of}
use Rattle.sec_base.specs.Lines.{line_at}
use Rattle.rv32_core.specs.TouchedLines.{touched_lines}
use Rattle.rv32_core.specs.Machine.{Machine, plain}

-- A window of instructions: the memory as it began, the lines that were touched since then, and how many windows
-- before it turned over.
pub record Window : Type 0 where
  pub memory : List ℕ
  pub touched : List ℕ
  pub turnover : ℕ

-- the line is not all zeros
abbrev pub is_old : List ℕ → ℕ → Bool
is_old memory line = list_any (λ byte. not (byte == 0)) (line_at memory line)

-- in how many groups of lines the window touched a line that was old as it began, and in how many another
abbrev pub old_groups : (ℕ → ℕ) → Window → ℕ
old_groups group window = distinct_count nat_eq (map group (filter (is_old window.memory) window.touched))

-- How many groups (lines or pages) a window touched whose lines were zeros as it began.
abbrev pub blank_groups : (ℕ → ℕ) → Window → ℕ
blank_groups group window =
    distinct_count nat_eq (map group (filter (λ line. not (is_old window.memory line)) window.touched))

-- the window with more lines that were touched
abbrev pub with_touched : List ℕ → Window → Window
with_touched lines window = record { memory = window.memory; touched = window.touched ++ lines; turnover = window.turnover }

-- A window closes as soon as it touched old lines in so many groups, and is counted, or blank lines in so many.
unfoldable pub next_window : (ℕ → ℕ) → ℕ → List ℕ → Window → Window
next_window group bound memory window =
    if nat_le bound (old_groups group window)
    then record { memory = memory; touched = []; turnover = window.turnover + 1 }
    else (if nat_le bound (blank_groups group window)
    then record { memory = memory; touched = []; turnover = window.turnover }
    else window)

-- the window that is open after n instructions
unfoldable pub window_at : (ℕ → ℕ) → ℕ → Machine → ℕ → Window
window_at group bound start zero = record { memory = start.state.memory; touched = []; turnover = 0 }
window_at group bound start (suc n) =
    next_window group bound (plain start (suc n)).state.memory
    (with_touched (touched_lines (plain start n).state) (window_at group bound start n))

-- how many windows touched old lines in so many groups
abbrev pub turnover_by : (ℕ → ℕ) → ℕ → Machine → ℕ → ℕ
turnover_by group bound start n = (window_at group bound start n).turnover

-- by lines, and by pages of 64 lines
abbrev pub turnover : Machine → ℕ → ℕ
turnover start n = turnover_by (λ line. line) 129 start n

-- The same by pages of 64 lines: how many windows touched old lines in 161 pages.
abbrev pub page_turnover : Machine → ℕ → ℕ
page_turnover start n = turnover_by page_of 161 start n
