-- The lines of a memory.
use Rattle.std.specs.Prelude.{◌==◌, ℕ, ◌+◌, ◌*◌, zero, suc, List, [], ◌++◌, take, drop, Bool, IsTrue}
use Rattle.std.specs.List.{list_any}
use Rattle.sec_base.specs.Geometry.{all_geometries, line_count}
use Rattle.sec_base.specs.declared.geometry.TheConstants.{LINE_LEN}

-- the number of lines of some tree's memory
abbrev pub is_line_count : ℕ → Bool
is_line_count lines = list_any (λ geometry. line_count geometry == lines) all_geometries

-- A number of lines that a memory can have.
abbrev pub IsLineCount : ℕ → Type 0
IsLineCount lines = IsTrue (is_line_count lines)

-- the bytes of a line
abbrev pub line_at : List ℕ → ℕ → List ℕ
line_at contents line = take LINE_LEN (drop (LINE_LEN * line) contents)

-- the memory with these bytes in a line
abbrev pub with_line : List ℕ → ℕ → List ℕ → List ℕ
with_line contents line bytes = take (LINE_LEN * line) contents ++ bytes ++ drop (LINE_LEN * line + LINE_LEN) contents

-- the lines that f gives, from the first on, one after another
unfoldable pub joined_lines : (ℕ → List ℕ) → ℕ → List ℕ
joined_lines f zero = []
joined_lines f (suc lines) = joined_lines f lines ++ f lines
