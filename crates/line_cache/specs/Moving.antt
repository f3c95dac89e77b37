-- The laws of a memory, for a cache of lines.
use Rattle.std.proofs.Common.{◌≡◌, ℕ, ◌*◌, List, [], ◌∷◌, ◌++◌, length, Option, Some, None, Result, subst, arith, length-append}
use Rattle.std.proofs.lemmas.List.{length-replicate, length-take}
use Rattle.sec_base.proofs.JoinedLines.{length-joined_lines}
use Rattle.sec_base.specs.Lines.{line_at}
use Rattle.sec_base.specs.declared.stop.MemStop.{MemStop}
use Rattle.cache_set.specs.declared.way.Way.{Way}
use Rattle.cache_set.specs.Cache.{way_at}
use Rattle.line_cache.specs.LineCache.{LineCacheView, IsMoved, contents_over, laid_over, whole_line}

-- bytes cut or filled to a whole line are 64
pub length-whole_line : (bytes : List ℕ) → length (whole_line bytes) ≡ 64
unfolding whole_line
length-whole_line bytes = omega (arith, length-take {A = ℕ}, length-append {A = ℕ}, length-replicate {A = ℕ})

length-laid_over : (found : Option Way) (stored : List ℕ) → length (laid_over found stored) ≡ 64
length-laid_over None stored = length-whole_line stored
length-laid_over (Some way) stored = length-whole_line way.copy

-- a line is 64 bytes, whether it is held or not
pub length-line : (stored : List ℕ) (lines : List (List Way)) (line : ℕ) → length (laid_over (way_at lines line) (line_at stored line)) ≡ 64
length-line stored lines line = length-laid_over (way_at lines line) (line_at stored line)

-- the contents of a cache over a store are 64 bytes a line
pub length-contents_over : (stored : List ℕ) (count : ℕ) (lines : List (List Way)) → length (contents_over stored count lines) ≡ 64 * count
length-contents_over stored count lines =
    length-joined_lines (λ line. laid_over (way_at lines line) (line_at stored line)) count (length-line stored lines)

module _ {S : Type 0} (read_moved : S → ℕ → Result (List ℕ) MemStop → S → Type 0) (write_moved : S → ℕ → List ℕ → Result (Unit {0}) MemStop → S → Type 0) where
  -- What two runs of calls made of the store, one after the other, is what the calls of both made of it.
  pub moved_on : (first second third : LineCacheView S) (before after : List ℕ) →
      IsMoved read_moved write_moved first before second → IsMoved read_moved write_moved second after third →
      IsMoved read_moved write_moved first (before ++ after) third
  moved_on first second third [] after same rest =
      subst (λ (cache : LineCacheView S). IsMoved read_moved write_moved cache after third) same rest
  moved_on first second third (line ∷ before) after (middle, step, more) rest =
      (middle, step, moved_on middle second third before after more rest)
