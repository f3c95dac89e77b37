-- How a way goes out. This serves private contracts alone.
use Rattle.std.specs.Prelude.{◌≡◌, ℕ, List, Bool, true, false, Option, Some, None, Result, Ok, Err}
use Rattle.sec_base.specs.Lines.{with_line}
use Rattle.sec_base.specs.declared.stop.MemStop.{MemStop}
use Rattle.cache_set.specs.declared.way.Way.{Way}

-- the store's bytes once a way is evicted: a dirty copy is written back, a clean one is not
abbrev pub written_if : Bool → Way → List ℕ → List ℕ
written_if false way stored = stored
written_if true way stored = with_line stored way.place way.copy

-- the store's bytes after a way was written, if it was changed
abbrev pub written : Way → List ℕ → List ℕ
written way stored = written_if way.changed way stored

module _ {S : Type 0} (write_moved : S → ℕ → List ℕ → Result (Unit {0}) MemStop → S → Type 0) where
  -- what it makes of the store that a way goes out, by whether it was changed
  abbrev pub IsGone : Option Way → S → S → Type 0
  IsGone None before after = after ≡ before
  IsGone (Some way) before after = write_moved before way.place way.copy (Ok tt) after

  -- and where its write stopped
  abbrev pub IsWritten : Option Way → MemStop → S → S → Type 0
  IsWritten None stop before after = ⊥
  IsWritten (Some way) stop before after = write_moved before way.place way.copy (Err stop) after
