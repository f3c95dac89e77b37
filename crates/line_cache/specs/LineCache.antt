-- A cache of lines over a store of lines.
use Rattle.std.specs.Prelude.{◌≡◌, ℕ, ◌<◌, ◌≤◌, List, [], ◌∷◌, ◌++◌, length, take, replicate, false, Option, Some, None, Result, Ok, Err, IfOk, ◌⊎◌, Contains}
use Rattle.std.specs.Option.{option_or}
use Rattle.std.specs.Result.{result_err}
use Rattle.sec_base.specs.Lines.{IsLineCount, joined_lines, line_at}
use Rattle.sec_base.specs.declared.geometry.TheConstants.{LINE_LEN}
use Rattle.sec_base.specs.declared.stop.MemStop.{MemStop}
use Rattle.cache_set.specs.declared.way.Way.{Way}
use Rattle.cache_set.specs.Bringing.{leaving, with_room}
use Rattle.cache_set.specs.Cache.{IsCache, new_cache, copy_at, places, way_at}

-- the number of sets
abbrev pub line_sets : ℕ
line_sets = 64

-- how many lines are held at most
abbrev pub most_held : ℕ
most_held = 128

-- the store, the sets of ways with copies of its lines, and the first stop that a call answered
pub record LineCacheView (S : Type 0) : Type 0 where
  pub store : S
  pub lines : List (List Way)
  pub stop : Option MemStop

-- over a store, nothing held
abbrev pub new_lines : {S : Type 0} → S → LineCacheView S
new_lines store = record { store = store; lines = new_cache line_sets; stop = None }

-- the lines that the cache has a copy of
abbrev pub held_lines : {S : Type 0} → LineCacheView S → List ℕ
held_lines cache = places cache.lines

-- cut, or filled with zeros, to 64 bytes
unfoldable pub whole_line : List ℕ → List ℕ
whole_line bytes = take LINE_LEN (bytes ++ replicate LINE_LEN 0)

-- the bytes of a line: its copy, where it is held, and else those of the store
abbrev pub laid_over : Option Way → List ℕ → List ℕ
laid_over None stored = whole_line stored
laid_over (Some way) stored = whole_line way.copy

-- the lines of a store with the held copies laid over
abbrev pub contents_over : List ℕ → ℕ → List (List Way) → List ℕ
contents_over stored count lines = joined_lines (λ line. laid_over (way_at lines line) (line_at stored line)) count

-- each copy is of a line of the store, and whole
pub record AreCopies (count : ℕ) (lines : List (List Way)) : Type 0 where
  pub cache : IsCache line_sets lines
  pub inside : (line : ℕ) (way : Way) → way_at lines line ≡ Some way → line < count
  pub whole : (line : ℕ) (way : Way) → way_at lines line ≡ Some way → length way.copy ≡ 64

-- a copy that was not changed is the store's line
abbrev pub AreClean : List ℕ → List (List Way) → Type 0
AreClean stored lines = (line : ℕ) (way : Way) → way_at lines line ≡ Some way → way.changed ≡ false → way.copy ≡ line_at stored line

module _ {S : Type 0} (contents_of : S → List ℕ) (extent_of : S → ℕ) where
  -- the contents of a cache: the lines of its store with the held copies laid over
  abbrev pub contents : LineCacheView S → List ℕ
  contents cache = contents_over (contents_of cache.store) (extent_of cache.store) cache.lines

module _ {S : Type 0} (stopped_of : S → Option MemStop) where
  -- the first stop that a call answered, or the store's
  abbrev pub stopped : LineCacheView S → Option MemStop
  stopped cache = option_or cache.stop (stopped_of cache.store)

-- what always holds: where the store can be relied on, and no call has stopped, the copies that were not changed are its
-- lines
pub record IsLineCache {S : Type 0} (contents_of : S → List ℕ) (extent_of : S → ℕ) (sound : S → Type 0) (stopped_of : S → Option MemStop) (cache : LineCacheView S) : Type 0 where
  pub some_memory : IsLineCount (extent_of cache.store)
  pub copies : AreCopies (extent_of cache.store) cache.lines
  pub clean : stopped stopped_of cache ≡ None → sound cache.store → AreClean (contents_of cache.store) cache.lines

module _ {S : Type 0} (read_moved : S → ℕ → Result (List ℕ) MemStop → S → Type 0) (write_moved : S → ℕ → List ℕ → Result (Unit {0}) MemStop → S → Type 0) where
  -- a way is written, and then, unless that stopped, a line is read; the answer is the last one
  abbrev pub IsWrittenThenRead : S → Way → ℕ → Result (List ℕ) MemStop → S → Type 0
  IsWrittenThenRead before way line answer after =
      ((stop : MemStop) × (answer ≡ Err stop) × write_moved before way.place way.copy (Err stop) after)
      ⊎ ((middle : S) × write_moved before way.place way.copy (Ok tt) middle × read_moved middle line answer after)

  -- what a miss makes of the store, by the changed way that goes out for it
  abbrev pub IsMiss : Option Way → S → ℕ → Result (List ℕ) MemStop → S → Type 0
  IsMiss None before line answer after = read_moved before line answer after
  IsMiss (Some way) before line answer after = IsWrittenThenRead before way line answer after

  -- A call on a line that is not held. It stops as the store did; else the line's copy is what the store answered, or what
  -- the call made of that.
  pub record IsMissed (lines : List (List Way)) (before : S) (line : ℕ) (copied : List ℕ → List ℕ) (stop : Option MemStop)
      (lines' : List (List Way)) (after : S) : Type 0 where
    pub answer : Result (List ℕ) MemStop
    pub miss : IsMiss (leaving lines line) before line answer after
    pub stops : result_err answer ≡ stop
    pub copy : IfOk answer (λ bytes. copy_at lines' line ≡ Some (copied bytes))

  -- A miss that stopped. Where the write of the changed way stopped, no way went out; where the read of the line did, the way
  -- that goes out for it is gone.
  abbrev pub IsStoppedMiss : Option Way → List (List Way) → S → ℕ → MemStop → List (List Way) → S → Type 0
  IsStoppedMiss None lines before line stop lines' after = read_moved before line (Err stop) after × (lines' ≡ with_room lines line)
  IsStoppedMiss (Some way) lines before line stop lines' after =
      (write_moved before way.place way.copy (Err stop) after × (lines' ≡ lines))
      ⊎ ((middle : S) × write_moved before way.place way.copy (Ok tt) middle × read_moved middle line (Err stop) after
      × (lines' ≡ with_room lines line))

  -- what a call on a line makes of a cache
  pub record IsStep (before : LineCacheView S) (line : ℕ) (after : LineCacheView S) : Type 0 where
    pub hit : Contains (held_lines before) line → (after.store ≡ before.store) × (leaving before.lines line ≡ None)
    pub miss : ¬ (Contains (held_lines before) line) →
        (answer : Result (List ℕ) MemStop) × IsMiss (leaving before.lines line) before.store line answer after.store
    pub held : (other : ℕ) → Contains (held_lines after) other → Contains (held_lines before) other ⊎ (other ≡ line)
    pub few : length (held_lines after) ≤ most_held

  -- calls on these lines led from one to the other
  abbrev pub IsMoved : LineCacheView S → List ℕ → LineCacheView S → Type 0
  IsMoved before [] after = after ≡ before
  IsMoved before (line ∷ lines) after = (middle : LineCacheView S) × IsStep before line middle × IsMoved middle lines after
