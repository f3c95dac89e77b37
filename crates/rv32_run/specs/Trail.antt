-- The memories that a run went through, one after each instruction that was retired.
use Rattle.std.specs.Prelude.{◌≡◌, ◌⊎◌, ℕ, zero, suc, ◌+◌, List, [], Option, None}
use Rattle.sec_base.specs.declared.stop.MemStop.{MemStop}
use Rattle.sec_base.specs.Prefix.{IsPrefix}
use Rattle.rv32_core.specs.Machine.{Machine, plain}
use Rattle.rv32_core.specs.TouchedLines.{touched_lines}

-- What calls made of a memory in the instruction after n others: it did not stop, it has the bytes of the plain
-- machine, and the lines of the calls are those that the instruction touches, in order.
pub record IsInstruction {M : Type 0} (stopped : M → Option MemStop) (contents : M → List ℕ) (moved : M → List ℕ → M → Type 0) (start : Machine) (n : ℕ) (old new : M) : Type 0 where
  pub lines : List ℕ
  pub led : moved old lines new
  pub going : stopped new ≡ None
  pub bytes : contents new ≡ (plain start (n + 1)).state.memory
  pub touched : lines ≡ touched_lines (plain start n).state

-- so many instructions after others
abbrev pub IsTrail : {M : Type 0} → (M → Option MemStop) → (M → List ℕ) → (M → List ℕ → M → Type 0) → Machine → ℕ → ℕ → M → M → Type 0
IsTrail {M} stopped contents moved start from zero first last = first ≡ last
IsTrail {M} stopped contents moved start from (suc n) first last =
    (mid : M) × IsTrail stopped contents moved start from n first mid × IsInstruction stopped contents moved start (from + n) mid last

-- The instructions from one count to another led from a memory to the last one, and from there to the end an instruction that
-- was not retired, by calls on a front part of the lines that it touches.
pub record HasTrail {M : Type 0} (stopped : M → Option MemStop) (contents : M → List ℕ) (moved : M → List ℕ → M → Type 0) (start : Machine) (from to : ℕ) (first end : M) : Type 0 where
  pub count : ℕ
  pub counted : from + count ≡ to
  pub last : M
  pub trail : IsTrail stopped contents moved start from count first last
  pub lines : List ℕ
  pub rest : moved last lines end
  pub unretired : IsPrefix lines (touched_lines (plain start to).state)

-- What was made of a memory since an instruction: nothing, or, where there may be pauses, calls that touched no line.
abbrev pub IsIdle : {M : Type 0} → (M → List ℕ → M → Type 0) → Type 0 → M → M → Type 0
IsIdle moved pauses last now = (last ≡ now) ⊎ (pauses × moved last [] now)

-- The instructions from one count to another led from a memory to the last one, and nothing but pauses from there to now.
pub record IsWalked {M : Type 0} (stopped : M → Option MemStop) (contents : M → List ℕ) (moved : M → List ℕ → M → Type 0) (pauses : Type 0) (start : Machine) (from to : ℕ) (first now : M) : Type 0 where
  pub count : ℕ
  pub counted : from + count ≡ to
  pub last : M
  pub trail : IsTrail stopped contents moved start from count first last
  pub rest : IsIdle moved pauses last now
