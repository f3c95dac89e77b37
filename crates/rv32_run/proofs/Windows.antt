-- Windows of a run: what was read since they began.
use Rattle.std.proofs.Common.{◌≡◌, ℕ, zero, suc, ◌+◌, ◌≤◌, ◌<◌, ◌⊎◌, inl, inr, Bool, true, false, cond, List, [], ◌++◌, map, length, Option, None, refl, sym, ap, ◌∙◌, subst, arith, add-zero}
use Rattle.std.specs.Prelude.{nat_le, nat_eq}
use Rattle.std.specs.List.{filter, Contains}
use Rattle.std.specs.Set.{distinct_count}
use Rattle.std.specs.Cmp.{nat_eq_equiv}
use Rattle.std.proofs.lemmas.Bool.{leb-true}
use Rattle.std.proofs.lemmas.List.Elements.{Contains-append_cases, Contains-append_left, Contains-append_right}
use Rattle.std.proofs.lemmas.Map.Views.{list_any-from_Contains}
use Rattle.sec_base.specs.declared.stop.MemStop.{MemStop}
use Rattle.sec_base.specs.Count.{Rose, RoseBy}
use Rattle.sec_base.specs.Gain.{Gain}
use Rattle.sec_base.proofs.Gains.{gain_none, gain_one, gain_on}
use Rattle.rv32_core.specs.Machine.{Machine, plain, one_more}
use Rattle.rv32_core.proofs.Plain.{plain_more}
use Rattle.rv32_core.specs.TouchedLines.{touched_lines}
use Rattle.rv32_core.specs.Turnover.{Window, is_old, old_groups, blank_groups, with_touched, next_window, window_at}
use Rattle.rv32_run.specs.Trail.{IsInstruction, IsTrail, HasTrail}
use Rattle.rv32_run.proofs.Counting.{some_of_more}

-- A memory that keeps few groups of lines: where calls neither stop it nor break what is quiet, each group with an
-- old line that they touch was kept before, or was read.
pub record Chip : Type 1 where
  pub M : Type 0
  pub contents : M → List ℕ
  pub stopped : M → Option MemStop
  pub moved : M → List ℕ → M → Type 0
  -- what holds at the end held before, and what holds at first holds later
  pub quiet : M → Type 0
  pub fits : M → Type 0
  pub reads : M → ℕ → ℕ
  pub kept : M → List ℕ
  pub group : ℕ → ℕ
  pub places : ℕ
  pub bound : ℕ
  pub unmoved : (m : M) → moved m [] m
  pub moved_on : (a b c : M) (xs ys : List ℕ) → moved a xs b → moved b ys c → moved a (xs ++ ys) c
  pub sooner : (a b : M) (xs : List ℕ) → moved a xs b → quiet b → quiet a
  pub later : (a b : M) (xs : List ℕ) → moved a xs b → fits a → fits b
  pub rises : (a b : M) (xs : List ℕ) → moved a xs b → (place : ℕ) → RoseBy 0 (reads a place) (reads b place)
  pub few : (m : M) → fits m → length (kept m) < bound
  pub inside : (m : M) (line : ℕ) → fits m → is_old (contents m) line ≡ true → group line < places
  pub paid : (a b : M) (xs : List ℕ) → moved a xs b → fits a → stopped b ≡ None → quiet b → (line : ℕ) → Contains xs line → is_old (contents a) line ≡ true →
      Contains (kept a) (group line) ⊎ Rose (reads a (group line)) (reads b (group line))

-- a window is open since a memory with its bytes
record IsOpen (chip : Chip) (first now : chip.M) (window : Window) : Type 0 where
  began : chip.M
  lines : List ℕ
  since : chip.moved began lines now
  bytes : window.memory ≡ chip.contents began
  touched : (line : ℕ) → Contains window.touched line → Contains lines line
  fits : chip.fits began
  gained : Gain chip.places (chip.reads first) (chip.reads began) window.turnover

none_contained : (x : ℕ) → Contains [] x → ⊥
none_contained x (k, below, at) = omega arith

-- A window that touched old lines in so many groups read a line.
window_reads : (chip : Chip) (began now : chip.M) (lines touched : List ℕ) → chip.moved began lines now → chip.fits began → chip.stopped now ≡ None → chip.quiet now → ((line : ℕ) → Contains touched line → Contains lines line) → chip.bound ≤ distinct_count nat_eq (map chip.group (filter (is_old (chip.contents began)) touched)) → Gain chip.places (chip.reads began) (chip.reads now) 1
window_reads chip began now lines touched moved fits going quiet listed many =
    let found = some_of_more (chip.kept began) chip.group (is_old (chip.contents began)) (λ line. Rose (chip.reads began (chip.group line)) (chip.reads now (chip.group line))) touched
    (omega (arith, chip.few began fits, many))
    (λ line there old. elim (chip.paid began now lines moved fits going quiet line (listed line there) old) [
      | inl held ↦ inl (list_any-from_Contains nat_eq_equiv (chip.group line) (chip.kept began) held)
      | inr rose ↦ inr rose
    ]) in
    gain_one chip.places (chip.reads began) (chip.reads now) (chip.group found.0) (chip.rises began now lines moved)
    (chip.inside began found.0 fits found.1) found.2

-- A window begins at a memory.
begins : (chip : Chip) (first began now : chip.M) (lines : List ℕ) (turned more : ℕ) → chip.moved began lines now → chip.fits began → Gain chip.places (chip.reads first) (chip.reads began) turned → Gain chip.places (chip.reads began) (chip.reads now) more → IsOpen chip first now (record { memory = chip.contents now; touched = []; turnover = turned + more })
begins chip first began now lines turned more moved fits before since = record {
  began = now;
  lines = [];
  since = chip.unmoved now;
  bytes = refl;
  touched = λ line there. absurd (none_contained line there);
  fits = chip.later began now lines moved fits;
  gained = gain_on chip.places (chip.reads first) (chip.reads began) (chip.reads now) turned more (chip.rises began now lines moved) before since;
}

-- more lines were touched
touches_on : (chip : Chip) (first old new : chip.M) (lines touched : List ℕ) (window : Window) → chip.moved old lines new → ((line : ℕ) → Contains touched line → Contains lines line) → IsOpen chip first old window → IsOpen chip first new (with_touched touched window)
touches_on chip first old new lines touched window moved listed so_far = record {
  began = so_far.began;
  lines = so_far.lines ++ lines;
  since = chip.moved_on so_far.began old new so_far.lines lines so_far.since moved;
  bytes = so_far.bytes;
  touched = λ line there.
      elim (Contains-append_cases window.touched touched line there) [
        | inl early ↦ Contains-append_left so_far.lines lines line (so_far.touched line early)
        | inr late ↦ Contains-append_right so_far.lines lines line (listed line late)
      ];
  fits = so_far.fits;
  gained = so_far.gained;
}

-- a window closes, or not
closes : (chip : Chip) (first now : chip.M) (window : Window) → chip.stopped now ≡ None → chip.quiet now → IsOpen chip first now window → IsOpen chip first now (next_window chip.group chip.bound (chip.contents now) window)
unfolding next_window
closes chip first now window going quiet so_far =
    by (nat_le chip.bound (old_groups chip.group window)) (nat_le chip.bound (blank_groups chip.group window)) refl
  where
    many : nat_le chip.bound (old_groups chip.group window) ≡ true → chip.bound ≤ distinct_count nat_eq (map chip.group (filter (is_old (chip.contents so_far.began)) window.touched))
    many old = subst (λ (memory : List ℕ). chip.bound ≤ distinct_count nat_eq (map chip.group (filter (is_old memory) window.touched))) so_far.bytes (leb-true chip.bound (old_groups chip.group window) old)

    by : (old blank : Bool) → nat_le chip.bound (old_groups chip.group window) ≡ old → IsOpen chip first now (cond old (record { memory = chip.contents now; touched = []; turnover = window.turnover + 1 }) (cond blank (record { memory = chip.contents now; touched = []; turnover = window.turnover }) window))
    by true blank is =
        begins chip first so_far.began now so_far.lines window.turnover 1 so_far.since so_far.fits so_far.gained
        (window_reads chip so_far.began now so_far.lines window.touched so_far.since so_far.fits going quiet so_far.touched (many is))
    by false true is =
        subst (λ (turned : ℕ). IsOpen chip first now (record { memory = chip.contents now; touched = []; turnover = turned })) (add-zero window.turnover)
        (begins chip first so_far.began now so_far.lines window.turnover 0 so_far.since so_far.fits so_far.gained
        (gain_none chip.places (chip.reads so_far.began) (chip.reads now) (chip.rises so_far.began now so_far.lines so_far.since)))
    by false false is = so_far

-- A run from its first window on

opens : (chip : Chip) (first : chip.M) (memory : List ℕ) → chip.contents first ≡ memory → chip.fits first → IsOpen chip first first (record { memory = memory; touched = []; turnover = 0 })
opens chip first memory same fits =
    let still = gain_none chip.places (chip.reads first) (chip.reads first) (chip.rises first first [] (chip.unmoved first)) in
    subst (λ (bytes : List ℕ). IsOpen chip first first (record { memory = bytes; touched = []; turnover = 0 })) same
    (begins chip first first first [] 0 0 (chip.unmoved first) fits still still)

goes_on : (chip : Chip) (start : Machine) (m : ℕ) (old_machine new_machine : Machine) (first old new : chip.M) (window : Window) → plain start m ≡ old_machine → plain start (m + 1) ≡ new_machine → IsInstruction chip.stopped chip.contents chip.moved start m old new → chip.quiet new → IsOpen chip first old window → IsOpen chip first new (next_window chip.group chip.bound new_machine.state.memory (with_touched (touched_lines old_machine.state) window))
goes_on chip start m old_machine new_machine first old new window before after step quiet so_far =
    subst (λ (machine : Machine). IsOpen chip first new (next_window chip.group chip.bound machine.state.memory (with_touched (touched_lines old_machine.state) window))) after
    (subst (λ (machine : Machine). IsOpen chip first new (next_window chip.group chip.bound (plain start (m + 1)).state.memory (with_touched (touched_lines machine.state) window))) before
    (subst (λ (bytes : List ℕ). IsOpen chip first new (next_window chip.group chip.bound bytes (with_touched (touched_lines (plain start m).state) window))) step.bytes
    (closes chip first new (with_touched (touched_lines (plain start m).state) window) step.going quiet
    (touches_on chip first old new step.lines (touched_lines (plain start m).state) window step.led
    (λ line there. subst (λ (xs : List ℕ). Contains xs line) (sym step.touched) there) so_far))))

-- n instructions after others
plain_from : (start : Machine) (from n : ℕ) → plain start (from + n) ≡ plain (plain start from) n
unfolding plain
plain_from start from zero = ap (plain start) (add-zero from)
plain_from start from (suc n) =
    let more : from + suc n ≡ from + n + 1 = omega arith in
    ap (plain start) more ∙ plain_more start (from + n) ∙ ap one_more (plain_from start from n)

windows_open : (chip : Chip) (start : Machine) (from n : ℕ) (first last : chip.M) → chip.contents first ≡ (plain start from).state.memory → chip.fits first → chip.quiet last → IsTrail chip.stopped chip.contents chip.moved start from n first last → IsOpen chip first last (window_at chip.group chip.bound (plain start from) n)
unfolding window_at
windows_open chip start from zero first last same fits quiet trail =
    subst (λ (now : chip.M). IsOpen chip first now (record { memory = (plain start from).state.memory; touched = []; turnover = 0 })) trail (opens chip first (plain start from).state.memory same fits)
windows_open chip start from (suc n) first last same fits quiet trail =
    let more : from + n + 1 ≡ from + suc n = omega arith in
    let before = chip.sooner trail.0 last trail.2.lines trail.2.led quiet in
    goes_on chip start (from + n) (plain (plain start from) n) (plain (plain start from) (suc n)) first trail.0 last (window_at chip.group chip.bound (plain start from) n)
    (plain_from start from n) (ap (plain start) more ∙ plain_from start from (suc n)) trail.2 quiet (windows_open chip start from n first trail.0 same fits before trail.1)

turned_by : (chip : Chip) (start : Machine) (n : ℕ) (first last end : chip.M) (lines : List ℕ) → chip.moved last lines end → IsOpen chip first last (window_at chip.group chip.bound start n) → Gain chip.places (chip.reads first) (chip.reads end) (window_at chip.group chip.bound start n).turnover
turned_by chip start n first last end lines led so_far =
    let turned = (window_at chip.group chip.bound start n).turnover in
    let all = chip.moved_on so_far.began last end so_far.lines lines so_far.since led in
    let rises = chip.rises so_far.began end (so_far.lines ++ lines) all in
    subst (λ (k : ℕ). Gain chip.places (chip.reads first) (chip.reads end) k) (add-zero turned)
    (gain_on chip.places (chip.reads first) (chip.reads so_far.began) (chip.reads end) turned 0 rises so_far.gained
    (gain_none chip.places (chip.reads so_far.began) (chip.reads end) rises))

-- In a run the reads rose together by at least the turnover, also where the memory stopped after its last instruction.
pub turnover_read : (chip : Chip) (start : Machine) (from n k : ℕ) (first end : chip.M) → from + k ≡ n → chip.contents first ≡ (plain start from).state.memory → chip.fits first → chip.quiet end → HasTrail chip.stopped chip.contents chip.moved start from n first end → Gain chip.places (chip.reads first) (chip.reads end) (window_at chip.group chip.bound (plain start from) k).turnover
turnover_read chip start from n k first end as_many same fits quiet went =
    let whole : went.count ≡ k = omega (arith, as_many, went.counted) in
    let before = chip.sooner went.last end went.lines went.rest quiet in
    subst (λ (m : ℕ). Gain chip.places (chip.reads first) (chip.reads end) (window_at chip.group chip.bound (plain start from) m).turnover) whole
    (turned_by chip (plain start from) went.count first went.last end went.lines went.rest
    (windows_open chip start from went.count first went.last same fits before went.trail))

-- and so in one that begins with its program
pub turnover_begun : (chip : Chip) (start : Machine) (from n : ℕ) (first end : chip.M) → from ≡ 0 → chip.contents first ≡ start.state.memory → chip.fits first → chip.quiet end → HasTrail chip.stopped chip.contents chip.moved start from n first end → Gain chip.places (chip.reads first) (chip.reads end) (window_at chip.group chip.bound start n).turnover
unfolding plain
turnover_begun chip start from n first end begun same fits quiet went =
    let none : 0 + n ≡ n = omega arith in
    turnover_read chip start 0 n n first end none same fits quiet
    (subst (λ (k : ℕ). HasTrail chip.stopped chip.contents chip.moved start k n first end) begun went)
