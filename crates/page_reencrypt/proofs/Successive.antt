-- Counters that are successive: they rise, none is that of a line that was never written, and a line counter has seven bits.
use Rattle.std.proofs.Common.{◌≡◌, ◌≢◌, ◌↔◌, inl, inr, ℕ, zero, suc, ◌+◌, ◌<◌, ◌≤◌, List, [], ◌∷◌, ◌++◌, length, map, take, get_or, Option, Some, None, Contains, unwrap_or, refl, ap, sym, ◌∙◌, subst, arith}
use Rattle.std.specs.List.{range_with_len}
use Rattle.std.proofs.Math.Seq.{take-suc}
use Rattle.std.proofs.lemmas.List.{append_assoc, append-nil, take-append-le, take_all, take_at}
use Rattle.std.proofs.lemmas.List.Elements.{Contains-append_left, Contains-push_cases}
use Rattle.std.proofs.lemmas.List.FromFn.{length-range_with_len, get_or-range_with_len}
use Rattle.std.proofs.lemmas.Option.{slice_get-get_or}
use Rattle.sec_base.specs.declared.counter.Counter.{Counter}
use Rattle.sec_base.specs.LastMessage.{last_pair, IsFresh}
use Rattle.split_counter.specs.CounterBlock.{last_counter, next_counter}
use Rattle.pad_stream.specs.Pads.{AreRising, IsBefore}
use Rattle.pad_stream.proofs.RisingCounters.{get_more, rising_nothing}
use Rattle.page_reencrypt.specs.Contents.{AreSuccessive, IsRightAfter, counter_in, never_written}
use Rattle.page_reencrypt.specs.Outside.{HasCounter}
use Rattle.page_reencrypt.proofs.Consistency.{counter_in-other, risen_more}
use Rattle.page_reencrypt.proofs.Entries.{next_after, next_seven_bits, next_started, taken}
use Rattle.page_reencrypt.proofs.RisingPairs.{Contains-skip, last_listed}

-- what comes right after a counter
right_after : (used : List (ℕ × Counter)) (line : ℕ) (later : Counter) → (counter_in used line).line < 128 → IsRightAfter used line later →
    IsBefore (counter_in used line) later × (later ≢ never_written) × (later.line < 128)
right_after used line later fits (inl next) =
    let sooner = counter_in used line in
    subst (λ (c : Counter). IsBefore sooner c × (c ≢ never_written) × (c.line < 128)) (sym next)
    (next_after sooner, next_started sooner, next_seven_bits sooner fits)
right_after used line later fits (inr up) =
    let sooner = counter_in used line in
    subst (λ (c : Counter). IsBefore sooner c × (c ≢ never_written) × (c.line < 128)) (sym up.3)
    (inl (omega arith), (λ is. let none : sooner.page + 1 ≡ 0 = ap (λ (c : Counter). c.page) is in omega (arith, none)), omega arith)

abbrev RiseInBits : List (ℕ × Counter) → Type 0
RiseInBits used = AreRising used
    × ((line : ℕ) (counter : Counter) → Contains used (line, counter) → (counter ≢ never_written) × (counter.line < 128))

has_counter : (used : List (ℕ × Counter)) (line : ℕ) (last : Option Counter) → last_pair line used ≡ last → RiseInBits used →
    HasCounter used line (unwrap_or last never_written) × ((unwrap_or last never_written).line < 128)
has_counter used line None is rise = (inl (is, refl), omega arith)
has_counter used line (Some last) is rise =
    let at = rise.1 line last (last_listed line used last is) in
    (inr (is, at.0), at.1)

one_more : (used : List (ℕ × Counter)) (line : ℕ) (counter : Counter) → RiseInBits used → IsRightAfter used line counter →
    RiseInBits (used ++ (line, counter) ∷ [])
one_more used line counter rise next =
    let had = has_counter used line (last_pair line used) refl rise in
    let after = right_after used line counter had.1 next in (
      risen_more used line (counter_in used line) counter rise.0 had.0 after.0,
      λ other found listed.
          elim (Contains-push_cases used (line, counter) (other, found) listed) [
            | inl before ↦ rise.1 other found before
            | inr last ↦
                subst (λ (c : Counter). (c ≢ never_written) × (c.line < 128)) (ap (λ (e : ℕ × Counter). e.1) last) (after.1, after.2)
          ],
    )

fronts : (used : List (ℕ × Counter)) → AreSuccessive used → (count : ℕ) → count ≤ length used → RiseInBits (take count used)
fronts used up zero within = (rising_nothing, λ line counter listed. absurd (omega (arith, listed.1)))
fronts used up (suc count) within =
    let none : ℕ × Counter = (0, never_written) in
    let entry : ℕ × Counter = get_or used count none in
    subst RiseInBits (sym (take-suc used count none (omega (arith, within))))
    (one_more (take count used) entry.0 entry.1 (fronts used up count (omega (arith, within)))
    (up.each count entry.0 entry.1 (slice_get-get_or used count none (omega (arith, within)))))

all_rise : (used : List (ℕ × Counter)) → AreSuccessive used → RiseInBits used
all_rise used up = subst RiseInBits (take_all (length used) used (omega arith)) (fronts used up (length used) (omega arith))

pub counted_rising : (used : List (ℕ × Counter)) → AreSuccessive used → AreRising used
counted_rising used up = (all_rise used up).0

-- none is that of a line that was never written, and each line counter has seven bits
pub counted_bits : (used : List (ℕ × Counter)) → AreSuccessive used → (line : ℕ) (counter : Counter) → Contains used (line, counter) →
    (counter ≢ never_written) × (counter.line < 128)
counted_bits used up = (all_rise used up).1

fresh_by : (used : List (ℕ × Counter)) (line : ℕ) (last : Option Counter) → AreSuccessive used →
    last_pair line used ≡ last → unwrap_or last never_written ≡ never_written → last ≡ None
fresh_by used line None up is none = refl
fresh_by used line (Some last) up is none = absurd ((counted_bits used up line last (last_listed line used last is)).0 none)

-- a line without an entry has the counter of one that was never written, and no other line has
pub counter_fresh : (used : List (ℕ × Counter)) (line : ℕ) → AreSuccessive used → (counter_in used line ≡ never_written) ↔ IsFresh line used
counter_fresh used line up = (
  λ none. fresh_by used line (last_pair line used) up refl none,
  λ fresh. ap (λ (last : Option Counter). unwrap_or last never_written) fresh,
)

-- Further entries

counted_more : (used : List (ℕ × Counter)) (line : ℕ) (counter : Counter) → AreSuccessive used → IsRightAfter used line counter →
    AreSuccessive (used ++ (line, counter) ∷ [])
counted_more used line counter up next = record {
  each = λ at other found there.
      elim (get_more used (line, counter) (other, found) at there) [
        | inl early ↦
            subst (λ (front : List (ℕ × Counter)). IsRightAfter front other found)
            (sym (take-append-le at used ((line, counter) ∷ []) (omega (arith, early.0)))) (up.each at other found early.1)
        | inr late ↦
            subst (λ (front : List (ℕ × Counter)). IsRightAfter front other found)
            (sym (take_at used ((line, counter) ∷ []) at (sym late.0)))
            (subst (λ (e : ℕ × Counter). IsRightAfter used e.0 e.1) late.1 next)
      ];
}

-- each line stands there once
abbrev AreOnce : List ℕ → Type 0
AreOnce [] = Unit {0}
AreOnce (line ∷ lines) = (¬ Contains lines line) × AreOnce lines

pub once_range : (first most count : ℕ) → AreOnce (take count (range_with_len first most))
once_range first most zero = tt
once_range first zero (suc count) = tt
once_range first (suc most) (suc count) = (
  λ listed.
      let there = taken count (range_with_len (first + 1) most) first listed in
      let within : there.0 < most = omega (arith, there.1, length-range_with_len (first + 1) most) in
      let is = sym (get_or-range_with_len (first + 1) most there.0 first within) ∙ there.2 in
      omega (arith, is),
  once_range (first + 1) most count,
)

-- behind an entry of another line
after_other : (used : List (ℕ × Counter)) (line other : ℕ) (counter later : Counter) → other ≢ line → IsRightAfter used other later →
    IsRightAfter (used ++ (line, counter) ∷ []) other later
after_other used line other counter later differs next =
    let same : counter_in (used ++ (line, counter) ∷ []) other ≡ counter_in used other = counter_in-other used line other counter differs in
    elim next [
      | inl one ↦ inl (one ∙ ap next_counter (sym same))
      | inr up ↦ inr (
        up.0,
        up.1,
        Contains-append_left used ((line, counter) ∷ []) (up.0, last_counter (counter_in (used ++ (line, counter) ∷ []) other).page)
            (subst (λ (c : Counter). Contains used (up.0, last_counter c.page)) (sym same) up.2),
        subst (λ (c : Counter). later ≡ record { page = c.page + 1; line = 0 }) (sym same) up.3,
      )
    ]

-- lines that each stand once, under a counter that comes right after that of each
pub counted_on : (counter : Counter) (lines : List ℕ) (used : List (ℕ × Counter)) → AreSuccessive used → AreOnce lines →
    ((line : ℕ) → Contains lines line → IsRightAfter used line counter) → AreSuccessive (used ++ map (λ line. (line, counter)) lines)
counted_on counter [] used up once next = subst AreSuccessive (sym (append-nil used)) up
counted_on counter (line ∷ lines) used up once next =
    subst AreSuccessive (append_assoc used ((line, counter) ∷ []) (map (λ at. (at, counter)) lines))
    (counted_on counter lines (used ++ (line, counter) ∷ []) (counted_more used line counter up (next line (zero, omega arith, refl))) once.1
    (λ other listed.
    after_other used line other counter counter (λ same. once.0 (subst (Contains lines) same listed))
    (next other (Contains-skip line lines other listed))))

full_by : (used : List (ℕ × Counter)) (line : ℕ) (last : Option Counter) → last_pair line used ≡ last → (unwrap_or last never_written).line ≡ 127 →
    Contains used (line, last_counter (unwrap_or last never_written).page)
full_by used line None is full = absurd (omega (arith, full))
full_by used line (Some last) is full =
    subst (λ (l : ℕ). Contains used (line, record { page = last.page; line = l })) full (last_listed line used last is)

-- a line whose line counter is used up has an entry that says so
pub full_listed : (used : List (ℕ × Counter)) (line : ℕ) → (counter_in used line).line ≡ 127 → Contains used (line, last_counter (counter_in used line).page)
full_listed used line full = full_by used line (last_pair line used) refl full

-- a front part of one line
pub once_one : (line count : ℕ) → AreOnce (take count (line ∷ []))
once_one line zero = tt
once_one line (suc zero) = (λ listed. omega (arith, listed.1), tt)
once_one line (suc (suc count)) = (λ listed. omega (arith, listed.1), tt)
