-- Entries of lines under one counter, behind those from before; and the counter that comes behind a line's.
use Rattle.std.proofs.Common.{◌≡◌, ◌≢◌, ◌↔◌, ◌⊎◌, inl, inr, ℕ, zero, suc, ◌+◌, ◌*◌, ◌%◌, ◌<◌, ◌≤◌, Bool, true, false, cond, nat_eq, List, [], ◌∷◌, ◌++◌, length, map, take, Contains, refl, ap, sym, ◌∙◌, subst, arith}
use Rattle.std.specs.List.{filter, range_with_len}
use Rattle.std.proofs.lemmas.Bool.{cases_eq}
use Rattle.std.proofs.lemmas.Bool.Decides.{Decides-eqb, eqb_tells}
use Rattle.std.proofs.lemmas.List.{length-append, append_assoc, append-nil}
use Rattle.std.proofs.lemmas.List.Elements.{Contains-push_cases, filter-append}
use Rattle.std.proofs.lemmas.List.FromFn.{length-range_with_len, get_or-range_with_len}
use Rattle.sec_base.specs.declared.counter.Counter.{Counter}
use Rattle.sec_base.specs.Geometry.{page_of}
use Rattle.pad_stream.specs.Pads.{IsBefore}
use Rattle.split_counter.specs.CounterBlock.{last_counter, next_counter}
use Rattle.page_reencrypt.specs.Contents.{ArePaged, AreWithin, counter_in, lines_encrypted, never_written, page_entries, page_lines}
use Rattle.page_reencrypt.proofs.Consistency.{counter_in-same, counter_in-other}
use Rattle.page_reencrypt.proofs.RisingPairs.{Contains-skip}

-- The next counter

abbrev next_of : (counter : Counter) → Bool → Counter
next_of counter overflow = cond overflow (record { page = counter.page + 1; line = 0 }) (record { page = counter.page; line = counter.line + 1 })

-- where the line counter is used up, and where it isn't
pub next_page : (counter : Counter) → counter.line ≡ 127 → next_counter counter ≡ record { page = counter.page + 1; line = 0 }
next_page counter full = ap (next_of counter) ((Decides-eqb counter.line 127).1 full)

pub next_line : (counter : Counter) → counter.line ≢ 127 → next_counter counter ≡ record { page = counter.page; line = counter.line + 1 }
next_line counter more =
    elim (eqb_tells counter.line 127) [
      | inl full ↦ absurd (more full.1)
      | inr less ↦ ap (next_of counter) less.0
    ]

pub next_after : (counter : Counter) → IsBefore counter (next_counter counter)
next_after counter =
    elim (cases_eq counter.line 127) [
      | inl full ↦ subst (λ (c : Counter). IsBefore counter c) (sym (next_page counter full)) (inl (omega arith))
      | inr more ↦ subst (λ (c : Counter). IsBefore counter c) (sym (next_line counter more)) (inr (refl, omega arith))
    ]

-- it isn't that of a line that was never written
pub next_started : (counter : Counter) → next_counter counter ≢ never_written
next_started counter none =
    elim (next_after counter) [
      | inl page ↦ let zero_page : (next_counter counter).page ≡ 0 = ap (λ (c : Counter). c.page) none in omega (arith, page, zero_page)
      | inr line ↦ let zero_line : (next_counter counter).line ≡ 0 = ap (λ (c : Counter). c.line) none in omega (arith, line.1, zero_line)
    ]

pub next_seven_bits : (counter : Counter) → counter.line < 128 → (next_counter counter).line < 128
next_seven_bits counter fits =
    elim (cases_eq counter.line 127) [
      | inl full ↦ let zero_line : (next_counter counter).line ≡ 0 = ap (λ (c : Counter). c.line) (next_page counter full) in omega (arith, zero_line)
      | inr more ↦ let one_more : (next_counter counter).line ≡ counter.line + 1 = ap (λ (c : Counter). c.line) (next_line counter more) in
          omega (arith, one_more, more, fits)
    ]

-- its line counter is 0 where the page counter went up
pub next_overflows : (counter : Counter) → (next_counter counter).line ≡ 0 ↔ counter.line ≡ 127
next_overflows counter = (
  λ is. elim (cases_eq counter.line 127) [
    | inl full ↦ full
    | inr more ↦ let one_more : (next_counter counter).line ≡ counter.line + 1 = ap (λ (c : Counter). c.line) (next_line counter more) in
        absurd (omega (arith, one_more, is))
  ],
  λ full. ap (λ (c : Counter). c.line) (next_page counter full),
)

-- within the limit, unless the counter is the last
pub next_limited : (limit : ℕ) (counter : Counter) → counter.page ≤ limit → counter ≢ last_counter limit → (next_counter counter).page ≤ limit
next_limited limit counter within going =
    elim (cases_eq counter.line 127) [
      | inl full ↦
          let next : (next_counter counter).page ≡ counter.page + 1 = ap (λ (c : Counter). c.page) (next_page counter full) in
          elim (cases_eq counter.page limit) [
            | inl last ↦ absurd (going (ap (λ (p : ℕ). let c : Counter = record { page = p; line = counter.line } in c) last ∙ ap (λ (l : ℕ). let c : Counter = record { page = limit; line = l } in c) full))
            | inr below ↦ omega (arith, next, below, within)
          ]
      | inr more ↦ let same : (next_counter counter).page ≡ counter.page = ap (λ (c : Counter). c.page) (next_line counter more) in omega (arith, same, within)
    ]

-- the lines that are encrypted under it
abbrev encrypted_of : ℕ → Bool → List ℕ
encrypted_of line overflow = cond overflow (page_lines (page_of line)) (line ∷ [])

pub encrypted_page : (counter : Counter) (line : ℕ) → counter.line ≡ 0 → lines_encrypted counter line ≡ page_lines (page_of line)
encrypted_page counter line new = ap (encrypted_of line) ((Decides-eqb counter.line 0).1 new)

pub encrypted_line : (counter : Counter) (line : ℕ) → counter.line ≢ 0 → lines_encrypted counter line ≡ line ∷ []
encrypted_line counter line old =
    elim (eqb_tells counter.line 0) [
      | inl new ↦ absurd (old new.1)
      | inr is ↦ ap (encrypted_of line) is.0
    ]

-- Lines of a page

at_range : (first count at line : ℕ) → at < count → first + at ≡ line → Contains (range_with_len first count) line
at_range first count at line within is =
    (at, omega (arith, within, length-range_with_len first count), get_or-range_with_len first count at line within ∙ is)

pub page_listed : (page line : ℕ) → page_of line ≡ page → Contains (page_lines page) line
page_listed page line of_page = at_range (64 * page) 64 (line % 64) line (omega arith) (omega (arith, of_page))

pub listed_page : (page line : ℕ) → Contains (page_lines page) line → page_of line ≡ page
listed_page page line listed =
    let within : listed.0 < 64 = omega (arith, listed.1, length-range_with_len (64 * page) 64) in
    let at : 64 * page + listed.0 ≡ line = sym (get_or-range_with_len (64 * page) 64 listed.0 line within) ∙ listed.2 in
    omega (arith, within, at)

pub length-page_lines : (page : ℕ) → length (page_lines page) ≡ 64
length-page_lines page = length-range_with_len (64 * page) 64

-- all that a write encrypts is of the line's page, and the line is among it
pub encrypted_of_page : (counter : Counter) (line at : ℕ) → Contains (lines_encrypted counter line) at → page_of at ≡ page_of line
encrypted_of_page counter line at listed =
    elim (cases_eq counter.line 0) [
      | inl new ↦ listed_page (page_of line) at (subst (λ (xs : List ℕ). Contains xs at) (encrypted_page counter line new) listed)
      | inr old ↦
          let here : Contains (line ∷ []) at = subst (λ (xs : List ℕ). Contains xs at) (encrypted_line counter line old) listed in
          elim (Contains-push_cases [] line at here) [
            | inl none ↦ absurd (omega (arith, none.1))
            | inr same ↦ ap page_of (sym same)
          ]
    ]

pub encrypted_itself : (counter : Counter) (line : ℕ) → Contains (lines_encrypted counter line) line
encrypted_itself counter line =
    elim (cases_eq counter.line 0) [
      | inl new ↦ subst (λ (xs : List ℕ). Contains xs line) (sym (encrypted_page counter line new)) (page_listed (page_of line) line refl)
      | inr old ↦ subst (λ (xs : List ℕ). Contains xs line) (sym (encrypted_line counter line old)) (zero, omega arith, refl)
    ]

-- what is in a front part is in the whole
pub taken : {A : Type 0} (count : ℕ) (items : List A) (item : A) → Contains (take count items) item → Contains items item
taken zero items item listed = absurd (omega (arith, listed.1))
taken (suc count) [] item listed = listed
taken (suc count) (first ∷ items) item (zero, within, is) = (zero, omega arith, is)
taken (suc count) (first ∷ items) item (suc k, within, is) =
    Contains-skip first items item (taken count items item (k, omega (arith, within), is))

-- Entries under one counter

module _ (counter : Counter) where
  abbrev entries : List ℕ → List (ℕ × Counter)
  entries lines = map (λ line. (line, counter)) lines

  entries_on : (used : List (ℕ × Counter)) (line : ℕ) (lines : List ℕ) → used ++ entries (line ∷ lines) ≡ (used ++ (line, counter) ∷ []) ++ entries lines
  entries_on used line lines = sym (append_assoc used ((line, counter) ∷ []) (entries lines))

  kept_counter : (lines : List ℕ) (used : List (ℕ × Counter)) (other : ℕ) → counter_in used other ≡ counter → counter_in (used ++ entries lines) other ≡ counter
  kept_counter [] used other has = ap (λ (xs : List (ℕ × Counter)). counter_in xs other) (append-nil used) ∙ has
  kept_counter (line ∷ lines) used other has =
      ap (λ (xs : List (ℕ × Counter)). counter_in xs other) (entries_on used line lines)
      ∙ kept_counter lines (used ++ (line, counter) ∷ []) other (elim (cases_eq other line) [
        | inl same ↦ ap (counter_in (used ++ (line, counter) ∷ [])) same ∙ counter_in-same used line counter
        | inr differs ↦ counter_in-other used line other counter differs ∙ has
      ])

  -- a line among them has the counter
  pub counter_among : (lines : List ℕ) (used : List (ℕ × Counter)) (other : ℕ) → Contains lines other → counter_in (used ++ entries lines) other ≡ counter
  counter_among [] used other listed = absurd (omega (arith, listed.1))
  counter_among (line ∷ lines) used other (zero, within, same) =
      ap (λ (xs : List (ℕ × Counter)). counter_in xs other) (entries_on used line lines)
      ∙ kept_counter lines (used ++ (line, counter) ∷ []) other
      (ap (counter_in (used ++ (line, counter) ∷ [])) (sym same) ∙ counter_in-same used line counter)
  counter_among (line ∷ lines) used other (suc k, within, is) =
      ap (λ (xs : List (ℕ × Counter)). counter_in xs other) (entries_on used line lines)
      ∙ counter_among lines (used ++ (line, counter) ∷ []) other (k, omega (arith, within), is)

  -- any other keeps its own
  pub counter_beside : (lines : List ℕ) (used : List (ℕ × Counter)) (other : ℕ) → ¬ Contains lines other →
      counter_in (used ++ entries lines) other ≡ counter_in used other
  counter_beside [] used other unlisted = ap (λ (xs : List (ℕ × Counter)). counter_in xs other) (append-nil used)
  counter_beside (line ∷ lines) used other unlisted =
      let differs : other ≢ line = λ same. unlisted (zero, omega arith, sym same) in
      ap (λ (xs : List (ℕ × Counter)). counter_in xs other) (entries_on used line lines)
      ∙ counter_beside lines (used ++ (line, counter) ∷ []) other (λ listed. unlisted (Contains-skip line lines other listed))
      ∙ counter_in-other used line other counter differs

  pub entry_cases : (lines : List ℕ) (used : List (ℕ × Counter)) (other : ℕ) (found : Counter) → Contains (used ++ entries lines) (other, found) →
      Contains used (other, found) ⊎ (counter ≡ found)
  entry_cases [] used other found listed = inl (subst (λ (xs : List (ℕ × Counter)). Contains xs (other, found)) (append-nil used) listed)
  entry_cases (line ∷ lines) used other found listed =
      let here : Contains ((used ++ (line, counter) ∷ []) ++ entries lines) (other, found) =
      subst (λ (xs : List (ℕ × Counter)). Contains xs (other, found)) (entries_on used line lines) listed in
      elim (entry_cases lines (used ++ (line, counter) ∷ []) other found here) [
        | inl early ↦ elim (Contains-push_cases used (line, counter) (other, found) early) [
          | inl before ↦ inl before
          | inr last ↦ inr (ap (λ (e : ℕ × Counter). e.1) last)
        ]
        | inr late ↦ inr late
      ]

  -- an entry is of one of the lines
  pub entry_line : (lines : List ℕ) (other : ℕ) (found : Counter) → Contains (entries lines) (other, found) → Contains lines other
  entry_line [] other found listed = absurd (omega (arith, listed.1))
  entry_line (line ∷ lines) other found (zero, within, is) = (zero, omega arith, ap (λ (e : ℕ × Counter). e.0) is)
  entry_line (line ∷ lines) other found (suc k, within, is) =
      Contains-skip line lines other (entry_line lines other found (k, omega (arith, within), is))

  -- within the limit they stay within it
  pub within_more : (lines_count limit : ℕ) (used : List (ℕ × Counter)) (lines : List ℕ) → AreWithin lines_count limit used →
      counter.page ≤ limit → AreWithin lines_count limit (used ++ entries lines)
  within_more lines_count limit used lines within limited = record {
    limited = λ other found inside listed.
        elim (entry_cases lines used other found listed) [
          | inl early ↦ within.limited other found inside early
          | inr late ↦ subst (λ (c : Counter). c.page ≤ limit) late limited
        ];
  }

  -- how many of them are of a page
  abbrev lines_on : ℕ → List ℕ → List ℕ
  lines_on page lines = filter (λ line. nat_eq (page_of line) page) lines

  mapped_if : (b : Bool) (line : ℕ) (kept : List (ℕ × Counter)) (lines : List ℕ) → length kept ≡ length lines →
      length (cond b ((line, counter) ∷ kept) kept) ≡ length (cond b (line ∷ lines) lines)
  mapped_if true line kept lines same = ap suc same
  mapped_if false line kept lines same = same

  mapped : (page : ℕ) (lines : List ℕ) → page_entries (entries lines) page ≡ length (lines_on page lines)
  mapped page [] = refl
  mapped page (line ∷ lines) =
      mapped_if (nat_eq (page_of line) page) line (filter (λ entry. nat_eq (page_of entry.0) page) (entries lines)) (lines_on page lines) (mapped page lines)

  pub page_entries_more : (page : ℕ) (used : List (ℕ × Counter)) (lines : List ℕ) →
      page_entries (used ++ entries lines) page ≡ page_entries used page + length (lines_on page lines)
  page_entries_more page used lines =
      ap length (filter-append (λ (e : ℕ × Counter). nat_eq (page_of e.0) page) used (entries lines))
      ∙ length-append (filter (λ (e : ℕ × Counter). nat_eq (page_of e.0) page) used) (filter (λ (e : ℕ × Counter). nat_eq (page_of e.0) page) (entries lines))
      ∙ ap (λ (n : ℕ). page_entries used page + n) (mapped page lines)

  all_kept : (page : ℕ) (lines : List ℕ) → ((line : ℕ) → Contains lines line → page_of line ≡ page) → lines_on page lines ≡ lines
  all_kept page [] all = refl
  all_kept page (line ∷ lines) all =
      let first : nat_eq (page_of line) page ≡ true = (Decides-eqb (page_of line) page).1 (all line (zero, omega arith, refl)) in
      ap (λ (b : Bool). cond b (line ∷ lines_on page lines) (lines_on page lines)) first
      ∙ ap (λ (xs : List ℕ). line ∷ xs) (all_kept page lines (λ other listed. all other (Contains-skip line lines other listed)))

  -- The lines of a page have one page counter

  module _ (lines_count : ℕ) (used : List (ℕ × Counter)) (line : ℕ) (was : ArePaged lines_count used) (inside : line < lines_count) where
    -- where its line counter alone went up
    pub paged_line : counter.page ≡ (counter_in used line).page → ArePaged lines_count (used ++ entries (line ∷ []))
    paged_line same =
        let stays : (other : ℕ) → (counter_in (used ++ entries (line ∷ [])) other).page ≡ (counter_in used other).page = λ other.
        elim (cases_eq other line) [
          | inl here ↦ ap (λ (l : ℕ). (counter_in (used ++ entries (line ∷ [])) l).page) here ∙ ap (λ (c : Counter). c.page) (counter_in-same used line counter)
              ∙ same ∙ ap (λ (l : ℕ). (counter_in used l).page) (sym here)
          | inr differs ↦ ap (λ (c : Counter). c.page) (counter_in-other used line other counter differs)
        ] in
        record {
          one = λ first second in_first in_second same_page. stays first ∙ was.one first second in_first in_second same_page ∙ sym (stays second);
          reached = λ other within.
              let most = was.reached other within in
              let more = page_entries_more (page_of other) used (line ∷ []) in
              omega (arith, most, more, stays other);
        }

    -- where the whole page was encrypted under its next one
    pub paged_page : counter.page ≡ (counter_in used line).page + 1 → ArePaged lines_count (used ++ entries (page_lines (page_of line)))
    paged_page next =
        let all : List ℕ = page_lines (page_of line) in
        let here : (other : ℕ) → page_of other ≡ page_of line → counter_in (used ++ entries all) other ≡ counter =
        λ other of_page. counter_among all used other (page_listed (page_of line) other of_page) in
        let there : (other : ℕ) → page_of other ≢ page_of line → counter_in (used ++ entries all) other ≡ counter_in used other =
        λ other apart. counter_beside all used other (λ listed. apart (listed_page (page_of line) other listed)) in
        record {
          one = λ first second in_first in_second same_page.
              elim (cases_eq (page_of first) (page_of line)) [
                | inl of_page ↦ ap (λ (c : Counter). c.page) (here first of_page ∙ sym (here second (sym same_page ∙ of_page)))
                | inr apart ↦
                    let apart_too : page_of second ≢ page_of line = λ of_page. apart (same_page ∙ of_page) in
                    ap (λ (c : Counter). c.page) (there first apart) ∙ was.one first second in_first in_second same_page
                    ∙ sym (ap (λ (c : Counter). c.page) (there second apart_too))
              ];
          reached = λ other within.
              let more = page_entries_more (page_of other) used all in
              elim (cases_eq (page_of other) (page_of line)) [
                | inl of_page ↦
                    let most = was.reached other within in
                    let same = was.one other line within inside of_page in
                    let now : (counter_in (used ++ entries all) other).page ≡ counter.page = ap (λ (c : Counter). c.page) (here other of_page) in
                    let sixty_four : length (lines_on (page_of other) all) ≡ 64 =
                    ap length (all_kept (page_of other) all (λ l listed. listed_page (page_of line) l listed ∙ sym of_page)) ∙ length-page_lines (page_of line) in
                    omega (arith, most, more, same, now, next, sixty_four)
                | inr apart ↦
                    let most = was.reached other within in
                    let now : (counter_in (used ++ entries all) other).page ≡ (counter_in used other).page = ap (λ (c : Counter). c.page) (there other apart) in
                    omega (arith, most, more, now)
              ];
        }
