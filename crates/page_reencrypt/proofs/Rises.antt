-- What the counters keep over a write of a line under its next counter: with an overflow all lines of its page were sealed,
-- or where the write stopped a front part of them.
use Rattle.std.proofs.Common.{◌≡◌, ◌≢◌, ◌⊎◌, inl, inr, ℕ, ◌+◌, ◌*◌, ◌<◌, List, [], ◌∷◌, ◌++◌, length, map, take, Option, Some, None, Contains, ap, sym, ◌∙◌, subst, arith}
use Rattle.std.proofs.lemmas.Bool.{cases_eq}
use Rattle.std.proofs.lemmas.List.{append-nil, take_all}
use Rattle.sec_base.specs.declared.counter.Counter.{Counter}
use Rattle.sec_base.specs.declared.stop.MemStop.{MemStop}
use Rattle.sec_base.specs.declared.stop.MemStop.TheVariants.{Spent}
use Rattle.sec_base.specs.Geometry.{GeometryView, line_count, page_of}
use Rattle.split_counter.specs.CounterBlock.{last_counter, next_counter}
use Rattle.page_reencrypt.specs.Contents.{AreSuccessive, ArePaged, AreWithin, IsSpent, counter_in, lines_encrypted, page_lines}
use Rattle.page_reencrypt.specs.SealedLines.{CountersRise}
use Rattle.page_reencrypt.specs.Stops.{lasting_stop}
use Rattle.page_reencrypt.proofs.Successive.{counted_on, full_listed, once_one, once_range}
use Rattle.page_reencrypt.proofs.Entries.{counter_beside, encrypted_line, encrypted_of_page, encrypted_page, listed_page, next_limited, next_line, next_overflows, next_page, paged_line, paged_page, taken, within_more}
use Rattle.page_reencrypt.proofs.RisingPairs.{counter_limited}
use Rattle.page_reencrypt.proofs.Sealing.{listed_one}

-- entries of lines under a counter, behind those from before
abbrev pub used_on : List (ℕ × Counter) → Counter → List ℕ → List (ℕ × Counter)
used_on used counter lines = used ++ map (λ at. (at, counter)) lines

module _ (limit lines_count : ℕ) (used : List (ℕ × Counter)) (line : ℕ) (within : AreWithin lines_count limit used) (paged : ArePaged lines_count used)
    (inside : line < lines_count) (below : counter_in used line ≢ last_counter limit) where
  abbrev counter : Counter
  counter = next_counter (counter_in used line)

  -- the lines of a page still have one page counter
  pub paged_after : ArePaged lines_count (used_on used counter (lines_encrypted counter line))
  paged_after =
      elim (cases_eq (counter_in used line).line 127) [
        | inl full ↦
            let next : counter.page ≡ (counter_in used line).page + 1 = ap (λ (c : Counter). c.page) (next_page (counter_in used line) full) in
            let all : lines_encrypted counter line ≡ page_lines (page_of line) = encrypted_page counter line ((next_overflows (counter_in used line)).1 full) in
            subst (λ (xs : List ℕ). ArePaged lines_count (used_on used counter xs)) (sym all) (paged_page counter lines_count used line paged inside next)
        | inr more ↦
            let same : counter.page ≡ (counter_in used line).page = ap (λ (c : Counter). c.page) (next_line (counter_in used line) more) in
            let one : lines_encrypted counter line ≡ line ∷ [] =
            encrypted_line counter line (λ new. more ((next_overflows (counter_in used line)).0 new)) in
            subst (λ (xs : List ℕ). ArePaged lines_count (used_on used counter xs)) (sym one) (paged_line counter lines_count used line paged inside same)
      ]

  -- the counters are successive, however many of the lines were encrypted
  pub counted_after : ((other : ℕ) → page_of other ≡ page_of line → other < lines_count) → (count : ℕ) → AreSuccessive used →
      AreSuccessive (used_on used counter (take count (lines_encrypted counter line)))
  counted_after page_inside count was =
      elim (cases_eq (counter_in used line).line 127) [
        | inl full ↦
            let all : lines_encrypted counter line ≡ page_lines (page_of line) = encrypted_page counter line ((next_overflows (counter_in used line)).1 full) in
            subst (λ (xs : List ℕ). AreSuccessive (used_on used counter (take count xs))) (sym all)
            (counted_on counter (take count (page_lines (page_of line))) used was (once_range (64 * page_of line) 64 count) (λ other listed.
            let of_page = listed_page (page_of line) other (taken count (page_lines (page_of line)) other listed) in
            let same = paged.one line other inside (page_inside other of_page) (sym of_page) in
            inr (
              line,
              sym of_page,
              subst (λ (p : ℕ). Contains used (line, last_counter p)) same (full_listed used line full),
              next_page (counter_in used line) full ∙ ap (λ (p : ℕ). let c : Counter = record { page = p + 1; line = 0 } in c) same,
            )))
        | inr more ↦
            let one : lines_encrypted counter line ≡ line ∷ [] =
            encrypted_line counter line (λ new. more ((next_overflows (counter_in used line)).0 new)) in
            subst (λ (xs : List ℕ). AreSuccessive (used_on used counter (take count xs))) (sym one)
            (counted_on counter (take count (line ∷ [])) used was (once_one line count) (λ other listed.
            inl (ap (λ (l : ℕ). next_counter (counter_in used l)) (listed_one line other (taken count (line ∷ []) other listed)))))
      ]

  -- a line whose counters are used up is none of those that are encrypted
  spent_apart : (other : ℕ) → other < lines_count → counter_in used other ≡ last_counter limit → ¬ Contains (lines_encrypted counter line) other
  spent_apart other within_too spent listed =
      elim (cases_eq (counter_in used line).line 127) [
        | inl full ↦
            let of_page : page_of line ≡ page_of other = sym (encrypted_of_page counter line other listed) in
            let page : (counter_in used line).page ≡ limit = paged.one line other inside within_too of_page ∙ ap (λ (c : Counter). c.page) spent in
            below (ap (λ (p : ℕ). let c : Counter = record { page = p; line = (counter_in used line).line } in c) page
            ∙ ap (λ (l : ℕ). let c : Counter = record { page = limit; line = l } in c) full)
        | inr more ↦
            let one : lines_encrypted counter line ≡ line ∷ [] =
            encrypted_line counter line (λ new. more ((next_overflows (counter_in used line)).0 new)) in
            let same : line ≡ other = listed_one line other (subst (λ (xs : List ℕ). Contains xs other) one listed) in
            below (ap (counter_in used) same ∙ spent)
      ]

  pub spent_still : (count page : ℕ) → IsSpent lines_count limit used page →
      IsSpent lines_count limit (used_on used counter (take count (lines_encrypted counter line))) page
  spent_still count page spent = record {
    line = spent.line;
    inside = spent.inside;
    of_page = spent.of_page;
    used_up =
        counter_beside counter (take count (lines_encrypted counter line)) used spent.line
        (λ listed. spent_apart spent.line spent.inside spent.used_up (taken count (lines_encrypted counter line) spent.line listed))
        ∙ spent.used_up;
  }

  pub within_after : (lines : List ℕ) → AreWithin lines_count limit (used_on used counter lines)
  within_after lines =
      within_more counter lines_count limit used lines within
      (next_limited limit (counter_in used line) (counter_limited lines_count limit used line inside within) below)

-- The last counter that a limit allows, or another one

last_or_not : (limit : ℕ) (counter : Counter) → (counter ≡ last_counter limit) ⊎ (counter ≢ last_counter limit)
last_or_not limit counter =
    elim (cases_eq counter.line 127) [
      | inl full ↦
          elim (cases_eq counter.page limit) [
            | inl last ↦ inl (ap (λ (p : ℕ). let c : Counter = record { page = p; line = counter.line } in c) last
                ∙ ap (λ (l : ℕ). let c : Counter = record { page = limit; line = l } in c) full)
            | inr below ↦ inr (λ is. below (ap (λ (c : Counter). c.page) is))
          ]
      | inr more ↦ inr (λ is. more (ap (λ (c : Counter). c.line) is))
    ]

-- A write keeps what holds of the counters, where it stopped so.
module _ (geometry : GeometryView) (limit : ℕ) (used used' : List (ℕ × Counter)) (stopped stopped' stop : Option MemStop) (line count : ℕ)
    (was : CountersRise geometry limit used stopped) (going : lasting_stop stopped ≡ None) (inside : line < line_count geometry)
    (entries : used' ≡ used_on used (next_counter (counter_in used line)) (take count (lines_encrypted (next_counter (counter_in used line)) line)))
    (whole : stop ≡ None → count ≡ length (lines_encrypted (next_counter (counter_in used line)) line))
    (spent : (page : ℕ) → stop ≡ Some (Spent page) → (page ≡ page_of line) × (count ≡ 0) × (counter_in used line ≡ last_counter limit))
    (used_up : counter_in used line ≡ last_counter limit → (count ≡ 0) × (stop ≢ None))
    (lasts : lasting_stop stopped' ≡ None → (stop ≡ None) ⊎ ((page : ℕ) × (stop ≡ Some (Spent page))))
    (spent_by : (page : ℕ) → stopped' ≡ Some (Spent page) → (stopped ≡ Some (Spent page)) ⊎ (stop ≡ Some (Spent page))) where
  no_more : count ≡ 0 → used' ≡ used
  no_more none =
      entries ∙ ap (λ (k : ℕ). used_on used (next_counter (counter_in used line)) (take k (lines_encrypted (next_counter (counter_in used line)) line))) none
      ∙ append-nil used

  spent_now : (page : ℕ) → counter_in used line ≡ last_counter limit → used' ≡ used → page ≡ page_of line → IsSpent (line_count geometry) limit used' page
  spent_now page last same page_is =
      subst (λ (u : List (ℕ × Counter)). IsSpent (line_count geometry) limit u page) (sym same)
      (record { line = line; inside = inside; of_page = sym page_is; used_up = last })

  rises_spent : counter_in used line ≡ last_counter limit → CountersRise geometry limit used' stopped'
  rises_spent last =
      let same : used' ≡ used = no_more (used_up last).0 in
      record {
        successive = subst AreSuccessive (sym same) was.successive;
        within = subst (AreWithin (line_count geometry) limit) (sym same) was.within;
        paged = λ going_on. subst (ArePaged (line_count geometry)) (sym same) (was.paged going);
        spent = λ page is.
            elim (spent_by page is) [
              | inl before ↦ subst (λ (u : List (ℕ × Counter)). IsSpent (line_count geometry) limit u page) (sym same) (was.spent page before)
              | inr now ↦ spent_now page last same (spent page now).0
            ];
      }

  rises_on : counter_in used line ≢ last_counter limit → CountersRise geometry limit used' stopped'
  rises_on below =
      let counter : Counter = next_counter (counter_in used line) in
      let all : List ℕ = lines_encrypted counter line in
      let paged = was.paged going in
      record {
        successive = subst AreSuccessive (sym entries)
            (counted_after limit (line_count geometry) used line was.within paged inside below
            (λ other of_page. omega (arith, inside, of_page)) count was.successive);
        within = subst (AreWithin (line_count geometry) limit) (sym entries)
            (within_after limit (line_count geometry) used line was.within paged inside below (take count all));
        paged = λ goes_on.
            elim (lasts goes_on) [
              | inl none ↦
                  let every : take count all ≡ all = take_all count all (omega (arith, whole none)) in
                  subst (ArePaged (line_count geometry)) (sym (entries ∙ ap (used_on used counter) every))
                  (paged_after limit (line_count geometry) used line was.within paged inside below)
              | inr stopped_so ↦ absurd (below (spent stopped_so.0 stopped_so.1).2)
            ];
        spent = λ page is.
            elim (spent_by page is) [
              | inl before ↦
                  subst (λ (u : List (ℕ × Counter)). IsSpent (line_count geometry) limit u page) (sym entries)
                  (spent_still limit (line_count geometry) used line was.within paged inside below count page (was.spent page before))
              | inr now ↦ absurd (below (spent page now).2)
            ];
      }

  pub rises_after : CountersRise geometry limit used' stopped'
  rises_after =
      elim (last_or_not limit (counter_in used line)) [
        | inl last ↦ rises_spent last
        | inr below ↦ rises_on below
      ]
