-- A bump lets no counter go down.
use Rattle.std.proofs.Common.{◌≡◌, ◌==◌, ℕ, ◌+◌, ◌^◌, ◌<◌, ◌≤◌, inl, inr, Bool, true, false, cond, nat_lt, replicate, slice_index, slice_set, refl, ap, sym, ◌∙◌, subst, arith}
use Rattle.std.proofs.lemmas.Bool.{cases_eq}
use Rattle.std.proofs.lemmas.Bool.Decides.{Decides-ltb}
use Rattle.std.proofs.lemmas.List.{get_or-set_same, get_or-set_other}
use Rattle.std.proofs.lemmas.List.Elements.{All-get_or}
use Rattle.sec_base.specs.declared.counter.Counter.{Counter}
use Rattle.split_counter.specs.declared.bumped.Bumped.TheVariants.{Line, Page, Spent}
use Rattle.split_counter.specs.CounterBlock.{CounterBlockView, IsCounterBlock, after_bump, after_outcome, bumped, counter_number, counter_of}

line_fits : (block : CounterBlockView) (at : ℕ) → IsCounterBlock block → at < 64 → slice_index block.lines at < 128
line_fits block at is inside = All-get_or (λ (counter : ℕ). counter < 128) block.lines at 0 (omega (arith, is.whole)) is.lines_fit

-- no counter of a block is below that of another
pub record AreAtLeast (block other : CounterBlockView) : Type 0 where
  pub at_least : (at : ℕ) → at < 64 → counter_number (counter_of at block) ≤ counter_number (counter_of at other)

pub same_at_least : (block other : CounterBlockView) → other ≡ block → AreAtLeast block other
same_at_least block other same = record {
  at_least = λ at inside. subst (λ (b : CounterBlockView). counter_number (counter_of at block) ≤ counter_number (counter_of at b)) (sym same) (omega arith);
}

line_at_least : (place : ℕ) (block : CounterBlockView) (line : ℕ) → IsCounterBlock block → slice_index block.lines place ≤ line →
    AreAtLeast block (record block { lines = slice_set block.lines place line })
line_at_least place block line is more = record {
  at_least = λ at inside. elim (cases_eq at place) [
    | inl same ↦
        let here : slice_index (slice_set block.lines place line) at ≡ line =
        ap (λ (i : ℕ). slice_index (slice_set block.lines place line) i) same
        ∙ get_or-set_same block.lines place line 0 (omega (arith, is.whole, same)) in
        let was : slice_index block.lines at ≡ slice_index block.lines place = ap (slice_index block.lines) same in
        omega (arith, here, was)
    | inr apart ↦
        let there : slice_index (slice_set block.lines place line) at ≡ slice_index block.lines at =
        get_or-set_other block.lines place at line 0 apart in
        omega (arith, there)
  ];
}

page_at_least : (block : CounterBlockView) (page : ℕ) → IsCounterBlock block → block.page < page →
    AreAtLeast block (record { page = page; lines = replicate 64 0 })
page_at_least block page is more = record {
  at_least = λ at inside. omega (arith, line_fits block at is inside, more);
}

-- by whether the line counter stands at its end, and whether the page counter is below the limit
outcome_at_least : (place : ℕ) (block : CounterBlockView) → IsCounterBlock block → (full below : Bool) →
    let next : Counter = cond full (record { page = block.page + 1; line = 0 }) (record { page = block.page; line = slice_index block.lines place + 1 }) in
    AreAtLeast block (after_outcome place (cond full (cond below (Page next.page) Spent) (Line next)) block)
outcome_at_least place block is true true = page_at_least block (block.page + 1) is (omega arith)
outcome_at_least place block is true false = same_at_least block block refl
outcome_at_least place block is false below = line_at_least place block (slice_index block.lines place + 1) is (omega arith)

-- what is there after a bump
bump_at_least : (place limit : ℕ) (block : CounterBlockView) → IsCounterBlock block → AreAtLeast block (after_bump place limit block).1
unfolding after_bump bumped
bump_at_least place limit block is = outcome_at_least place block is (slice_index block.lines place == 127) (nat_lt block.page limit)

pub bumped_at_least : (place limit : ℕ) (block other : CounterBlockView) → IsCounterBlock block → other ≡ (after_bump place limit block).1 → AreAtLeast block other
bumped_at_least place limit block other is bumped_is = subst (λ (b : CounterBlockView). AreAtLeast block b) (sym bumped_is) (bump_at_least place limit block is)

-- the counter of a line that goes up by one under the same page counter
pub line_within : (place : ℕ) (block after : CounterBlockView) (counter : Counter) → IsCounterBlock after → place < 64 → counter ≡ counter_of place after →
    after.page ≡ block.page → counter_number (counter_of place after) ≡ counter_number (counter_of place block) + 1 →
    (0 < counter.line) × (counter.line < 128) × (counter.page < 2 ^ 64)
line_within place block after counter is inside here stays next =
    let page : counter.page ≡ after.page = ap (λ (k : Counter). k.page) here in
    let line : counter.line ≡ slice_index after.lines place = ap (λ (k : Counter). k.line) here in (
      omega (arith, line, stays, next),
      omega (arith, line, line_fits after place is inside),
      subst (λ (n : ℕ). n < 2 ^ 64) (sym page) is.page_fits,
    )

-- the page counter that an overflow comes to
outcome_page : (limit next : ℕ) (counter : Counter) (full below : Bool) → (below ≡ true → counter.page < limit) →
    let after : Counter = cond full (record { page = counter.page + 1; line = 0 }) (record { page = counter.page; line = counter.line + 1 }) in
    cond full (cond below (Page after.page) Spent) (Line after) ≡ Page next → (0 < next) × (next ≤ limit)
outcome_page limit next counter true true small is =
    let same : counter.page + 1 ≡ next = cc in
    let less : counter.page < limit = small refl in
    (omega (arith, same), omega (arith, same, less))
outcome_page limit next counter true false small is = absurd (cc)
outcome_page limit next counter false below small is = absurd (cc)

pub page_within : (limit next : ℕ) (counter : Counter) → bumped limit counter ≡ Page next → (0 < next) × (next ≤ limit)
unfolding bumped
page_within limit next counter is =
    outcome_page limit next counter (counter.line == 127) (nat_lt counter.page limit) (Decides-ltb counter.page limit).0 is
