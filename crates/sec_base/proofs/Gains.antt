-- Sums of counts that rise.
use Rattle.std.proofs.Common.{ℕ, zero, suc, ◌+◌, ◌≤◌, ◌<◌, ◌⊎◌, inl, inr, subst, arith}
use Rattle.std.proofs.lemmas.Bool.{cases_lt, cases_order}
use Rattle.sec_base.specs.Count.{top, Rose, RoseBy}
use Rattle.sec_base.specs.Gain.{sum_below}

-- a place stands at its end
abbrev pub IsAtEnd : ℕ → (ℕ → ℕ) → Type 0
IsAtEnd places count = (place : ℕ) × (place < places) × (top ≤ count place)

end_more : (places : ℕ) (count : ℕ → ℕ) → IsAtEnd places count → IsAtEnd (suc places) count
end_more places count stands = (stands.0, omega (arith, stands.1), stands.2)

abbrev SumsTo : ℕ → (ℕ → ℕ) → (ℕ → ℕ) → ℕ → Type 0
SumsTo places old new k = (sum_below old places + k ≤ sum_below new places) ⊎ IsAtEnd places new

-- one more place, which gained m
one_more : (places : ℕ) (old new : ℕ → ℕ) (k m : ℕ) → RoseBy m (old places) (new places) → SumsTo places old new k → SumsTo (suc places) old new (k + m)
unfolding sum_below
one_more places old new k m rose (inr stands) = inr (end_more places new stands)
one_more places old new k m rose (inl sums) =
    elim (cases_lt (new places) top) [
      | inl below ↦ inl (omega (arith, rose, below, sums))
      | inr stands ↦ inr (places, omega arith, stands)
    ]

-- none fell
pub gain_none : (places : ℕ) (old new : ℕ → ℕ) → ((place : ℕ) → RoseBy 0 (old place) (new place)) → SumsTo places old new 0
unfolding sum_below
gain_none zero old new rises = inl (omega arith)
gain_none (suc places) old new rises = one_more places old new 0 0 (rises places) (gain_none places old new rises)

-- one rose
pub gain_one : (places : ℕ) (old new : ℕ → ℕ) (place : ℕ) → ((p : ℕ) → RoseBy 0 (old p) (new p)) → place < places → Rose (old place) (new place) → SumsTo places old new 1
unfolding sum_below
gain_one zero old new place rises inside rose = absurd (omega arith)
gain_one (suc places) old new place rises inside rose =
    elim (cases_order place places) [
      | inl same ↦ one_more places old new 0 1 (subst (λ (p : ℕ). Rose (old p) (new p)) same rose) (gain_none places old new rises)
      | inr apart ↦ elim apart [
        | inl below ↦ one_more places old new 1 0 (rises places) (gain_one places old new place rises below rose)
        | inr above ↦ absurd (omega arith)
      ]
    ]

still_at_end : (places : ℕ) (old new : ℕ → ℕ) → ((place : ℕ) → RoseBy 0 (old place) (new place)) → IsAtEnd places old → IsAtEnd places new
still_at_end places old new rises stands =
    let rose = rises stands.0 in
    (stands.0, stands.1, omega (arith, rose, stands.2))

-- one gain after another
pub gain_on : (places : ℕ) (first second third : ℕ → ℕ) (k m : ℕ) → ((place : ℕ) → RoseBy 0 (second place) (third place)) → SumsTo places first second k → SumsTo places second third m → SumsTo places first third (k + m)
gain_on places first second third k m rises (inr stands) more = inr (still_at_end places second third rises stands)
gain_on places first second third k m rises (inl sums) (inr stands) = inr stands
gain_on places first second third k m rises (inl sums) (inl more) = inl (omega (arith, sums, more))
