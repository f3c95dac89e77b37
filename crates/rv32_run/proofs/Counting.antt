-- Different numbers of a list, of which one is not in a shorter list.
use Rattle.std.proofs.Common.{◌≡◌, ℕ, suc, ◌<◌, ◌≤◌, ◌⊎◌, inl, inr, Bool, true, false, cond, ◌||◌, List, [], ◌∷◌, map, length, refl, sym, ap, ◌∙◌, subst, arith}
use Rattle.std.specs.Prelude.{nat_eq}
use Rattle.std.specs.List.{filter, AllByRecursion, IsDistinct, Contains}
use Rattle.std.specs.Set.{distinct_count, unique_keys, is_member}
use Rattle.std.specs.Cmp.{nat_eq_equiv}
use Rattle.std.proofs.lemmas.Bool.{or_cases, eqb-true, true≢false, false≢true}
use Rattle.std.proofs.lemmas.Map.Made.{length-le_from_is_member}

or_right : (c b : Bool) → b ≡ true → (c || b) ≡ true
or_right true b e = refl
or_right false b e = e

-- each number is kept once
unique_member : (xs : List ℕ) (q : ℕ) → is_member nat_eq (unique_keys nat_eq xs) q ≡ true → is_member nat_eq xs q ≡ true
unique_member [] q h = h
unique_member (x ∷ xs) q h = by (is_member nat_eq xs x) (unique_member xs q) h
  where
    by : (b : Bool) → (is_member nat_eq (unique_keys nat_eq xs) q ≡ true → is_member nat_eq xs q ≡ true) → is_member nat_eq (cond b (unique_keys nat_eq xs) (x ∷ unique_keys nat_eq xs)) q ≡ true → (nat_eq q x || is_member nat_eq xs q) ≡ true
    by true r h = or_right (nat_eq q x) (is_member nat_eq xs q) (r h)
    by false r h =
        elim (or_cases (nat_eq q x) (is_member nat_eq (unique_keys nat_eq xs) q) h) [
          | inl same ↦ ap (λ (b : Bool). b || is_member nat_eq xs q) same
          | inr rest ↦ or_right (nat_eq q x) (is_member nat_eq xs q) (r rest)
        ]

absent_apart : (x : ℕ) (ys : List ℕ) → (is_member nat_eq ys x ≡ true → ⊥) → AllByRecursion (λ y. nat_eq x y ≡ false) ys
absent_apart x [] h = tt
absent_apart x (y ∷ ys) h = by (nat_eq x y) refl h (absent_apart x ys)
  where
    by : (b : Bool) → nat_eq x y ≡ b → ((b || is_member nat_eq ys x) ≡ true → ⊥) → ((is_member nat_eq ys x ≡ true → ⊥) → AllByRecursion (λ z. nat_eq x z ≡ false) ys) → (nat_eq x y ≡ false) × AllByRecursion (λ z. nat_eq x z ≡ false) ys
    by true t g r = absurd (g refl)
    by false t g r = (t, r g)

unique_distinct : (xs : List ℕ) → IsDistinct nat_eq (unique_keys nat_eq xs)
unfolding IsDistinct
unique_distinct [] = tt
unique_distinct (x ∷ xs) = by (is_member nat_eq xs x) refl (unique_distinct xs)
  where
    by : (b : Bool) → is_member nat_eq xs x ≡ b → IsDistinct nat_eq (unique_keys nat_eq xs) → IsDistinct nat_eq (cond b (unique_keys nat_eq xs) (x ∷ unique_keys nat_eq xs))
    by true m r = r
    by false m r = (absent_apart x (unique_keys nat_eq xs) (λ there. true≢false (sym (unique_member xs x there) ∙ m)), r)

-- different numbers that a list has are at most as many as it is long
pub distinct_within : (xs ys : List ℕ) → ((q : ℕ) → is_member nat_eq xs q ≡ true → is_member nat_eq ys q ≡ true) → distinct_count nat_eq xs ≤ length ys
distinct_within xs ys within =
    length-le_from_is_member nat_eq_equiv (unique_keys nat_eq xs) ys (unique_distinct xs) (λ q there. within q (unique_member xs q there))

-- where each group of the items that pass is a member or its item has B, all are members or some item has B
pub all_or_some : (ys : List ℕ) (group : ℕ → ℕ) (test : ℕ → Bool) (B : ℕ → Type 0) (xs : List ℕ) → ((x : ℕ) → Contains xs x → test x ≡ true → (is_member nat_eq ys (group x) ≡ true) ⊎ B x) → ((q : ℕ) → is_member nat_eq (map group (filter test xs)) q ≡ true → is_member nat_eq ys q ≡ true) ⊎ ((x : ℕ) × (test x ≡ true) × B x)
all_or_some ys group test B [] each = inl (λ q there. absurd (false≢true there))
all_or_some ys group test B (x ∷ xs) each =
    by (test x) refl (all_or_some ys group test B xs (λ y there passes. each y ((suc there.0, omega (arith, there.1), there.2)) passes))
  where
    head : (q : ℕ) → is_member nat_eq ys (group x) ≡ true → (is_member nat_eq (map group (filter test xs)) q ≡ true → is_member nat_eq ys q ≡ true) → is_member nat_eq (group x ∷ map group (filter test xs)) q ≡ true → is_member nat_eq ys q ≡ true
    head q is rest there =
        elim (or_cases (nat_eq q (group x)) (is_member nat_eq (map group (filter test xs)) q) there) [
          | inl same ↦ subst (λ (p : ℕ). is_member nat_eq ys p ≡ true) (sym (eqb-true q (group x) same)) is
          | inr late ↦ rest late
        ]

    more : ((q : ℕ) → is_member nat_eq (map group (filter test xs)) q ≡ true → is_member nat_eq ys q ≡ true) ⊎ ((y : ℕ) × (test y ≡ true) × B y) → test x ≡ true → (is_member nat_eq ys (group x) ≡ true) ⊎ B x → ((q : ℕ) → is_member nat_eq (group x ∷ map group (filter test xs)) q ≡ true → is_member nat_eq ys q ≡ true) ⊎ ((y : ℕ) × (test y ≡ true) × B y)
    more (inr found) passes here = inr found
    more (inl rest) passes (inr here) = inr (x, passes, here)
    more (inl rest) passes (inl here) = inl (λ q there. head q here (rest q) there)

    by : (b : Bool) → test x ≡ b → ((q : ℕ) → is_member nat_eq (map group (filter test xs)) q ≡ true → is_member nat_eq ys q ≡ true) ⊎ ((y : ℕ) × (test y ≡ true) × B y) → ((q : ℕ) → is_member nat_eq (map group (cond b (x ∷ filter test xs) (filter test xs))) q ≡ true → is_member nat_eq ys q ≡ true) ⊎ ((y : ℕ) × (test y ≡ true) × B y)
    by true t r = more r t (each x (0, omega arith, refl) t)
    by false t r = r

-- So where the groups are more than a list is long, some item has B.
pub some_of_more : (ys : List ℕ) (group : ℕ → ℕ) (test : ℕ → Bool) (B : ℕ → Type 0) (xs : List ℕ) → length ys < distinct_count nat_eq (map group (filter test xs)) → ((x : ℕ) → Contains xs x → test x ≡ true → (is_member nat_eq ys (group x) ≡ true) ⊎ B x) → (x : ℕ) × (test x ≡ true) × B x
some_of_more ys group test B xs fewer each =
    elim (all_or_some ys group test B xs each) [
      | inl all ↦ absurd (omega (arith, fewer, distinct_within (map group (filter test xs)) ys all))
      | inr some ↦ some
    ]
