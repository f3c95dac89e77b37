-- The places that have a way, as a list.
use Rattle.std.proofs.Common.{◌≡◌, ◌==◌, ◌⊎◌, inl, inr, ℕ, ◌+◌, ◌<◌, ◌%◌, zero, suc, List, [], ◌∷◌, ◌++◌, length, map, get_or, Some, Bool, true, false, cond, IsSome, refl, sym, ◌∙◌, ap, subst, arith}
use Rattle.std.specs.List.{AllByRecursion, Contains}
use Rattle.std.proofs.lemmas.Bool.Decides.{nat_tests}
use Rattle.std.proofs.lemmas.List.Elements.{Contains-append_left, Contains-append_right, Contains-append_cases}
use Rattle.cache_set.specs.declared.way.Way.{Way}
use Rattle.cache_set.specs.CacheSet.{IsSet, way_of}
use Rattle.cache_set.specs.Cache.{AreApart, AreSets, IsCache, place_of, places, way_at}

cases_at : (x y : ℕ) (xs : List ℕ) (k : ℕ) → k < length (x ∷ xs) → get_or (x ∷ xs) k y ≡ y → (x ≡ y) ⊎ Contains xs y
cases_at x y xs zero l e = inl e
cases_at x y xs (suc k) l e = inr (k, omega (arith, l), e)

cons_cases : (x y : ℕ) (xs : List ℕ) → Contains (x ∷ xs) y → (x ≡ y) ⊎ Contains xs y
cons_cases x y xs h = cases_at x y xs h.0 h.1 h.2

cons_here : (x y : ℕ) (xs : List ℕ) → x ≡ y → Contains (x ∷ xs) y
cons_here x y xs e = (0, omega arith, e)

cons_later : (x y : ℕ) (xs : List ℕ) → Contains xs y → Contains (x ∷ xs) y
cons_later x y xs h = (suc h.0, omega (arith, h.1), h.2)

nothing_in : (y : ℕ) → Contains [] y → ⊥
nothing_in y h = omega (arith, h.1)

found_if : (way : Way) (ways : List Way) (place : ℕ) (t : Bool) → (way.place == place) ≡ t → Contains (map place_of (way ∷ ways)) place → (Contains (map place_of ways) place → IsSome (way_of place ways)) → IsSome (cond t (Some way) (way_of place ways))
found_if way ways place true e h more = refl
found_if way ways place false e h more = elim (cons_cases way.place place (map place_of ways) h) [
  | inl same ↦ grind (arith, nat_tests)
  | inr later ↦ more later
]

-- a place of a set's list has a way in it
pub found_listed : (ways : List Way) (place : ℕ) → Contains (map place_of ways) place → IsSome (way_of place ways)
found_listed [] place h = absurd (nothing_in place h)
found_listed (way ∷ ways) place h = found_if way ways place (way.place == place) refl h (found_listed ways place)

listed_if : (way : Way) (ways : List Way) (place : ℕ) (t : Bool) → (way.place == place) ≡ t → IsSome (cond t (Some way) (way_of place ways)) → (IsSome (way_of place ways) → Contains (map place_of ways) place) → Contains (map place_of (way ∷ ways)) place
listed_if way ways place true e h more = cons_here way.place place (map place_of ways) (grind (arith, nat_tests))
listed_if way ways place false e h more = cons_later way.place place (map place_of ways) (more h)

-- and the other way round
pub listed_found : (ways : List Way) (place : ℕ) → IsSome (way_of place ways) → Contains (map place_of ways) place
listed_found [] place h = grind arith
listed_found (way ∷ ways) place h = listed_if way ways place (way.place == place) refl h (listed_found ways place)

pub right_place : (count index : ℕ) (ways : List Way) (place : ℕ) → AllByRecursion (λ way. way.place % count ≡ index) ways → Contains (map place_of ways) place → place % count ≡ index
right_place count index [] place h c = absurd (nothing_in place c)
right_place count index (way ∷ ways) place h c = elim (cons_cases way.place place (map place_of ways) c) [
  | inl same ↦ subst (λ q. q % count ≡ index) same h.0
  | inr later ↦ right_place count index ways place h.1 later
]

-- a place in the list has a way in a set from the first on, the one that is its own
abbrev pub HasWay : ℕ → ℕ → List (List Way) → ℕ → Type 0
HasWay count base sets place = (index : ℕ) × (base + index ≡ place % count) × IsSome (way_of place (get_or sets index []))

has_way : (count base : ℕ) (sets : List (List Way)) (place : ℕ) → AreSets count base sets → Contains (places sets) place → HasWay count base sets place
has_way count base [] place h c = absurd (nothing_in place c)
has_way count base (ways ∷ sets) place h c = elim (Contains-append_cases (map place_of ways) (places sets) place c) [
  | inl here ↦ (0, omega (arith, right_place count base ways place h.0.right here), found_listed ways place here)
  | inr later ↦
      let found = has_way count (base + 1) sets place h.1 later in
      (suc found.0, omega (arith, found.1), found.2)
]

listed_in : (sets : List (List Way)) (index place : ℕ) → IsSome (way_of place (get_or sets index [])) → Contains (places sets) place
listed_in [] index place h = grind arith
listed_in (ways ∷ sets) zero place h = Contains-append_left (map place_of ways) (places sets) place (listed_found ways place h)
listed_in (ways ∷ sets) (suc index) place h = Contains-append_right (map place_of ways) (places sets) place (listed_in sets index place h)

-- what has a way is in the list
pub listed_at : (sets : List (List Way)) (place : ℕ) → IsSome (way_at sets place) → Contains (places sets) place
listed_at sets place h = listed_in sets (place % length sets) place h

-- what is in the list has a way
pub found_at : (count : ℕ) (sets : List (List Way)) (place : ℕ) → IsCache count sets → Contains (places sets) place → IsSome (way_at sets place)
found_at count sets place is c =
    let found = has_way count 0 sets place is.sets_are c in
    subst (λ i. IsSome (way_of place (get_or sets i []))) (omega (arith, found.1) ∙ ap (λ n. place % n) (sym is.counted)) found.2

apart_both : (xs ys : List ℕ) → AreApart xs → AreApart ys → ((place : ℕ) → Contains xs place → Contains ys place → ⊥) → AreApart (xs ++ ys)
apart_both [] ys hx hy d = hy
apart_both (x ∷ xs) ys hx hy d = (
  λ c. elim (Contains-append_cases xs ys x c) [ inl here ↦ hx.0 here | inr there ↦ d x (cons_here x x xs refl) there ],
  apart_both xs ys hx.1 hy (λ place c e. d place (cons_later x place xs c) e),
)

apart_set : (ways : List Way) → IsSet ways → AreApart (map place_of ways)
apart_set [] h = tt
apart_set (a ∷ []) h = (nothing_in a.place, tt)
apart_set (a ∷ b ∷ []) h = (λ c. elim (cons_cases b.place a.place [] c) [ inl same ↦ h (sym same) | inr none ↦ nothing_in a.place none ], (nothing_in b.place, tt))
apart_set (a ∷ b ∷ c ∷ ways) h = absurd h

apart_in : (count base : ℕ) (sets : List (List Way)) → AreSets count base sets → AreApart (places sets)
apart_in count base [] h = tt
apart_in count base (ways ∷ sets) h = apart_both (map place_of ways) (places sets) (apart_set ways h.0.set) (apart_in count (base + 1) sets h.1)
    (λ place here later.
    let e = right_place count base ways place h.0.right here in
    let found = has_way count (base + 1) sets place h.1 later in
    omega (arith, e, found.1))

-- no place is in the list twice
pub apart : (count : ℕ) (sets : List (List Way)) → IsCache count sets → AreApart (places sets)
apart count sets is = apart_in count 0 sets is.sets_are
