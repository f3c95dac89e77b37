-- Searches of a list by a test.
use Rattle.std.proofs.Common.{◌≡◌, ◌≤◌, ◌&&◌, Bool, true, false, List, [], ◌∷◌, Some, filter, find, is_some, length, refl, subst, inl, inr, arith}
use Rattle.std.proofs.lemmas.Bool.{and_parts, cases_Bool}
use Rattle.std.specs.List.{AllByRecursion, list_all}

-- whether each element has the relation to each later one
abbrev pub each_pair : {X : Type 0} → (X → X → Bool) → List X → Bool
each_pair apart [] = true
each_pair apart (x ∷ xs) = list_all (apart x) xs && each_pair apart xs

-- two tests find the same where they agree
pub find_same : {X : Type 0} (ok p q : X → Bool) → ((x : X) → ok x ≡ true → p x ≡ q x) → (xs : List X) → list_all ok xs ≡ true → find p xs ≡ find q xs
find_same ok p q same [] all = refl
find_same ok p q same (x ∷ xs) all =
    let parts = and_parts (ok x) (list_all ok xs) all in
    rw (same x parts.0, find_same ok p q same xs parts.1) refl

pub find_passes : {X : Type 0} (p : X → Bool) (xs : List X) (r : X) → find p xs ≡ Some r → p r ≡ true
find_passes p [] r e = cc
find_passes p (x ∷ xs) r e =
    elim (cases_Bool (p x)) [
      | inl t ↦ (let here = rw t at e in let same : x ≡ r = cc in subst (λ y. p y ≡ true) same t)
      | inr t ↦ find_passes p xs r (rw t at e)
    ]

-- what is so of each element is so of the one found
pub find_all : {X : Type 0} (ok p : X → Bool) (xs : List X) (r : X) → list_all ok xs ≡ true → find p xs ≡ Some r → ok r ≡ true
find_all ok p [] r all e = cc
find_all ok p (x ∷ xs) r all e =
    let parts = and_parts (ok x) (list_all ok xs) all in
    elim (cases_Bool (p x)) [
      | inl t ↦ (let here = rw t at e in let same : x ≡ r = cc in subst (λ y. ok y ≡ true) same parts.0)
      | inr t ↦ find_all ok p xs r parts.1 (rw t at e)
    ]

module _ {X : Type 0} (apart : X → X → Bool) (p : X → Bool) (clash : (x y : X) → apart x y ≡ true → p x ≡ true → p y ≡ true → ⊥) where
  -- of elements that can't both pass, the one that passes is the one found
  pub one_found : (q : X → Bool) (xs : List X) (r : X) → each_pair apart xs ≡ true → find q xs ≡ Some r → p r ≡ true → find p xs ≡ Some r
  one_found q [] r pairs e passes = cc
  one_found q (x ∷ xs) r pairs e passes =
      let parts = and_parts (list_all (apart x) xs) (each_pair apart xs) pairs in
      elim (cases_Bool (p x)) [
        | inl here ↦ elim (cases_Bool (q x)) [
          | inl t ↦ rw here (rw t at e)
          | inr t ↦ absurd (clash x r (find_all (apart x) q xs r parts.0 (rw t at e)) here passes)
        ]
        | inr here ↦ elim (cases_Bool (q x)) [
          | inl t ↦ (let found = rw t at e in let same : x ≡ r = cc in cc)
          | inr t ↦ rw here (one_found q xs r parts.1 (rw t at e) passes)
        ]
      ]

  none_passes : (x : X) → p x ≡ true → (xs : List X) → list_all (apart x) xs ≡ true → length (filter p xs) ≡ 0
  none_passes x here [] all = refl
  none_passes x here (y ∷ xs) all =
      let parts = and_parts (apart x y) (list_all (apart x) xs) all in
      let rest = none_passes x here xs parts.1 in
      elim (cases_Bool (p y)) [
        | inl t ↦ absurd (clash x y parts.0 here t)
        | inr t ↦ rw t rest
      ]

  pub one_passes : (xs : List X) → each_pair apart xs ≡ true → length (filter p xs) ≤ 1
  one_passes [] pairs = omega arith
  one_passes (x ∷ xs) pairs =
      let parts = and_parts (list_all (apart x) xs) (each_pair apart xs) pairs in
      elim (cases_Bool (p x)) [
        | inl t ↦ rw t (omega (arith, none_passes x t xs parts.0))
        | inr t ↦ rw t (one_passes xs parts.1)
      ]

module _ {X : Type 0} (p : X → Bool) (P : X → Type 0) where
  pub none_found : ((x : X) → p x ≡ false → P x) → (xs : List X) → is_some (find p xs) ≡ false → AllByRecursion P xs
  none_found fails [] e = tt
  none_found fails (x ∷ xs) e =
      elim (cases_Bool (p x)) [
        | inl t ↦ (let here = rw t at e in cc)
        | inr t ↦ (fails x t, none_found fails xs (rw t at e))
      ]

  pub find_none : ((x : X) → P x → p x ≡ false) → (xs : List X) → AllByRecursion P xs → is_some (find p xs) ≡ false
  find_none fails [] all = refl
  find_none fails (x ∷ xs) all = rw (fails x all.0) (find_none fails xs all.1)
