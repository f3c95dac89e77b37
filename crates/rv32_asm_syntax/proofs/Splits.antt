-- A text that is cut where a byte stands.
use Rattle.std.proofs.Common.{◌≡◌, ℕ, ◌+◌, ◌<◌, ◌≤◌, Bool, true, false, List, [], ◌∷◌, ◌++◌, length, take, drop, get_or, refl, arith, eqb}
use Rattle.std.specs.List.{slice_split, position_or_len}
use Rattle.std.proofs.lemmas.List.Splits.{length-slice_split}
use Rattle.std.proofs.lemmas.List.Sums.{split_at_first, passes_at_first}

single : (p : ℕ → Bool) (c : Bool) (x : ℕ) (rest : List (List ℕ)) (xs : List ℕ) → p x ≡ c → c ≡ false → rest ≡ xs ∷ [] → slice_split p xs ≡ rest → slice_split p (x ∷ xs) ≡ (x ∷ xs) ∷ []
single p c x rest xs h e f g = rw (h, e, g, f) refl

passes_none : (p : ℕ → Bool) (c : Bool) (x : ℕ) (xs : List ℕ) → p x ≡ c → length (x ∷ xs) ≤ position_or_len p (x ∷ xs) → p x ≡ false
passes_none p true x xs e none = let f = rw e at none in absurd (omega (arith, f))
passes_none p false x xs e none = e

left_none : (p : ℕ → Bool) (x : ℕ) (xs : List ℕ) → p x ≡ false → length (x ∷ xs) ≤ position_or_len p (x ∷ xs) → length xs ≤ position_or_len p xs
left_none p x xs e none = let f = rw e at none in omega (arith, f)

-- one part, where no byte passes
pub one_part : (p : ℕ → Bool) (text : List ℕ) → length text ≤ position_or_len p text → slice_split p text ≡ text ∷ []
one_part p [] none = refl
one_part p (x ∷ xs) none =
    let e : p x ≡ false = passes_none p (p x) x xs refl none in
    single p false x (slice_split p xs) xs e refl (one_part p xs (left_none p x xs e none)) refl

-- and some part always
pub some_parts : (p : ℕ → Bool) (text : List ℕ) → 0 < length (slice_split p text)
some_parts p text = let e = length-slice_split p text in omega arith

same_byte : (a b : ℕ) → eqb a b ≡ true → a ≡ b
same_byte a b e = grind arith

-- what stands before a byte, the byte, and what stands behind it
pub around : (byte : ℕ) (text : List ℕ) (n : ℕ) → n ≡ position_or_len (λ each. eqb each byte) text → n < length text → text ≡ take n text ++ byte ∷ drop (n + 1) text
around byte text n e below =
    let within : position_or_len (λ each. eqb each byte) text < length text = omega (arith, e) in
    let there : get_or text (position_or_len (λ each. eqb each byte) text) 0 ≡ byte = same_byte _ byte (passes_at_first (λ each. eqb each byte) text 0 within) in
    rw e (rw there at (split_at_first (λ each. eqb each byte) text 0 within))
