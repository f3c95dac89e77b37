-- A text is cut at its line feeds.
use Rattle.std.proofs.Common.{◌≡◌, ◌≢◌, ℕ, ◌+◌, ◌<◌, ◌≤◌, Bool, true, false, ◌&&◌, List, [], ◌∷◌, ◌++◌, length, take, drop, suc, sym, refl, arith, eqb, nat_eq}
use Rattle.std.specs.Borrow.{Bor}
use Rattle.std.specs.Prelude.{if◌then◌else◌, Option, Some, None, MatchOption, unwrap_or}
use Rattle.std.specs.List.{starts_with, onto_first, position_or_len, before_first, list_any}
use Rattle.rv32_asm_syntax.proofs.Splits.{around}
use Rattle.rv32_asm_syntax.specs.Lines.{lines_of}
use Rattle.rv32_asm_syntax.specs.Parts.{without_return, is_line_feed}

abbrev pub len_of : List ℕ → ℕ
len_of xs = position_or_len (λ byte. eqb byte 10) xs

chosen : (c : Bool) (x : ℕ) (rest : List (List ℕ)) → (if c && true then [] ∷ rest else onto_first x ([] ∷ rest)) ≡ (if c then [] else x ∷ []) ∷ rest
chosen true x rest = refl
chosen false x rest = refl

never : (c : Bool) (a b : List (List ℕ)) → (if c && false then a else b) ≡ b
never true a b = refl
never false a b = refl

pub at_feed : (x : ℕ) (ys : List ℕ) → eqb x 10 ≡ false → lines_of (x ∷ 10 ∷ ys) ≡ without_return (x ∷ []) ∷ lines_of ys
unfolding lines_of
at_feed x ys e = rw e (chosen (eqb x 13) x (lines_of ys))

differs : (y : ℕ) (ys : List ℕ) → eqb y 10 ≡ false → starts_with nat_eq (y ∷ ys) (10 ∷ []) ≡ false
differs y ys e = grind arith

pub before_others : (x y : ℕ) (ys : List ℕ) → eqb x 10 ≡ false → eqb y 10 ≡ false → lines_of (x ∷ y ∷ ys) ≡ onto_first x (lines_of (y ∷ ys))
unfolding lines_of
before_others x y ys e f = rw (e, differs y ys f) (never (eqb x 13) (lines_of (y ∷ ys)) (onto_first x (lines_of (y ∷ ys))))

pub at_least : (y : ℕ) → eqb y 10 ≡ true → y ≡ 10
at_least y e = grind arith

-- the first line, and the lines of what is left
abbrev pub cut : List ℕ → List (List ℕ)
cut xs = without_return (take (len_of xs) xs) ∷ lines_of (drop (len_of xs + 1) xs)

at_ten : (x : ℕ) (ys : List ℕ) → eqb x 10 ≡ false → lines_of (x ∷ 10 ∷ ys) ≡ cut (x ∷ 10 ∷ ys)
at_ten x ys e = rw (at_feed x ys e, e) refl

at_other : (x y : ℕ) (ys : List ℕ) → y ≡ 10 → eqb x 10 ≡ false → lines_of (x ∷ y ∷ ys) ≡ cut (x ∷ y ∷ ys)
at_other x y ys f e = rw f (at_ten x ys e)

shifted : (x : ℕ) (xs : List ℕ) → eqb x 10 ≡ false → take (len_of (x ∷ xs)) (x ∷ xs) ≡ x ∷ take (len_of xs) xs
shifted x xs e = let one : 1 + len_of xs ≡ suc (len_of xs) = omega arith in rw (e, one) refl

dropped : (x : ℕ) (xs : List ℕ) → eqb x 10 ≡ false → drop (len_of (x ∷ xs) + 1) (x ∷ xs) ≡ drop (len_of xs + 1) xs
dropped x xs e = let one : 1 + len_of xs + 1 ≡ suc (len_of xs + 1) = omega arith in rw (e, one) refl

put_on : (x y : ℕ) (t front : List ℕ) (back : List (List ℕ)) → front ≡ y ∷ t → onto_first x (without_return front ∷ back) ≡ without_return (x ∷ front) ∷ back
put_on x y t front back e = rw e refl

same_cut : (a b : List ℕ) (c d : List ℕ) → a ≡ b → c ≡ d → without_return a ∷ lines_of c ≡ without_return b ∷ lines_of d
same_cut a b c d e f = rw (e, f) refl

later_cut : (x y : ℕ) (ys : List ℕ) → eqb x 10 ≡ false → eqb y 10 ≡ false → onto_first x (cut (y ∷ ys)) ≡ cut (x ∷ y ∷ ys)
later_cut x y ys e f =
    rw (put_on x y (take (len_of ys) ys) (take (len_of (y ∷ ys)) (y ∷ ys)) (lines_of (drop (len_of (y ∷ ys) + 1) (y ∷ ys))) (shifted y ys f))
    (sym (same_cut _ _ _ _ (shifted x (y ∷ ys) e) (dropped x (y ∷ ys) e)))

by_next : (b : Bool) (x y : ℕ) (ys : List ℕ) → eqb x 10 ≡ false → eqb y 10 ≡ b → lines_of (y ∷ ys) ≡ cut (y ∷ ys) → lines_of (x ∷ y ∷ ys) ≡ cut (x ∷ y ∷ ys)
by_next true x y ys e f next = at_other x y ys (at_least y f) e
by_next false x y ys e f next = rw (before_others x y ys e f, next) (later_cut x y ys e f)

at_once : (x : ℕ) (xs : List ℕ) → eqb x 10 ≡ true → lines_of (x ∷ xs) ≡ cut (x ∷ xs)
unfolding lines_of
at_once x xs e = rw e refl

later : (x : ℕ) (xs : List ℕ) → eqb x 10 ≡ false → len_of (x ∷ xs) < length (x ∷ xs) → len_of xs < length xs
later x xs e few = let f = rw e at few in omega (arith, f)

by_first : (b : Bool) (x : ℕ) (xs : List ℕ) → eqb x 10 ≡ b → len_of (x ∷ xs) < length (x ∷ xs) → (len_of xs < length xs → lines_of xs ≡ cut xs) → lines_of (x ∷ xs) ≡ cut (x ∷ xs)
by_first true x xs e few next = at_once x xs e
by_first false x [] e few next = elim (later x [] e few) [ ]
by_first false x (y ∷ ys) e few next = by_next (eqb y 10) x y ys e refl (next (later x (y ∷ ys) e few))

pub first_cut : (xs : List ℕ) → len_of xs < length xs → lines_of xs ≡ cut xs
first_cut [] few = elim few [ ]
first_cut (x ∷ xs) few = by_first (eqb x 10) x xs refl few (first_cut xs)

never_fed : (x : ℕ) (xs : List ℕ) → length (x ∷ xs) ≤ len_of (x ∷ xs) → eqb x 10 ≡ false
never_fed x xs none = grind arith

all_left : (x : ℕ) (xs : List ℕ) → length (x ∷ xs) ≤ len_of (x ∷ xs) → length xs ≤ len_of xs
all_left x xs none = let f = rw (never_fed x xs none) at none in omega (arith, f)

alone : (x : ℕ) → eqb x 10 ≡ false → lines_of (x ∷ []) ≡ (x ∷ []) ∷ []
unfolding lines_of
alone x e = rw e (never (eqb x 13) ([] ∷ []) ((x ∷ []) ∷ []))

pub last_line : (xs : List ℕ) → length xs ≤ len_of xs → lines_of xs ≡ xs ∷ []
unfolding lines_of
last_line [] none = refl
last_line (x ∷ []) none = alone x (never_fed x [] none)
last_line (x ∷ y ∷ ys) none =
    rw (before_others x y ys (never_fed x (y ∷ ys) none) (never_fed y ys (all_left x (y ∷ ys) none)), last_line (y ∷ ys) (all_left x (y ∷ ys) none)) refl

pub first_is : (text line : List ℕ) (n : ℕ) → n ≡ len_of text → n < length text → line ≡ without_return (take n text) → lines_of text ≡ line ∷ lines_of (drop (n + 1) text)
first_is text line n e few l = rw (l, e) (first_cut text (omega (arith, e)))

return_goes : (front : List ℕ) → without_return (front ++ 13 ∷ []) ≡ front
return_goes [] = refl
return_goes (x ∷ []) = refl
return_goes (x ∷ y ∷ ys) = rw (return_goes (y ∷ ys)) refl

alone_stays : (b : Bool) (x : ℕ) → eqb x 13 ≡ b → x ∷ [] ≢ 13 ∷ [] → without_return (x ∷ []) ≡ x ∷ []
alone_stays true x e other = absurd (other (grind (arith, e)))
alone_stays false x e other = rw e refl

return_stays : (xs : List ℕ) → ((front : List ℕ) → xs ≢ front ++ 13 ∷ []) → without_return xs ≡ xs
return_stays [] other = refl
return_stays (x ∷ []) other = alone_stays (eqb x 13) x refl (other [])
return_stays (x ∷ y ∷ ys) other = rw (return_stays (y ∷ ys) (λ front same. other (x ∷ front) (rw same refl))) refl

-- what `strip_suffix` gives, or the whole line
pub stripped : (line result : Bor (List ℕ)) (front : Option (Bor (List ℕ))) → result ≡ unwrap_or front line → MatchOption front ((before : List ℕ) → line.now ≢ before ++ 13 ∷ []) (λ before. line.now ≡ before.now ++ 13 ∷ []) → result.now ≡ without_return line.now
stripped line result None e other = rw e (sym (return_stays line.now other))
stripped line result (Some before) e same = rw (e, same) (sym (return_goes before.now))

-- the first line, and what stands behind its line feed
pub first_cut_off : (text line : List ℕ) (n : ℕ) → n ≡ len_of text → n < length text → line ≡ without_return (take n text) → (text ≡ before_first is_line_feed text ++ 10 ∷ drop (n + 1) text) × (line ≡ without_return (before_first is_line_feed text))
first_cut_off text line n e few l = rw (sym e) (around 10 text n e few, l)

pub no_feed : (text : List ℕ) → length text ≤ len_of text → list_any is_line_feed text ≡ false
no_feed [] none = refl
no_feed (x ∷ xs) none = rw (never_fed x xs none) (no_feed xs (all_left x xs none))
