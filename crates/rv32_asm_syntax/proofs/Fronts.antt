-- What stands at the front and at the end of a text.
use Rattle.std.proofs.Common.{◌≡◌, ℕ, ◌+◌, ◌-◌, ◌<◌, ◌≤◌, Bool, true, false, List, [], ◌∷◌, ◌++◌, length, get_or, take, drop, refl, sym, arith, ltb, cond, ◌&&◌}
use Rattle.std.specs.List.{position_or_len}
use Rattle.std.specs.Prelude.{Option, Some, None, unwrap_or}
use Rattle.std.proofs.lemmas.List.Sums.{prefix_len-le-length}
use Rattle.std.proofs.lemmas.List.{at_drop_more, take_more}
use Rattle.rv32_asm_syntax.specs.Characters.{is_blank, is_empty, skip_blanks, drop_end_blanks}

pub blanks_go_on : (xs : List ℕ) (i d : ℕ) → i < length xs → is_blank (get_or xs i d) ≡ true → skip_blanks (drop i xs) ≡ skip_blanks (drop (i + 1) xs)
blanks_go_on xs i d below passes = rw (at_drop_more skip_blanks xs i d below, passes) refl

pub blanks_end : (xs : List ℕ) (i d : ℕ) → i < length xs → is_blank (get_or xs i d) ≡ false → skip_blanks (drop i xs) ≡ drop i xs
blanks_end xs i d below stops = rw (at_drop_more (λ ys. ys) xs i d below, stops) refl

chosen : (b : Bool) (n len : ℕ) → ltb n len ≡ b → n ≤ len → unwrap_or (cond b (Some n) None) len ≡ n
chosen true n len e within = refl
chosen false n len e within = grind (arith, e, within)

-- the first that passes, or the length where none does
pub or_length : (p : ℕ → Bool) (xs : List ℕ) (found : Option ℕ) (n : ℕ) → n ≡ unwrap_or found (length xs) → found ≡ cond (ltb (position_or_len p xs) (length xs)) (Some (position_or_len p xs)) None → n ≡ position_or_len p xs
or_length p xs found n e f = rw (e, f) (chosen _ (position_or_len p xs) (length xs) refl (prefix_len-le-length _ xs))

pub begun : (begins found all : Bool) → begins ≡ true → found ≡ all → found ≡ (begins && all)
begun begins found all e f = rw (e, f) refl

pub end_blank_goes : (xs : List ℕ) (b : ℕ) → is_blank b ≡ true → drop_end_blanks (xs ++ b ∷ []) ≡ drop_end_blanks xs
end_blank_goes [] b e = rw e refl
end_blank_goes (x ∷ xs) b e = rw (end_blank_goes xs b e) refl

last_stays : (xs : List ℕ) (b : ℕ) → is_empty (xs ++ b ∷ []) ≡ false
last_stays [] b = refl
last_stays (x ∷ xs) b = refl

never : (c : Bool) (a b : List ℕ) → cond (c && false) a b ≡ b
never true a b = refl
never false a b = refl

pub no_end_blank_stays : (xs : List ℕ) (b : ℕ) → is_blank b ≡ false → drop_end_blanks (xs ++ b ∷ []) ≡ xs ++ b ∷ []
no_end_blank_stays [] b e = rw e refl
no_end_blank_stays (x ∷ xs) b e = rw (no_end_blank_stays xs b e, last_stays xs b) (never (is_blank x) [] _)

pub last_of : (xs : List ℕ) (n d : ℕ) → 0 < n → n ≤ length xs → take n xs ≡ take (n - 1) xs ++ get_or xs (n - 1) d ∷ []
last_of xs n d some within =
    let one : n - 1 + 1 ≡ n = omega arith in
    let more : take (n - 1 + 1) xs ≡ take (n - 1) xs ++ get_or xs (n - 1) d ∷ [] = take_more xs (n - 1) d (omega arith) in
    rw (sym more, one) refl

pub end_goes_on : (xs : List ℕ) (n d : ℕ) → 0 < n → n ≤ length xs → is_blank (get_or xs (n - 1) d) ≡ true → drop_end_blanks (take n xs) ≡ drop_end_blanks (take (n - 1) xs)
end_goes_on xs n d some within e = rw (last_of xs n d some within) (end_blank_goes (take (n - 1) xs) (get_or xs (n - 1) d) e)

pub end_stops : (xs : List ℕ) (n d : ℕ) → 0 < n → n ≤ length xs → is_blank (get_or xs (n - 1) d) ≡ false → drop_end_blanks (take n xs) ≡ take n xs
end_stops xs n d some within e = rw (last_of xs n d some within) (no_end_blank_stays (take (n - 1) xs) (get_or xs (n - 1) d) e)
