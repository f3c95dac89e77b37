-- Digits are read from the front on, and numbers above 2^64 count as 2^64.
use Rattle.std.proofs.Common.{◌≡◌, ℕ, ◌+◌, ◌*◌, ◌^◌, ◌<◌, ◌≤◌, Bool, true, false, List, [], ◌∷◌, length, get_or, drop, refl, arith, sym, le_trans, ap, ◌∙◌, ◌&&◌}
use Rattle.std.specs.Prelude.{Option, Some, None, option_map, option_and_then, nat_le, if◌then◌else◌}
use Rattle.std.specs.List.{list_all}
use Rattle.std.specs.Char.{is_digit, digit_value}
use Rattle.std.specs.Str.Parse.{digits_value_after}
use Rattle.std.proofs.lemmas.List.{at_drop_more, at_drop_all}
use Rattle.rv32_asm_syntax.specs.Numbers.{natural_of}
use Rattle.adversary_script.specs.Parts.{capped, with_digit}

-- the number that digits write behind those of a number
abbrev pub capped_after : ℕ → List ℕ → Option ℕ
capped_after number digits =
    if list_all (λ byte. is_digit byte 10) digits then Some (capped (digits_value_after 10 number digits)) else None

times_more : (n v : ℕ) → n ≤ n * 10 + v
times_more n v = omega arith

grows : (number : ℕ) (ds : List ℕ) → number ≤ digits_value_after 10 number ds
grows number [] = omega arith
grows number (d ∷ ds) = le_trans (times_more number (digit_value d)) (grows (number * 10 + digit_value d) ds)

same_cap : (a b : ℕ) → 2 ^ 64 ≤ a → 2 ^ 64 ≤ b → capped a ≡ capped b
same_cap a b large larger = omega (arith, large, larger)

cap_small : (m : ℕ) → m ≤ 2 ^ 64 → capped m ≡ m
cap_small m small = omega (arith, small)

cap_large : (m : ℕ) → 2 ^ 64 ≤ m → capped m ≡ 2 ^ 64
cap_large m large = omega (arith, large)

by_size : (b : Bool) (m : ℕ) (ds : List ℕ) → nat_le m (2 ^ 64) ≡ b → capped (digits_value_after 10 (capped m) ds) ≡ capped (digits_value_after 10 m ds)
by_size true m ds e =
    let small : m ≤ 2 ^ 64 = grind (arith, e) in ap (λ n. capped (digits_value_after 10 n ds)) (cap_small m small)
by_size false m ds e =
    let large : 2 ^ 64 ≤ m = grind (arith, e) in
    ap (λ n. capped (digits_value_after 10 n ds)) (cap_large m large)
    ∙ same_cap (digits_value_after 10 (2 ^ 64) ds) (digits_value_after 10 m ds) (grows (2 ^ 64) ds) (le_trans large (grows m ds))

-- a digit that was tested, and then the rest
tested : (c : Bool) (m n : ℕ) (ds : List ℕ) → m ≡ n → (if c && list_all (λ byte. is_digit byte 10) ds then Some (capped (digits_value_after 10 m ds)) else None) ≡ option_and_then (λ k. capped_after k ds) (if c then Some (capped n) else None)
tested false m n ds e = refl
tested true m n ds e =
    ap (λ k. if list_all (λ byte. is_digit byte 10) ds then Some k else None)
    (ap (λ k. capped (digits_value_after 10 k ds)) e ∙ sym (by_size (nat_le n (2 ^ 64)) n ds refl))

first_read : (number x : ℕ) (ds : List ℕ) → capped_after number (x ∷ ds) ≡ option_and_then (λ n. capped_after n ds) (with_digit number x)
first_read number x ds = tested (is_digit x 10) (number * 10 + digit_value x) (10 * number + digit_value x) ds (omega arith)

pub one_read : (number : ℕ) (ds : List ℕ) (i d : ℕ) → i < length ds → capped_after number (drop i ds) ≡ option_and_then (λ n. capped_after n (drop (i + 1) ds)) (with_digit number (get_or ds i d))
one_read number ds i d below =
    rw (at_drop_more (capped_after number) ds i d below) (first_read number (get_or ds i d) (drop (i + 1) ds))

moved : (c : Bool) (n : ℕ) → option_map capped (if c then Some n else None) ≡ (if c then Some (capped n) else None)
moved true n = refl
moved false n = refl

whole : (ds : List ℕ) → 0 < length ds → option_map capped (natural_of 10 ds) ≡ capped_after 0 ds
whole [] some = elim some [ ]
whole (d ∷ ds) some = moved (list_all (λ byte. is_digit byte 10) (d ∷ ds)) (digits_value_after 10 0 (d ∷ ds))

pub goes_on : (number more : ℕ) (ds : List ℕ) (i d : ℕ) → i < length ds → Some more ≡ with_digit number (get_or ds i d) → capped_after number (drop i ds) ≡ capped_after 0 ds → capped_after more (drop (i + 1) ds) ≡ capped_after 0 ds
goes_on number more ds i d below e so_far =
    ap (option_and_then (λ n. capped_after n (drop (i + 1) ds))) e ∙ sym (one_read number ds i d below) ∙ so_far

pub missed : (number : ℕ) (ds : List ℕ) (i d : ℕ) → i < length ds → None ≡ with_digit number (get_or ds i d) → capped_after number (drop i ds) ≡ capped_after 0 ds → None ≡ option_map capped (natural_of 10 ds)
missed number ds i d below e so_far =
    ap (option_and_then (λ n. capped_after n (drop (i + 1) ds))) e ∙ sym (one_read number ds i d below) ∙ so_far ∙ sym (whole ds (omega (arith, below)))

pub all_read : (number : ℕ) (ds : List ℕ) (i : ℕ) → length ds ≤ i → number ≤ 2 ^ 64 → capped_after number (drop i ds) ≡ capped_after 0 ds → 0 < length ds → Some number ≡ option_map capped (natural_of 10 ds)
all_read number ds i past small so_far any =
    ap Some (sym (cap_small number small)) ∙ sym (at_drop_all (capped_after number) ds i past) ∙ so_far ∙ sym (whole ds any)

held_if : (c : Bool) (m more : ℕ) → Some more ≡ (if c then Some (capped m) else None) → more ≤ 2 ^ 64
held_if true m more w = let same : more ≡ capped m = cc in omega (arith, same)
held_if false m more w = cc

pub is_capped : (number more digit : ℕ) → Some more ≡ with_digit number digit → more ≤ 2 ^ 64
is_capped number more digit w = held_if (is_digit digit 10) (10 * number + digit_value digit) more w
