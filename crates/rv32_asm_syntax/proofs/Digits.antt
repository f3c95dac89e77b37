-- Digits are read from the front on.
use Rattle.std.proofs.Common.{◌≡◌, ℕ, ◌+◌, ◌*◌, ◌^◌, ◌<◌, ◌≤◌, Bool, true, false, ◌&&◌, List, [], ◌∷◌, length, get_or, drop, refl, arith, pos, zero, suc, nat_lt, sym, lt-ltb, le-ltb, le_trans}
use Rattle.std.specs.Prelude.{Option, Some, None, option_map, option_and_then, neg_ℤ, if◌then◌else◌}
use Rattle.std.specs.List.{list_all}
use Rattle.std.specs.Char.{is_digit, digit_value}
use Rattle.std.specs.Str.Parse.{digits_value_after}
use Rattle.std.proofs.lemmas.Bool.{ltb-false}
use Rattle.std.proofs.lemmas.List.{at_drop_more, at_drop_all}
use Rattle.rv32_asm_syntax.specs.Numbers.{natural_of, in_range}
use Rattle.rv32_asm_syntax.specs.Parts.{as_word, with_digit}

-- the number that digits write behind those of a number, where 32 bits hold it
abbrev pub word_after : ℕ → ℕ → List ℕ → Option ℕ
word_after base number digits =
    if list_all (λ byte. is_digit byte base) digits then as_word (digits_value_after base number digits) else None

either : (c : Bool) (o : Option ℕ) → o ≡ None → (if c then o else None) ≡ None
either true o e = e
either false o e = refl

times_more : (n v base : ℕ) → 1 ≤ base → n ≤ n * base + v
times_more n v zero some = elim some [ ]
times_more n v (suc base) some = grind arith

grows : (base number : ℕ) (ds : List ℕ) → 1 ≤ base → number ≤ digits_value_after base number ds
grows base number [] some = omega arith
grows base number (d ∷ ds) some =
    le_trans (times_more number (digit_value d) base some) (grows base (number * base + digit_value d) ds some)

no_word : (n : ℕ) → 2 ^ 32 ≤ n → as_word n ≡ None
no_word n large = rw (le-ltb n (2 ^ 32) large) refl

large_or_small : (b : Bool) (base m : ℕ) (ds : List ℕ) → 1 ≤ base → nat_lt m (2 ^ 32) ≡ b → word_after base m ds ≡ option_and_then (λ n. word_after base n ds) (as_word m)
large_or_small true base m ds some e = rw e refl
large_or_small false base m ds some e =
    rw e
    (either (list_all (λ byte. is_digit byte base) ds) (as_word (digits_value_after base m ds))
    (no_word (digits_value_after base m ds) (le_trans (ltb-false m (2 ^ 32) e) (grows base m ds some))))

-- a digit that was tested, and then the rest
tested : (c : Bool) (base m : ℕ) (ds : List ℕ) → 1 ≤ base → (if c && list_all (λ byte. is_digit byte base) ds then as_word (digits_value_after base m ds) else None) ≡ option_and_then (λ n. word_after base n ds) (if c then as_word m else None)
tested false base m ds some = refl
tested true base m ds some = large_or_small (nat_lt m (2 ^ 32)) base m ds some refl

first_read : (base number x : ℕ) (ds : List ℕ) → 1 ≤ base → word_after base number (x ∷ ds) ≡ option_and_then (λ n. word_after base n ds) (with_digit base number x)
first_read base number x ds some = tested (is_digit x base) base (number * base + digit_value x) ds some

pub one_read : (base number : ℕ) (ds : List ℕ) (i d : ℕ) → 1 ≤ base → i < length ds → word_after base number (drop i ds) ≡ option_and_then (λ n. word_after base n (drop (i + 1) ds)) (with_digit base number (get_or ds i d))
one_read base number ds i d some below =
    rw (at_drop_more (word_after base number) ds i d below) (first_read base number (get_or ds i d) (drop (i + 1) ds) some)

moved : (c : Bool) (n : ℕ) → option_and_then as_word (if c then Some n else None) ≡ (if c then as_word n else None)
moved true n = refl
moved false n = refl

whole : (base : ℕ) (ds : List ℕ) → 0 < length ds → option_and_then as_word (natural_of base ds) ≡ word_after base 0 ds
whole base [] some = elim some [ ]
whole base (d ∷ ds) some = moved (list_all (λ byte. is_digit byte base) (d ∷ ds)) (digits_value_after base 0 (d ∷ ds))

pub goes_on : (base number more : ℕ) (ds : List ℕ) (i d : ℕ) → 1 ≤ base → i < length ds → with_digit base number (get_or ds i d) ≡ Some more → word_after base number (drop i ds) ≡ word_after base 0 ds → word_after base more (drop (i + 1) ds) ≡ word_after base 0 ds
goes_on base number more ds i d some below e so_far = rw (sym so_far, one_read base number ds i d some below, e) refl

pub missed : (base number : ℕ) (ds : List ℕ) (i d : ℕ) → 1 ≤ base → i < length ds → with_digit base number (get_or ds i d) ≡ None → word_after base number (drop i ds) ≡ word_after base 0 ds → 0 < length ds → None ≡ option_and_then as_word (natural_of base ds)
missed base number ds i d some below e so_far any = rw (whole base ds any, sym so_far, one_read base number ds i d some below, e) refl

pub all_read : (base number : ℕ) (ds : List ℕ) (i : ℕ) → length ds ≤ i → number < 2 ^ 32 → word_after base number (drop i ds) ≡ word_after base 0 ds → 0 < length ds → Some number ≡ option_and_then as_word (natural_of base ds)
all_read base number ds i past small so_far any = rw (whole base ds any, sym so_far, at_drop_all (word_after base number) ds i past, lt-ltb number (2 ^ 32) small) refl

held : (m more : ℕ) (b : Bool) → nat_lt m (2 ^ 32) ≡ b → as_word m ≡ Some more → more < 2 ^ 32
held m more b e w = grind arith

held_if : (c : Bool) (m more : ℕ) → (if c then as_word m else None) ≡ Some more → more < 2 ^ 32
held_if true m more w = held m more (nat_lt m (2 ^ 32)) refl w
held_if false m more w = grind arith

pub is_word : (base number more digit : ℕ) → with_digit base number digit ≡ Some more → more < 2 ^ 32
is_word base number more digit w = held_if (is_digit digit base) (number * base + digit_value digit) more w

pub unsigned_number : (o : Option ℕ) → option_and_then in_range (option_map pos o) ≡ option_map pos (option_and_then as_word o)
unsigned_number None = refl
unsigned_number (Some n) = grind arith

pub negated : (n : ℕ) → n ≤ 2 ^ 31 → in_range (neg_ℤ (pos n)) ≡ Some (neg_ℤ (pos n))
negated zero small = refl
negated (suc n) small = grind arith

pub unsigned_some : (o : Option ℕ) (number : ℕ) → Some number ≡ option_and_then as_word o → Some (pos number) ≡ option_and_then in_range (option_map pos o)
unsigned_some o number e = rw (unsigned_number o, sym e) refl

pub unsigned_none : (o : Option ℕ) → None ≡ option_and_then as_word o → None ≡ option_and_then in_range (option_map pos o)
unsigned_none o e = rw (unsigned_number o, sym e) refl

pub below_range : (n : ℕ) → 2 ^ 31 < n → in_range (neg_ℤ (pos n)) ≡ None
below_range zero large = elim large [ ]
below_range (suc n) large = grind arith

large_negated : (b : Bool) (n : ℕ) → nat_lt n (2 ^ 32) ≡ b → in_range (neg_ℤ (pos n)) ≡ option_and_then (λ each. in_range (neg_ℤ (pos each))) (as_word n)
large_negated true n e = rw e refl
large_negated false n e = rw (e, below_range n (omega (arith, ltb-false n (2 ^ 32) e))) refl

negated_as_word : (o : Option ℕ) → option_and_then in_range (option_map (λ n. neg_ℤ (pos n)) o) ≡ option_and_then (λ each. in_range (neg_ℤ (pos each))) (option_and_then as_word o)
negated_as_word None = refl
negated_as_word (Some n) = large_negated (nat_lt n (2 ^ 32)) n refl

pub negated_some : (o : Option ℕ) (number : ℕ) → Some number ≡ option_and_then as_word o → number ≤ 2 ^ 31 → Some (neg_ℤ (pos number)) ≡ option_and_then in_range (option_map (λ n. neg_ℤ (pos n)) o)
negated_some o number e small = rw (negated_as_word o, sym e) (sym (negated number small))

pub negated_none : (o : Option ℕ) → None ≡ option_and_then as_word o → None ≡ option_and_then in_range (option_map (λ n. neg_ℤ (pos n)) o)
negated_none o e = rw (negated_as_word o, sym e) refl

pub negated_large : (o : Option ℕ) (number : ℕ) → Some number ≡ option_and_then as_word o → 2 ^ 31 < number → None ≡ option_and_then in_range (option_map (λ n. neg_ℤ (pos n)) o)
negated_large o number e large = rw (negated_as_word o, sym e) (sym (below_range number large))
