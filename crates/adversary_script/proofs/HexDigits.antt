-- Bytes are read two digits at a time.
use Rattle.std.proofs.Common.{◌≡◌, ℕ, ◌+◌, ◌*◌, ◌<◌, ◌≤◌, Bool, true, false, ◌&&◌, List, [], ◌∷◌, ◌++◌, length, get_or, drop, refl, sym, ap, ◌∙◌, ◌⊎◌, inl, inr, arith, append_assoc, length-append}
use Rattle.std.specs.Prelude.{Option, Some, None, IfSome, option_map, option_and_then, nat_lt, nat_le, if◌then◌else◌}
use Rattle.std.specs.Char.{is_digit, digit_value}
use Rattle.std.proofs.lemmas.List.{append-nil, at_drop_more, at_drop_all}
use Rattle.arrayvec.specs.ArrayVec.{ArrayVec}
use Rattle.adversary_script.specs.Parts.{byte_of}
use Rattle.adversary_script.specs.Reading.{as_array, fitting, hex_bytes}

-- bytes that were read, and those that digits write
abbrev pub bytes_behind : List ℕ → List ℕ → Option (ArrayVec ℕ)
bytes_behind items digits = option_map (λ more. as_array (items ++ more)) (hex_bytes digits)

pair_read : (c : Bool) (v b : ℕ) (o : Option (List ℕ)) (items new : List ℕ) → Some b ≡ (if c then Some v else None) → new ≡ items ++ b ∷ [] →
    option_map (λ more. as_array (new ++ more)) o ≡ option_map (λ more. as_array (items ++ more)) (if c then option_map (λ bytes. v ∷ bytes) o else None)
pair_read false v b o items new e f = cc
pair_read true v b None items new e f = refl
pair_read true v b (Some bs) items new e f = let same : b ≡ v = cc in rw (f, same, append_assoc) refl

no_pair : (c : Bool) (v : ℕ) (o : Option (List ℕ)) (items : List ℕ) → None ≡ (if c then Some v else None) →
    None ≡ option_map (λ more. as_array (items ++ more)) (if c then option_map (λ bytes. v ∷ bytes) o else None)
no_pair true v o items e = cc
no_pair false v o items e = refl

two_left : (items ds : List ℕ) (i d : ℕ) → i + 1 < length ds → bytes_behind items (drop i ds) ≡ bytes_behind items (get_or ds i d ∷ get_or ds (i + 1) d ∷ drop (i + 2) ds)
two_left items ds i d below =
    let two : i + 1 + 1 ≡ i + 2 = omega arith in
    at_drop_more (bytes_behind items) ds i d (omega (arith, below))
    ∙ at_drop_more (λ more. bytes_behind items (get_or ds i d ∷ more)) ds (i + 1) d below
    ∙ ap (λ n. bytes_behind items (get_or ds i d ∷ get_or ds (i + 1) d ∷ drop n ds)) two

pub goes_on : (items new ds : List ℕ) (i b d : ℕ) → i + 1 < length ds → Some b ≡ byte_of (get_or ds i d) (get_or ds (i + 1) d) → new ≡ items ++ b ∷ [] → bytes_behind items (drop i ds) ≡ option_map as_array (hex_bytes ds) → bytes_behind new (drop (i + 2) ds) ≡ option_map as_array (hex_bytes ds)
goes_on items new ds i b d below e f so_far =
    pair_read (is_digit (get_or ds i d) 16 && is_digit (get_or ds (i + 1) d) 16) _ b (hex_bytes (drop (i + 2) ds)) items new e f
    ∙ sym (two_left items ds i d below) ∙ so_far

pub missed : (items ds : List ℕ) (i d : ℕ) → i + 1 < length ds → None ≡ byte_of (get_or ds i d) (get_or ds (i + 1) d) → bytes_behind items (drop i ds) ≡ option_map as_array (hex_bytes ds) → None ≡ option_map as_array (hex_bytes ds)
missed items ds i d below e so_far =
    no_pair (is_digit (get_or ds i d) 16 && is_digit (get_or ds (i + 1) d) 16) _ (hex_bytes (drop (i + 2) ds)) items e
    ∙ sym (two_left items ds i d below) ∙ so_far

pub all_read : (items ds : List ℕ) (i : ℕ) → i ≡ length ds → bytes_behind items (drop i ds) ≡ option_map as_array (hex_bytes ds) → Some (as_array items) ≡ option_map as_array (hex_bytes ds)
all_read items ds i e so_far =
    ap (λ all. Some (as_array all)) (sym (append-nil items)) ∙ sym (at_drop_all (bytes_behind items) ds i (omega (arith, e))) ∙ so_far

pub one_left : (items ds : List ℕ) (i : ℕ) → i < length ds → length ds ≤ i + 1 → bytes_behind items (drop i ds) ≡ option_map as_array (hex_bytes ds) → None ≡ option_map as_array (hex_bytes ds)
one_left items ds i below past so_far =
    sym (at_drop_more (bytes_behind items) ds i 0 below ∙ at_drop_all (λ more. bytes_behind items (get_or ds i 0 ∷ more)) ds (i + 1) past) ∙ so_far

-- ---- how many bytes digits write

more_pairs : (c : Bool) (v n : ℕ) (o : Option (List ℕ)) (bs : List ℕ) → ((cs : List ℕ) → o ≡ Some cs → n ≡ 2 * length cs) → (if c then option_map (λ bytes. v ∷ bytes) o else None) ≡ Some bs → 2 + n ≡ 2 * length bs
more_pairs false v n o bs half e = cc
more_pairs true v n None bs half e = cc
more_pairs true v n (Some cs) bs half e = let same : bs ≡ v ∷ cs = cc in rw same (omega (arith, half cs refl))

half_len : (ds bs : List ℕ) → hex_bytes ds ≡ Some bs → length ds ≡ 2 * length bs
half_len [] bs e = let same : bs ≡ [] = cc in rw same refl
half_len (high ∷ []) bs e = cc
half_len (high ∷ low ∷ ds) bs e =
    let half = more_pairs (is_digit high 16 && is_digit low 16) (16 * digit_value high + digit_value low) (length ds) (hex_bytes ds) bs (half_len ds) e in
    omega (arith, half)

fit : (n room : ℕ) → 0 < n → n ≤ room → (nat_lt 0 n && nat_le n room) ≡ true
fit n room some within = grind (arith, some, within)

unfit : (n room : ℕ) → (n ≡ 0) ⊎ (room < n) → (nat_lt 0 n && nat_le n room) ≡ false
unfit n room (inl none) = grind (arith, none)
unfit n room (inr many) = grind (arith, many)

fits : (n room : ℕ) (o : Option (List ℕ)) → ((bs : List ℕ) → o ≡ Some bs → n ≡ 2 * length bs) → 0 < n → n ≤ 2 * room → option_map as_array o ≡ option_map as_array (option_and_then (fitting room) o)
fits n room None half some within = refl
fits n room (Some bs) half some within =
    let same = half bs refl in rw (fit (length bs) room (omega (arith, same, some)) (omega (arith, same, within))) refl

unfits : (n room : ℕ) (o : Option (List ℕ)) → ((bs : List ℕ) → o ≡ Some bs → n ≡ 2 * length bs) → (n ≡ 0) ⊎ (2 * room < n) → None ≡ option_map as_array (option_and_then (fitting room) o)
unfits n room None half none = refl
unfits n room (Some bs) half (inl none) =
    let same = half bs refl in rw (unfit (length bs) room (inl (omega (arith, same, none)))) refl
unfits n room (Some bs) half (inr many) =
    let same = half bs refl in rw (unfit (length bs) room (inr (omega (arith, same, many)))) refl

pub fitting_all : (ds : List ℕ) (room : ℕ) (found : Option (ArrayVec ℕ)) → 0 < length ds → length ds ≤ 2 * room → found ≡ option_map as_array (hex_bytes ds) → found ≡ option_map as_array (option_and_then (fitting room) (hex_bytes ds))
fitting_all ds room found some within e = e ∙ fits (length ds) room (hex_bytes ds) (half_len ds) some within

pub fitting_none : (ds : List ℕ) (room : ℕ) → (length ds ≡ 0) ⊎ (2 * room < length ds) → None ≡ option_map as_array (option_and_then (fitting room) (hex_bytes ds))
fitting_none ds room none = unfits (length ds) room (hex_bytes ds) (half_len ds) none

inside_if : (n room : ℕ) (o : Option (List ℕ)) (found : Option (ArrayVec ℕ)) → ((bs : List ℕ) → o ≡ Some bs → n ≡ 2 * length bs) → 0 < n → n ≤ 2 * room → found ≡ option_map as_array o → IfSome found (λ bytes. (0 < length bytes.items) × (length bytes.items ≤ room))
inside_if n room None found half some within e = rw e tt
inside_if n room (Some bs) found half some within e = let same = half bs refl in rw e ((omega (arith, same, some)), (omega (arith, same, within)))

pub inside : (ds : List ℕ) (room : ℕ) (found : Option (ArrayVec ℕ)) → 0 < length ds → length ds ≤ 2 * room → found ≡ option_map as_array (hex_bytes ds) → IfSome found (λ bytes. (0 < length bytes.items) × (length bytes.items ≤ room))
inside ds room found some within e = inside_if (length ds) room (hex_bytes ds) found (half_len ds) some within e

pub longer_by_one : (at : ℕ) (items new : List ℕ) (b : ℕ) → at ≡ 2 * length items → new ≡ items ++ b ∷ [] → at + 2 ≡ 2 * length new
longer_by_one at items new b e f = rw f (let more : length (items ++ b ∷ []) ≡ length items + 1 = length-append items (b ∷ []) in omega (arith, e, more))
