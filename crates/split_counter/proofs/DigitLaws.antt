-- Digits in a base and the numbers that have them.
use Rattle.std.proofs.Common.{◌≡◌, ℕ, zero, suc, ◌+◌, ◌*◌, ◌/◌, ◌%◌, ◌^◌, ◌<◌, ◌≤◌, List, [], ◌∷◌, ◌++◌, length, get_or, take, drop, All, refl, sym, ap, ◌∙◌, arith, zero-add}
use Rattle.std.proofs.Math.Nat.{add-mul-div_left, add-mul-mod_self_left, div-eq_of_lt, div-lt_iff_lt-mul, div-div-eq-div-mul, div-one, mod-add-div, mod-eq_of_lt, mod-lt, mod-one, mul-le-mul_left, mul-zero, mul_comm, one-le-pow, pow-suc, pow-zero, zero-div, zero-mod}
use Rattle.std.proofs.Math.Arith.{mod-mul}
use Rattle.std.proofs.lemmas.List.Elements.{All-cons, All-drop, All-head, All-nil, All-tail}
use Rattle.std.proofs.lemmas.Nat.{pow-add}
use Rattle.split_counter.specs.Digits.{number_of, digits_of}

-- they are digits in this base
abbrev pub AreDigits : ℕ → List ℕ → Type 0
AreDigits base digits = All (λ digit. digit < base) digits

-- a number whose lowest digit is known
lowest : (base digit upper : ℕ) → digit < base → ((digit + base * upper) % base ≡ digit) × ((digit + base * upper) / base ≡ upper)
lowest base digit upper small = (
  add-mul-mod_self_left digit base upper ∙ mod-eq_of_lt small,
  omega (arith, add-mul-div_left digit upper {y = base} (omega arith), div-eq_of_lt small),
)

-- the quotient by a power, one digit at a time
next_quotient : (base number count : ℕ) → number / base ^ suc count ≡ number / base / base ^ count
next_quotient base number count =
    ap (λ (n : ℕ). number / n) (pow-suc base count ∙ mul_comm (base ^ count) base)
    ∙ sym (div-div-eq-div-mul number base (base ^ count))

-- ---- the number of a list of digits
pub number_of_lt : (base : ℕ) (digits : List ℕ) → AreDigits base digits → number_of base digits < base ^ length digits
unfolding number_of
number_of_lt base [] fit = omega (arith, pow-zero base)
number_of_lt base (digit ∷ digits) fit =
    let small = All-head (λ (d : ℕ). d < base) digit digits fit in
    let rest = number_of_lt base digits (All-tail (λ (d : ℕ). d < base) digit digits fit) in
    let more : number_of base digits + 1 ≤ base ^ length digits = omega arith in
    omega (arith, small, mul-le-mul_left base more, pow-suc base (length digits), mul_comm base (base ^ length digits))

-- without the lowest digits
pub number_of-drop : (base count : ℕ) (digits : List ℕ) → AreDigits base digits →
    number_of base digits / base ^ count ≡ number_of base (drop count digits)
unfolding number_of
number_of-drop base zero digits fit = ap (λ (n : ℕ). number_of base digits / n) (pow-zero base) ∙ div-one (number_of base digits)
number_of-drop base (suc count) [] fit = zero-div (base ^ suc count)
number_of-drop base (suc count) (digit ∷ digits) fit =
    let small = All-head (λ (d : ℕ). d < base) digit digits fit in
    next_quotient base (digit + base * number_of base digits) count
    ∙ ap (λ (n : ℕ). n / base ^ count) (lowest base digit (number_of base digits) small).1
    ∙ number_of-drop base count digits (All-tail (λ (d : ℕ). d < base) digit digits fit)

-- the lowest digits alone
pub number_of-take : (base count : ℕ) (digits : List ℕ) → AreDigits base digits →
    number_of base digits % base ^ count ≡ number_of base (take count digits)
unfolding number_of
number_of-take base zero digits fit = ap (λ (n : ℕ). number_of base digits % n) (pow-zero base) ∙ mod-one (number_of base digits)
number_of-take base (suc count) [] fit = zero-mod (base ^ suc count)
number_of-take base (suc count) (digit ∷ digits) fit =
    let small = All-head (λ (d : ℕ). d < base) digit digits fit in
    let number = digit + base * number_of base digits in
    let parts = lowest base digit (number_of base digits) small in
    ap (λ (n : ℕ). number % n) (pow-suc base count)
    ∙ mod-mul number {m = base ^ count} {c = base} (omega (arith, one-le-pow count base (omega arith))) (omega arith)
    ∙ ap (λ (n : ℕ). n % base ^ count * base + number % base) parts.1
    ∙ ap (λ (n : ℕ). number_of base digits % base ^ count * base + n) parts.0
    ∙ ap (λ (n : ℕ). n * base + digit) (number_of-take base count digits (All-tail (λ (d : ℕ). d < base) digit digits fit))
    ∙ omega (arith, mul_comm base (number_of base (take count digits)))

-- one digit more
pub number_of_more : (base count : ℕ) (digits : List ℕ) →
    number_of base (take (suc count) digits) ≡ number_of base (take count digits) + get_or digits count 0 * base ^ count
unfolding number_of
number_of_more base zero [] = omega arith
number_of_more base (suc count) [] = omega arith
number_of_more base zero (digit ∷ digits) = omega (arith, ap (λ (n : ℕ). digit * n) (pow-zero base), mul-zero base)
number_of_more base (suc count) (digit ∷ digits) =
    ap (λ (n : ℕ). digit + base * n) (number_of_more base count digits)
    ∙ spread digit base (number_of base (take count digits)) (get_or digits count 0) (base ^ count)
    ∙ ap (λ (n : ℕ). digit + base * number_of base (take count digits) + get_or digits count 0 * n) (sym (pow-suc base count))
  where
    spread : (digit base number next power : ℕ) → digit + base * (number + next * power) ≡ digit + base * number + next * (power * base)
    spread digit base number next power = omega arith

-- ---- the digits of a number
pub length-digits_of : (base count number : ℕ) → length (digits_of base count number) ≡ count
unfolding digits_of
length-digits_of base zero number = refl
length-digits_of base (suc count) number = ap suc (length-digits_of base count (number / base))

pub digits_of_are : (base count number : ℕ) → 0 < base → AreDigits base (digits_of base count number)
unfolding digits_of
digits_of_are base zero number some = All-nil (λ (d : ℕ). d < base)
digits_of_are base (suc count) number some =
    All-cons (λ (d : ℕ). d < base) (number % base) (digits_of base count (number / base))
    (mod-lt number some) (digits_of_are base count (number / base) some)

-- the lowest ones, and then those of the quotient
pub digits_of-add : (base count more number : ℕ) →
    digits_of base (count + more) number ≡ digits_of base count number ++ digits_of base more (number / base ^ count)
unfolding digits_of
digits_of-add base zero more number =
    ap (λ (n : ℕ). digits_of base n number) (zero-add more)
    ∙ ap (λ (n : ℕ). digits_of base more n) (sym (ap (λ (n : ℕ). number / n) (pow-zero base) ∙ div-one number))
digits_of-add base (suc count) more number =
    let longer : suc count + more ≡ suc (count + more) = omega arith in
    ap (λ (n : ℕ). digits_of base n number) longer
    ∙ ap (λ (digits : List ℕ). number % base ∷ digits) (digits_of-add base count more (number / base)
    ∙ ap (λ (n : ℕ). digits_of base count (number / base) ++ digits_of base more n) (sym (next_quotient base number count)))

-- they are those of the rest by a power
pub digits_of-mod : (base count number : ℕ) → 0 < base → digits_of base count (number % base ^ count) ≡ digits_of base count number
unfolding digits_of
digits_of-mod base zero number some = refl
digits_of-mod base (suc count) number some =
    let rest : number % base ^ suc count ≡ number % base + base * (number / base % base ^ count) =
    ap (λ (n : ℕ). number % n) (pow-suc base count)
    ∙ mod-mul number {m = base ^ count} {c = base} (omega (arith, one-le-pow count base some)) some
    ∙ omega (arith, mul_comm base (number / base % base ^ count)) in
    let parts = lowest base (number % base) (number / base % base ^ count) (mod-lt number some) in
    ap (λ (n : ℕ). n % base ∷ digits_of base count (n / base)) rest
    ∙ ap (λ (n : ℕ). n ∷ digits_of base count ((number % base + base * (number / base % base ^ count)) / base)) parts.0
    ∙ ap (λ (n : ℕ). number % base ∷ digits_of base count n) parts.1
    ∙ ap (λ (digits : List ℕ). number % base ∷ digits) (digits_of-mod base count (number / base) some)

-- ---- back and forth
pub digits_of-number_of : (base : ℕ) (digits : List ℕ) → AreDigits base digits → digits_of base (length digits) (number_of base digits) ≡ digits
unfolding digits_of number_of
digits_of-number_of base [] fit = refl
digits_of-number_of base (digit ∷ digits) fit =
    let parts = lowest base digit (number_of base digits) (All-head (λ (d : ℕ). d < base) digit digits fit) in
    ap (λ (n : ℕ). n ∷ digits_of base (length digits) ((digit + base * number_of base digits) / base)) parts.0
    ∙ ap (λ (n : ℕ). digit ∷ digits_of base (length digits) n) parts.1
    ∙ ap (λ (rest : List ℕ). digit ∷ rest) (digits_of-number_of base digits (All-tail (λ (d : ℕ). d < base) digit digits fit))

pub number_of-digits_of : (base count number : ℕ) → 0 < base → number < base ^ count → number_of base (digits_of base count number) ≡ number
unfolding digits_of number_of
number_of-digits_of base zero number some fits = omega (arith, pow-zero base)
number_of-digits_of base (suc count) number some fits =
    let smaller : number / base < base ^ count = (div-lt_iff_lt-mul {x = number} {y = base ^ count} some).1 (omega (arith, pow-suc base count)) in
    ap (λ (n : ℕ). number % base + base * n) (number_of-digits_of base count (number / base) some smaller)
    ∙ mod-add-div number base

-- ---- another base, where some digits of the one take the room of some digits of the other
pub power_of_power : (base count times : ℕ) → base ^ (count * times) ≡ (base ^ count) ^ times
power_of_power base count zero = ap (λ (n : ℕ). base ^ n) (mul-zero count) ∙ pow-zero base ∙ sym (pow-zero (base ^ count))
power_of_power base count (suc times) =
    ap (λ (n : ℕ). base ^ n) (omega arith) ∙ pow-add base (count * times) count
    ∙ ap (λ (n : ℕ). n * base ^ count) (power_of_power base count times)
    ∙ sym (pow-suc (base ^ count) times)

-- a group of digits in one base is a group in the other
pub group_of_digits : (base other count room group : ℕ) (digits : List ℕ) → AreDigits base digits → 0 < other → base ^ count ≡ other ^ room →
    digits_of other (room * group) (number_of base digits) ++ digits_of other room (number_of base (take count (drop (count * group) digits)))
    ≡ digits_of other (room * group + room) (number_of base digits)
group_of_digits base other count room group digits fit some same =
    let number = number_of base digits in
    let rest = drop (count * group) digits in
    let powers : other ^ (room * group) ≡ base ^ (count * group) =
    power_of_power other room group ∙ ap (λ (n : ℕ). n ^ group) (sym same) ∙ sym (power_of_power base count group) in
    let upper : number / other ^ (room * group) ≡ number_of base rest =
    ap (λ (n : ℕ). number / n) powers ∙ number_of-drop base (count * group) digits fit in
    let here : number_of base rest % other ^ room ≡ number_of base (take count rest) =
    ap (λ (n : ℕ). number_of base rest % n) (sym same)
    ∙ number_of-take base count rest (All-drop (λ (d : ℕ). d < base) (count * group) digits fit) in
    sym (digits_of-add other (room * group) room number
    ∙ ap (λ (n : ℕ). digits_of other (room * group) number ++ digits_of other room n) upper
    ∙ ap (λ (part : List ℕ). digits_of other (room * group) number ++ part)
    (sym (digits_of-mod other room (number_of base rest) some) ∙ ap (λ (n : ℕ). digits_of other room n) here))
