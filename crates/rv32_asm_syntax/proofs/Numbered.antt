-- The names of registers are searched by number.
use Rattle.std.proofs.Common.{◌≡◌, ℕ, ◌+◌, ◌-◌, ◌/◌, ◌%◌, ◌<◌, ◌≤◌, ◌++◌, Bool, true, false, List, [], ◌∷◌, refl, arith, nat_lt, suc}
use Rattle.std.specs.Prelude.{codes, decimal, find, Some, None, if◌then◌else◌}
use Rattle.std.specs.Fmt.{digits}
use Rattle.std.specs.List.{range_with_len}
use Rattle.std.specs.Str.{bytes_eq}
use Rattle.std.proofs.lemmas.Bool.{agree_below_at}
use Rattle.std.proofs.lemmas.Slice.Eq.{bytes_eq-Decides}

-- a number's digits where it has two at most
abbrev short : ℕ → List ℕ
short n = if nat_lt n 10 then 120 ∷ (48 + n) ∷ [] else 120 ∷ (48 + n / 10) ∷ (48 + n % 10) ∷ []

spelled : (n : ℕ) → n < 32 → codes "x" ++ decimal n ≡ short n
unfolding digits
spelled n below =
    (bytes_eq-Decides (codes "x" ++ decimal n) (short n)).0
    (agree_below_at (λ each. bytes_eq (codes "x" ++ decimal each) (short each)) (λ each. true) 32 n refl below)

pub one_digit : (n : ℕ) (name : List ℕ) → n < 10 → bytes_eq name (120 ∷ (48 + n) ∷ []) ≡ bytes_eq name (codes "x" ++ decimal n)
one_digit n name below = let e : nat_lt n 10 ≡ true = grind arith in rw (spelled n (omega arith), e) refl

pub two_digits : (n : ℕ) (name : List ℕ) → 10 ≤ n → n < 32 → bytes_eq name (120 ∷ (48 + n / 10) ∷ (48 + n % 10) ∷ []) ≡ bytes_eq name (codes "x" ++ decimal n)
two_digits n name above below = let e : nat_lt n 10 ≡ false = grind arith in rw (spelled n below, e) refl

pub first_number : (n m : ℕ) → n < m → range_with_len n (m - n) ≡ n ∷ range_with_len (n + 1) (m - (n + 1))
first_number n m below = let e : m - n ≡ suc (m - (n + 1)) = omega arith in rw e refl

pub found : (p : ℕ → Bool) (n m : ℕ) → n < m → p n ≡ true → find p (range_with_len n (m - n)) ≡ Some n
found p n m below e = rw (first_number n m below, e) refl

pub goes_on : (p : ℕ → Bool) (n m : ℕ) → n < m → p n ≡ false → find p (range_with_len (n + 1) (m - (n + 1))) ≡ find p (range_with_len n (m - n))
goes_on p n m below e = rw (first_number n m below, e) refl

pub none_left : (p : ℕ → Bool) (n m : ℕ) → m ≤ n → find p (range_with_len n (m - n)) ≡ None
none_left p n m above = let e : m - n ≡ 0 = omega arith in rw e refl
