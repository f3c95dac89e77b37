-- Two's complement: numbers of a few bits, read as signed, and the bits of signed numbers.
use Rattle.std.proofs.Common.{◌≡◌, ℕ, ℤ, pos, negsuc, ◌≤ℤ◌, ◌-ℤ◌, ◌+◌, ◌-◌, ◌^◌, ◌<◌, ◌≤◌, ◌⊎◌, nat_lt, if◌then◌else◌, suc, refl, inl, inr, arith}
use Rattle.std.proofs.lemmas.Bool.{cases_lt, le-ltb, lt-ltb}
use Rattle.std.proofs.lemmas.Int.{ints}
use Rattle.std.specs.Int.{cast_unsigned, w32}

-- `suc h` numbers are read as they are, and as many as negative; `suc m` is how many there are
abbrev pub complement : ℕ → ℕ → ℕ → ℤ
complement h m n = if nat_lt n (suc h) then pos n else pos n -ℤ pos (suc m)

-- n is the bits of z, where there are `suc m` numbers
abbrev pub Spells : ℕ → ℕ → ℤ → Type 0
Spells m n (pos a) = n ≡ a
Spells m n (negsuc a) = n + suc a ≡ suc m

module _ (h m : ℕ) (sizes : m ≡ h + suc h) where
  pub complement_spelled : (z : ℤ) (n : ℕ) → negsuc h ≤ℤ z → z ≤ℤ pos h → Spells m n z → complement h m n ≡ z
  complement_spelled (pos a) n low high e =
      let small : n < suc h = omega (arith, ints) in
      rw (lt-ltb n (suc h) small, e) refl
  complement_spelled (negsuc a) n low high e =
      let below : a ≤ h = omega (arith, ints) in
      let large : suc h ≤ n = omega arith in
      let size : n < suc m = omega arith in
      let back : suc m - suc n ≡ a = omega arith in
      rw (le-ltb n (suc h) large, lt-ltb n (suc m) size, back) refl

  pub complement_range : (n : ℕ) → n < suc m → (negsuc h ≤ℤ complement h m n) × (complement h m n ≤ℤ pos h)
  complement_range n below =
      elim (cases_lt n (suc h)) [
        | inl t ↦ rw (lt-ltb n (suc h) t) (omega (arith, ints), omega (arith, ints))
        | inr t ↦ rw (le-ltb n (suc h) t, lt-ltb n (suc m) below) (omega (arith, ints), omega (arith, ints))
      ]

  -- the word of what was read is the number, with copies of its top bit above
  pub complement_word : (n : ℕ) → n < suc m → suc m ≤ 2 ^ 32 → ((n < suc h) × (cast_unsigned w32 (complement h m n) ≡ n)) ⊎ ((suc h ≤ n) × (cast_unsigned w32 (complement h m n) + suc m ≡ n + 2 ^ 32))
  complement_word n below top =
      elim (cases_lt n (suc h)) [
        | inl t ↦ inl (t, rw (lt-ltb n (suc h) t) refl)
        | inr t ↦ inr (t, rw (le-ltb n (suc h) t, lt-ltb n (suc m) below) (omega arith))
      ]

  pub complement_at_most : (n k : ℕ) → n < suc m → (n < suc h → n ≤ k) → complement h m n ≤ℤ pos k
  complement_at_most n k below most =
      elim (cases_lt n (suc h)) [
        | inl t ↦ (let small : n ≤ k = most t in rw (lt-ltb n (suc h) t) (omega (arith, ints)))
        | inr t ↦ rw (le-ltb n (suc h) t, lt-ltb n (suc m) below) (omega (arith, ints))
      ]
