-- Bytes as elements of the field GF(2^8), by FIPS 197 (2001, as updated in 2023); section numbers
-- here and in the files beside this one are the standard's. A byte is the polynomial over GF(2) in
-- which the coefficient of x^k is its bit k (4).
use Rattle.std.specs.Prelude.{ℕ, zero, suc, ◌+◌, ◌*◌, ◌/◌, ◌%◌, ◌^◌, bit_xor}

infixl 6 ◌⊕◌
-- the sum of two polynomials over GF(2), of two bytes or of two words: their xor (4.1)
abbrev pub ◌⊕◌ : ℕ → ℕ → ℕ
a ⊕ b = bit_xor a b

-- the coefficient of x^k in a polynomial (4)
abbrev pub coefficient : ℕ → ℕ → ℕ
coefficient a k = a / 2 ^ k % 2

-- the product of two polynomials, a of degree below n: the sum of b x^k over the terms x^k of a (4.2)
unfoldable pub polynomial_product : ℕ → ℕ → ℕ → ℕ
polynomial_product zero a b = 0
polynomial_product (suc k) a b = polynomial_product k a b ⊕ coefficient a k * (b * 2 ^ k)

-- the remainder of a polynomial of degree below n + 8 modulo x^8 + x^4 + x^3 + x + 1 (4.2): from the
-- top down, each x^(n + 8) is taken away by that polynomial times x^n
unfoldable pub remainder : ℕ → ℕ → ℕ
remainder zero a = a
remainder (suc n) a = remainder n (a ⊕ coefficient a (n + 8) * (0x11b * 2 ^ n))

-- the product of two bytes (4.2)
unfoldable pub product : ℕ → ℕ → ℕ
product a b = remainder 7 (polynomial_product 8 a b)
