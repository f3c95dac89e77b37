-- Sums of polynomials over GF(2), and products as sums of their parts.
use Rattle.std.proofs.Common.{◌≡◌, ℕ, zero, suc, ◌+◌, ◌*◌, ◌%◌, ◌^◌, ◌<◌, refl, sym, arith, zero-mul, one-mul}
use Rattle.std.proofs.Math.Nat.{add-zero}
use Rattle.std.specs.Int.Bits.{xor_assoc, xor_self, xor_zero_r, xor_block}
use Rattle.std.proofs.lemmas.Nat.{xor_comm, pow_pos}
use Rattle.std.proofs.lemmas.Nat.Bits.{bit_at_xor}
use Rattle.aes128_block.specs.Field.{◌⊕◌, coefficient, polynomial_product, remainder, product}

-- what is added twice is taken away
pub add_twice : (a b : ℕ) → a ⊕ b ⊕ b ≡ a
add_twice a b = rw (xor_assoc a b b, xor_self b) (xor_zero_r a)

-- the order of four terms is free
pub exchange : (a b c d : ℕ) → (a ⊕ b) ⊕ (c ⊕ d) ≡ (a ⊕ c) ⊕ (b ⊕ d)
exchange a b c d =
    rw (xor_assoc a b (c ⊕ d), ← xor_assoc b c d, xor_comm b c, xor_assoc c b d, ← xor_assoc a c (b ⊕ d)) refl

-- a shift of a sum
shifted-add : (a b k : ℕ) → (a ⊕ b) * 2 ^ k ≡ a * 2 ^ k ⊕ b * 2 ^ k
shifted-add a b k =
    sym (let whole = xor_block k a b 0 0 (pow_pos k) (pow_pos k) in
    rw (add-zero (a * 2 ^ k), add-zero (b * 2 ^ k), add-zero ((a ⊕ b) * 2 ^ k)) at whole)

-- a bit times a sum
bit_times-add : (c a b : ℕ) → c < 2 → c * (a ⊕ b) ≡ c * a ⊕ c * b
bit_times-add zero a b bit = rw (zero-mul a, zero-mul b, zero-mul (a ⊕ b)) refl
bit_times-add (suc zero) a b bit = rw (one-mul a, one-mul b, one-mul (a ⊕ b)) refl
bit_times-add (suc (suc c)) a b bit = absurd (omega arith)

-- a sum of bits times a number
bits_sum-times : (c d m : ℕ) → c < 2 → d < 2 → (c + d) % 2 * m ≡ c * m ⊕ d * m
bits_sum-times zero zero m c_bit d_bit = rw (zero-mul m) refl
bits_sum-times zero (suc zero) m c_bit d_bit = rw (zero-mul m, one-mul m) refl
bits_sum-times (suc zero) zero m c_bit d_bit = rw (zero-mul m, one-mul m) (sym (xor_zero_r m))
bits_sum-times (suc zero) (suc zero) m c_bit d_bit = rw (zero-mul m, one-mul m) (sym (xor_self m))
bits_sum-times zero (suc (suc d)) m c_bit d_bit = absurd (omega arith)
bits_sum-times (suc zero) (suc (suc d)) m c_bit d_bit = absurd (omega arith)
bits_sum-times (suc (suc c)) d m c_bit d_bit = absurd (omega arith)

coefficient-bit : (a k : ℕ) → coefficient a k < 2
coefficient-bit a k = omega arith

-- the product of polynomials is additive
polynomial_product-add : (n a b c : ℕ)
    → polynomial_product n a (b ⊕ c) ≡ polynomial_product n a b ⊕ polynomial_product n a c
unfolding polynomial_product
polynomial_product-add zero a b c = refl
polynomial_product-add (suc k) a b c =
    let bit = coefficient a k in
    rw (polynomial_product-add k a b c, shifted-add b c k, bit_times-add bit (b * 2 ^ k) (c * 2 ^ k) (coefficient-bit a k))
    (exchange (polynomial_product k a b) (polynomial_product k a c) (bit * (b * 2 ^ k)) (bit * (c * 2 ^ k)))

-- the remainder is additive
remainder-add : (n a b : ℕ) → remainder n (a ⊕ b) ≡ remainder n a ⊕ remainder n b
unfolding remainder
remainder-add zero a b = refl
remainder-add (suc n) a b =
    let m = 0x11b * 2 ^ n in
    rw (
      bit_at_xor a b (n + 8),
      bits_sum-times (coefficient a (n + 8)) (coefficient b (n + 8)) m (coefficient-bit a (n + 8)) (coefficient-bit b (n + 8)),
      exchange a b (coefficient a (n + 8) * m) (coefficient b (n + 8) * m),
    )
    (remainder-add n (a ⊕ coefficient a (n + 8) * m) (b ⊕ coefficient b (n + 8) * m))

-- the product of bytes is additive
pub product-add : (a b c : ℕ) → product a (b ⊕ c) ≡ product a b ⊕ product a c
unfolding product
product-add a b c = rw (polynomial_product-add 8 a b c) (remainder-add 7 (polynomial_product 8 a b) (polynomial_product 8 a c))
