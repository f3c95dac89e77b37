-- The S-box and its inverse.
use Rattle.std.proofs.Common.{◌≡◌, ℕ, zero, suc, ◌+◌, ◌-◌, ◌<◌, ◌≤◌, Bool, true, false, refl, inl, inr, lit<, arith}
use Rattle.std.specs.Prelude.{◌==◌, if◌then◌else◌}
use Rattle.std.proofs.lemmas.Bool.{eqb-true, cases_lt}
use Rattle.aes128_block.specs.Field.{polynomial_product, remainder, product}
use Rattle.aes128_block.specs.SBox.{inverse_below, inverse, affine_bit, byte_of_bits, affine, s_box}
use Rattle.aes128_block.specs.InverseCipher.{inv_affine_bit, inv_affine, inv_s_box}
use Rattle.aes128_block.specs.Tables.{all_below}
use Rattle.aes128_block.proofs.TableLemmas.{all_below-each}

-- eight bits make a byte
byte_of_bits-below : (bit : ℕ → ℕ) → ((k : ℕ) → bit k < 2) → byte_of_bits bit < 256
unfolding byte_of_bits
byte_of_bits-below bit bits =
    omega (arith, bits 0, bits 1, bits 2, bits 3, bits 4, bits 5, bits 6, bits 7)

affine-below : (a : ℕ) → affine a < 256
unfolding affine affine_bit
affine-below a = byte_of_bits-below (affine_bit a) (λ k. omega arith)

inv_affine-below : (a : ℕ) → inv_affine a < 256
unfolding inv_affine inv_affine_bit
inv_affine-below a = byte_of_bits-below (inv_affine_bit a) (λ k. omega arith)

pub s_box-below : (a : ℕ) → s_box a < 256
unfolding s_box
s_box-below a = affine-below (inverse a)

chosen-below : (b : Bool) (x y n : ℕ) → x < n → y < n → (if b then x else y) < n
chosen-below true x y n x_below y_below = x_below
chosen-below false x y n x_below y_below = y_below

inverse_below-below : (n a : ℕ) → n ≤ 256 → inverse_below n a < 256
unfolding inverse_below
inverse_below-below zero a within = lit< tt
inverse_below-below (suc u) a within =
    chosen-below (product a u == 1) u (inverse_below u a) 256 (omega arith) (inverse_below-below u a (omega arith))

inverse-below : (a : ℕ) → inverse a < 256
unfolding inverse
inverse-below a = inverse_below-below 256 a (omega arith)

pub inv_s_box-below : (a : ℕ) → inv_s_box a < 256
unfolding inv_s_box
inv_s_box-below a = inverse-below (inv_affine a)

-- the inverse of the inverse of a byte is the byte: computed, in two halves
inverse-inverse_low : all_below 128 (λ a. inverse (inverse a) == a) ≡ true
unfolding polynomial_product remainder product inverse_below inverse all_below
inverse-inverse_low = refl

inverse-inverse_high : all_below 128 (λ a. inverse (inverse (a + 128)) == a + 128) ≡ true
unfolding polynomial_product remainder product inverse_below inverse all_below
inverse-inverse_high = refl

inverse-inverse : (a : ℕ) → a < 256 → inverse (inverse a) ≡ a
inverse-inverse a below =
    elim (cases_lt a 128) [
      | inl low ↦ eqb-true _ _ (all_below-each 128 _ inverse-inverse_low a low)
      | inr high ↦
          let back : a - 128 + 128 ≡ a = omega arith in
          rw back at (eqb-true _ _ (all_below-each 128 _ inverse-inverse_high (a - 128) (omega arith)))
    ]

-- the affine map and its inverse, computed at each byte
affine_table : all_below 256 (λ a. inv_affine (affine a) == a) ≡ true
unfolding affine_bit affine inv_affine_bit inv_affine byte_of_bits all_below
affine_table = refl

inv_affine_table : all_below 256 (λ a. affine (inv_affine a) == a) ≡ true
unfolding affine_bit affine inv_affine_bit inv_affine byte_of_bits all_below
inv_affine_table = refl

inv_affine-affine : (a : ℕ) → a < 256 → inv_affine (affine a) ≡ a
inv_affine-affine a below = eqb-true _ _ (all_below-each 256 _ affine_table a below)

affine-inv_affine : (a : ℕ) → a < 256 → affine (inv_affine a) ≡ a
affine-inv_affine a below = eqb-true _ _ (all_below-each 256 _ inv_affine_table a below)

pub inv_s_box-s_box : (a : ℕ) → a < 256 → inv_s_box (s_box a) ≡ a
unfolding s_box inv_s_box
inv_s_box-s_box a below = rw (inv_affine-affine (inverse a) (inverse-below a)) (inverse-inverse a below)

pub s_box-inv_s_box : (a : ℕ) → a < 256 → s_box (inv_s_box a) ≡ a
unfolding s_box inv_s_box
s_box-inv_s_box a below = rw (inverse-inverse (inv_affine a) (inv_affine-below a)) (affine-inv_affine a below)
