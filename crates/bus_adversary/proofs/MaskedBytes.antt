-- Bytes that are xored one after another.
use Rattle.bus_adversary.specs.PlaceBytes.{with_mask}
use Rattle.std.proofs.Common.{List, [], add-one, ap, arith, bit_xor, drop, drop-cons, length, refl, slice_index, slice_set, suc, zero, ℕ, ◌+◌, ◌<◌, ◌∙◌, ◌∷◌, ◌≡◌}

-- one more byte of the mask
mask_first : (offset bits : ℕ) (mask bytes : List ℕ) → offset < length bytes →
    with_mask offset (bits ∷ mask) bytes ≡ with_mask (suc offset) mask (slice_set bytes offset (bit_xor (slice_index bytes offset) bits))
mask_first offset bits mask [] inside = absurd (omega arith)
mask_first zero bits mask (byte ∷ bytes) inside = refl
mask_first (suc offset) bits mask (byte ∷ bytes) inside =
    ap (λ (l : List ℕ). byte ∷ l) (mask_first offset bits mask bytes (omega arith))

pub mask_more : (offset i : ℕ) (mask bytes : List ℕ) → i < length mask → offset + i < length bytes →
    with_mask (offset + i) (drop i mask) bytes
    ≡ with_mask (offset + (i + 1)) (drop (i + 1) mask) (slice_set bytes (offset + i) (bit_xor (slice_index bytes (offset + i)) (slice_index mask i)))
mask_more offset i mask bytes inside there =
    let next : suc (offset + i) ≡ offset + suc i = omega arith in
    rw (add-one, drop-cons mask i 0)
    (mask_first (offset + i) (slice_index mask i) (drop (suc i) mask) bytes there
    ∙ ap (λ (n : ℕ). with_mask n (drop (suc i) mask) (slice_set bytes (offset + i) (bit_xor (slice_index bytes (offset + i)) (slice_index mask i)))) next)
