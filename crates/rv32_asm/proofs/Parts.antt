-- The upper and the lower part of a word make it again.
use Rattle.std.proofs.Common.{◌≡◌, ℕ, ◌+◌, ◌*◌, ◌/◌, ◌%◌, ◌^◌, ◌<◌, ◌≤◌, pos, ◌+ℤ◌, ◌-ℤ◌, refl, ap, ◌∙◌, inl, inr, arith}
use Rattle.std.specs.Prelude.{unsigned_abs}
use Rattle.std.proofs.lemmas.Bool.{cases_lt, lt-ltb, le-ltb}
use Rattle.std.proofs.lemmas.Int.{ints, int_rem_euclid_is}
use Rattle.rv32_asm.specs.Law.{PartsMakeWord}

abbrev upper : ℕ → ℕ
upper word = (word + 2048) / 4096 % 1048576

low_sum : (u n : ℕ) → pos (u * 4096) +ℤ pos n +ℤ pos (0 * 4294967296) ≡ pos (u * 4096 + n)
low_sum u n = omega (arith, ints)

high_sum : (u n : ℕ) → pos (u * 4096) +ℤ (pos n -ℤ pos 4096) +ℤ pos (1 * 4294967296) ≡ pos (u * 4096 + n + 4294963200)
high_sum u n = omega (arith, ints)

low_word : (word : ℕ) → word < 4294967296 → word % 4096 < 2048 → (upper word * 4096 + word % 4096) % 4294967296 ≡ word
low_word word below low = omega arith

high_word : (word : ℕ) → word < 4294967296 → 2048 ≤ word % 4096 → (upper word * 4096 + word % 4096 + 4294963200) % 4294967296 ≡ word
high_word word below high = omega arith

low_parts : (word : ℕ) → word < 2 ^ 32 → word % 4096 < 2048 → PartsMakeWord word
low_parts word below low =
    rw (lt-ltb (word % 4096) 2048 low)
    (ap unsigned_abs (int_rem_euclid_is (pos (upper word * 4096) +ℤ pos (word % 4096)) (pos 4294967296) 4294967296 0 (upper word * 4096 + word % 4096) (omega arith) refl (low_sum (upper word) (word % 4096)))
    ∙ low_word word below low)

high_parts : (word : ℕ) → word < 2 ^ 32 → 2048 ≤ word % 4096 → PartsMakeWord word
high_parts word below high =
    rw (le-ltb (word % 4096) 2048 high)
    (ap unsigned_abs (int_rem_euclid_is (pos (upper word * 4096) +ℤ (pos (word % 4096) -ℤ pos 4096)) (pos 4294967296) 4294967296 1 (upper word * 4096 + word % 4096 + 4294963200) (omega arith) refl (high_sum (upper word) (word % 4096)))
    ∙ high_word word below high)

pub parts_back : (word : ℕ) → word < 2 ^ 32 → PartsMakeWord word
parts_back word below =
    elim (cases_lt (word % 4096) 2048) [
      | inl low ↦ low_parts word below low
      | inr high ↦ high_parts word below high
    ]
