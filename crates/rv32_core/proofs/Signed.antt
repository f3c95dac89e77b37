-- Words read in two's complement, as Rust's casts do.
use Rattle.std.proofs.Common.{◌≡◌, ◌<◌, ◌^◌, ℕ, suc, ◌-◌, ◌-ℤ◌, pos, negsuc, refl, inl, inr, lt-ltb, le-ltb, w32}
use Rattle.std.proofs.lemmas.Bool.{cases_lt}
use Rattle.std.specs.Int.{cast_signed}
use Rattle.rv32_decode.specs.Words.{signed_number}

below_zero : (a : ℕ) → a < 2 ^ 32 → pos a -ℤ pos (2 ^ 32) ≡ negsuc (2 ^ 32 - suc a)
below_zero a below = rw (lt-ltb a (2 ^ 32) below) refl

pub signed_word : (a : ℕ) → a < 2 ^ 32 → signed_number 32 a ≡ cast_signed w32 a
signed_word a below =
    elim (cases_lt a (2 ^ 31)) [
      | inl less ↦ rw (lt-ltb a (2 ^ 31) less) refl
      | inr more ↦ rw (le-ltb a (2 ^ 31) more) (below_zero a below)
    ]
