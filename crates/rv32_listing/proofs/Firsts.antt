-- The first line of bytes.
use Rattle.std.proofs.Common.{◌≡◌, ◌<◌, ◌≤◌, ℕ, ◌+◌, List, [], ◌∷◌, ◌++◌, length, drop, slice_index, refl, sym, ap, arith}
use Rattle.std.specs.Int.{w32, from_le_bytes}
use Rattle.rv32_listing.specs.Lines.{byte_line, bytes_lines, word_line}

pub word_first : (address : ℕ) (bytes : List ℕ) (word : ℕ) → 4 ≤ length bytes →
    word ≡ from_le_bytes w32 (slice_index bytes 0 ∷ slice_index bytes 1 ∷ slice_index bytes 2 ∷ slice_index bytes 3 ∷ []) →
    bytes_lines address bytes ≡ word_line address word ++ bytes_lines (address + 4) (drop 4 bytes)
unfolding bytes_lines
word_first address (a ∷ b ∷ c ∷ d ∷ bytes) word many same = ap (λ (w : ℕ). word_line address w ++ bytes_lines (address + 4) bytes) (sym same)
word_first address (a ∷ b ∷ c ∷ []) word many same = absurd (omega arith)
word_first address (a ∷ b ∷ []) word many same = absurd (omega arith)
word_first address (a ∷ []) word many same = absurd (omega arith)
word_first address [] word many same = absurd (omega arith)

pub byte_first : (address : ℕ) (bytes : List ℕ) → 0 < length bytes → length bytes < 4 →
    bytes_lines address bytes ≡ byte_line address (slice_index bytes 0) ++ bytes_lines (address + 1) (drop 1 bytes)
unfolding bytes_lines
byte_first address (a ∷ b ∷ c ∷ d ∷ bytes) some few = absurd (omega arith)
byte_first address (a ∷ b ∷ c ∷ []) some few = refl
byte_first address (a ∷ b ∷ []) some few = refl
byte_first address (a ∷ []) some few = refl
byte_first address [] some few = absurd (omega arith)

pub none_left : (address : ℕ) (bytes : List ℕ) → length bytes ≡ 0 → bytes_lines address bytes ≡ []
unfolding bytes_lines
none_left address [] none = refl
none_left address (byte ∷ bytes) none = absurd (omega arith)
