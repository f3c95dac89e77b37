-- Parts of bytes.
use Rattle.std.proofs.Common.{◌≡◌, ℕ, ◌+◌, List, ◌++◌, length, take, drop, sym, ap, ◌∙◌, arith}
use Rattle.std.proofs.Math.Seq.{take-add}
use Rattle.std.proofs.lemmas.List.{take_all, take_at, drop_at}

-- a piece behind a front part is found there
pub part_at : (front piece rest bytes : List ℕ) (at n : ℕ) → bytes ≡ front ++ (piece ++ rest) → at ≡ length front → n ≡ length piece →
    take n (drop at bytes) ≡ piece
part_at front piece rest bytes at n same begins long =
    ap (λ (xs : List ℕ). take n (drop at xs)) same
    ∙ ap (take n) (drop_at front (piece ++ rest) at (sym begins))
    ∙ take_at piece rest n (sym long)

-- a piece was put behind a front part, at the end of the bytes
pub two_put : (at until : ℕ) (front piece old new : List ℕ) →
    take at old ≡ front → take (at + length piece) new ≡ take at old ++ piece → until ≡ at + length piece → length new ≡ until →
    new ≡ front ++ piece
two_put at until front piece old new was put ends whole =
    sym (take_all until new (omega arith)) ∙ ap (λ (n : ℕ). take n new) ends ∙ put ∙ ap (λ (xs : List ℕ). xs ++ piece) was

-- three parts of 64 bytes are all of 192
pub three_parts : (bytes : List ℕ) → length bytes ≡ 192 →
    take 64 (drop 0 bytes) ++ take 64 (drop 64 bytes) ++ take 64 (drop 128 bytes) ≡ bytes
three_parts bytes long =
    ap (λ (xs : List ℕ). xs ++ take 64 (drop 128 bytes)) (sym (take-add 64 64 bytes))
    ∙ sym (take-add 128 64 bytes)
    ∙ take_all 192 bytes (omega arith)
