-- Bytes of two parts.
use Rattle.std.proofs.Common.{◌≡◌, ℕ, ◌+◌, List, [], ◌++◌, length, length-drop, take, drop, ap, ◌∙◌, sym, arith}
use Rattle.std.proofs.lemmas.Grind.{common_steps}
use Rattle.std.proofs.lemmas.List.{append-nil, take_all}
use Rattle.std.proofs.Math.Seq.{take-append_seam, drop-append_seam}
use borrow.Rule.Slice.PartMut.{put_mid}

pub two_parts : (bytes : List ℕ) (m n : ℕ) → length bytes ≡ m + n → take m bytes ++ take n (drop m bytes) ≡ bytes
two_parts bytes m n whole = grind (arith, common_steps)

pub back_part : (bytes : List ℕ) (m n : ℕ) → length bytes ≡ m + n → take n (drop m bytes) ≡ drop m bytes
back_part bytes m n whole = take_all n (drop m bytes) (omega (arith, length-drop m bytes, whole))

-- a front and a back, in place of zeros
pub joined : (front zeros back : List ℕ) → length front ≡ 64 → length zeros ≡ 16 → length back ≡ 16 →
    put_mid 64 16 (front ++ zeros) back ≡ front ++ back
joined front zeros back f z b =
    let whole : take 64 (front ++ zeros) ≡ front = ap (λ (n : ℕ). take n (front ++ zeros)) (sym f) ∙ take-append_seam front zeros in
    let rest : drop 64 (front ++ zeros) ≡ zeros = ap (λ (n : ℕ). drop n (front ++ zeros)) (sym f) ∙ drop-append_seam front zeros in
    let none : drop 16 zeros ≡ [] = grind (arith, common_steps) in
    rw (whole, rest, none) (ap (λ (l : List ℕ). front ++ l) (append-nil back))
