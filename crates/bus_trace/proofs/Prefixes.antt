-- Front parts of lists.
use Rattle.std.proofs.Common.{◌≡◌, ◌⊎◌, ℕ, ◌+◌, List, [], ◌∷◌, ◌++◌, length, inl, inr, refl, ap, ◌∙◌, arith}
use Rattle.std.proofs.lemmas.List.{append-nil, length-append}
use Rattle.sec_base.specs.Prefix.{IsPrefix}

-- of two front parts of one list, one is a front part of the other
pub prefix_either : (a b whole : List ℕ) → IsPrefix a whole → IsPrefix b whole → IsPrefix a b ⊎ IsPrefix b a
prefix_either [] b whole p q = inl (b, refl)
prefix_either (x ∷ a) [] whole p q = inr (x ∷ a, refl)
prefix_either (x ∷ a) (y ∷ b) [] p q = let no : [] ≡ x ∷ (a ++ p.0) = p.1 in absurd (cc)
prefix_either (x ∷ a) (y ∷ b) (z ∷ whole) p q =
    let e : z ∷ whole ≡ x ∷ (a ++ p.0) = p.1 in
    let f : z ∷ whole ≡ y ∷ (b ++ q.0) = q.1 in
    let first : whole ≡ a ++ p.0 = cc (e) in
    let second : whole ≡ b ++ q.0 = cc (f) in
    let head : y ≡ x = cc (e, f) in
    elim (prefix_either a b whole (p.0, first) (q.0, second)) [
      | inl r ↦ inl (r.0, let t : b ≡ a ++ r.0 = r.1 in cc (head, t))
      | inr r ↦ inr (r.0, let t : a ≡ b ++ r.0 = r.1 in cc (head, t))
    ]

no_more : (a b r s : List ℕ) → b ≡ a ++ r → a ≡ b ++ s → b ≡ a
no_more a b [] s e f = e ∙ append-nil a
no_more a b (x ∷ r) s e f =
    let long : length b ≡ length a + length (x ∷ r) = ap length e ∙ length-append a (x ∷ r) in
    let short : length a ≡ length b + length s = ap length f ∙ length-append b s in
    absurd (omega (arith, long, short))

-- two that begin each other are one
pub prefix_same : (a b : List ℕ) → IsPrefix a b → IsPrefix b a → b ≡ a
prefix_same a b p q = no_more a b p.0 q.0 p.1 q.1
