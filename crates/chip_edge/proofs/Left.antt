-- What a reader has left, out of what was read of it.
use Rattle.std.proofs.Common.{◌≡◌, ◌<◌, ◌≤◌, ◌∙◌, ◌++◌, subst, ℕ, List, [], length, min, take, Option, Some, None, IfSome, option_map, arith}
use Rattle.std.proofs.lemmas.List.{length-take, take_all}

-- fewer bytes than were wanted are all
pub all_left : (left : Option (List ℕ)) (wanted limit : ℕ) (bytes : List ℕ) → limit < wanted → IfSome (option_map (take wanted) left) (λ xs. bytes ≡ [] ++ xs) → length bytes ≤ limit →
    IfSome left (λ xs. bytes ≡ xs)
all_left None wanted limit bytes more is short = tt
all_left (Some left) wanted limit bytes more is short =
    let cut : length (take wanted left) ≤ limit = subst (λ (l : List ℕ). length l ≤ limit) is short in
    let least : min wanted (length left) ≤ limit = subst (λ (n : ℕ). n ≤ limit) (length-take wanted left) cut in
    is ∙ take_all wanted left (omega arith)
