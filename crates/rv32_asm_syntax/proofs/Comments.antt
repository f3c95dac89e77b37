-- A line is read up to its comment.
use Rattle.std.proofs.Common.{◌≡◌, ℕ, ◌+◌, ◌<◌, ◌≤◌, true, false, ◌&&◌, List, ◌++◌, length, get_or, take, drop, refl, eqb, append_assoc}
use Rattle.std.proofs.lemmas.List.{at_drop_more, at_drop_all, take_more, append-nil}
use Rattle.rv32_asm_syntax.specs.Lines.{Quoting, before_comment, quoting_after, is_outside}

pub goes_on : (line : List ℕ) (i d : ℕ) (s : Quoting) → i < length line → (is_outside s && eqb (get_or line i d) 35) ≡ false → take (i + 1) line ++ before_comment (quoting_after s (get_or line i d)) (drop (i + 1) line) ≡ take i line ++ before_comment s (drop i line)
goes_on line i d s below other =
    rw (take_more line i d below, append_assoc, at_drop_more (before_comment s) line i d below, other) refl

pub stops : (line : List ℕ) (i d : ℕ) (s : Quoting) → i < length line → (is_outside s && eqb (get_or line i d) 35) ≡ true → take i line ++ before_comment s (drop i line) ≡ take i line
stops line i d s below hash = rw (at_drop_more (before_comment s) line i d below, hash) (append-nil (take i line))

pub ends : (line : List ℕ) (i : ℕ) (s : Quoting) → length line ≤ i → take i line ++ before_comment s (drop i line) ≡ take i line
ends line i s past = rw (at_drop_all (before_comment s) line i past) (append-nil (take i line))
