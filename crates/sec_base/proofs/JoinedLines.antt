-- Lines of 64 bytes, one after another.
use Rattle.std.proofs.Common.{◌≡◌, ◌≢◌, ℕ, zero, suc, ◌+◌, ◌*◌, ◌<◌, ◌≤◌, List, [], ◌++◌, length, take, drop, refl, ap, sym, ◌∙◌, arith, length-append, length-drop, append_assoc, append-nil, inl, inr}
use Rattle.std.proofs.lemmas.List.{take-append-le, take_at, take_all, drop_at, drop-append-le}
use Rattle.std.proofs.Math.ListN.{drop_of_length-le}
use Rattle.std.proofs.lemmas.Bool.{cases_lt}
use Rattle.sec_base.specs.Lines.{line_at, with_line, joined_lines}

-- there are 64 bytes a line
pub length-joined_lines : (f : ℕ → List ℕ) (lines : ℕ) → ((line : ℕ) → length (f line) ≡ 64) → length (joined_lines f lines) ≡ 64 * lines
unfolding joined_lines
length-joined_lines f zero long = refl
length-joined_lines f (suc lines) long =
    omega (arith, length-append (joined_lines f lines) (f lines), length-joined_lines f lines long, long lines)

-- the same lines, where the functions are the same below their number
pub joined_lines-same : (f g : ℕ → List ℕ) (lines : ℕ) → ((line : ℕ) → line < lines → f line ≡ g line) → joined_lines f lines ≡ joined_lines g lines
unfolding joined_lines
joined_lines-same f g zero same = refl
joined_lines-same f g (suc lines) same =
    ap (λ (front : List ℕ). front ++ f lines) (joined_lines-same f g lines (λ (line : ℕ) (h : line < lines). same line (omega arith)))
    ∙ ap (λ (back : List ℕ). joined_lines g lines ++ back) (same lines (omega arith))

-- a line that stands wholly in the front part
line_front : (front back : List ℕ) (line : ℕ) → 64 * line + 64 ≤ length front → line_at (front ++ back) line ≡ line_at front line
line_front front back line inside =
    ap (take 64) (drop-append-le (64 * line) front back (omega arith))
    ∙ take-append-le 64 (drop (64 * line) front) back (omega (arith, length-drop (64 * line) front))

-- the line behind the front part
line_last : (front back : List ℕ) (line : ℕ) → length front ≡ 64 * line → length back ≡ 64 → line_at (front ++ back) line ≡ back
line_last front back line before long =
    ap (take 64) (drop_at front back (64 * line) before) ∙ take_all 64 back (omega arith)

with_front : (front back bytes : List ℕ) (line : ℕ) → 64 * line + 64 ≤ length front →
    with_line (front ++ back) line bytes ≡ with_line front line bytes ++ back
with_front front back bytes line inside =
    let rest : drop (64 * line + 64) (front ++ back) ≡ drop (64 * line + 64) front ++ back = drop-append-le (64 * line + 64) front back inside in
    let start : take (64 * line) (front ++ back) ≡ take (64 * line) front = take-append-le (64 * line) front back (omega arith) in
    ap (λ (xs : List ℕ). xs ++ bytes ++ drop (64 * line + 64) (front ++ back)) start
    ∙ ap (λ (xs : List ℕ). take (64 * line) front ++ bytes ++ xs) rest
    ∙ sym (append_assoc (take (64 * line) front ++ bytes) (drop (64 * line + 64) front) back)

with_last : (front back bytes : List ℕ) (line : ℕ) → length front ≡ 64 * line → length back ≡ 64 →
    with_line (front ++ back) line bytes ≡ front ++ bytes
with_last front back bytes line before long =
    let rest : drop (64 * line + 64) (front ++ back) ≡ [] = drop_of_length-le (front ++ back) (omega (arith, length-append front back)) in
    let start : take (64 * line) (front ++ back) ≡ front = take_at front back (64 * line) before in
    ap (λ (xs : List ℕ). xs ++ bytes ++ drop (64 * line + 64) (front ++ back)) start
    ∙ ap (λ (xs : List ℕ). front ++ bytes ++ xs) rest
    ∙ append-nil (front ++ bytes)

-- a line among them
pub line_at-joined_lines : (f : ℕ → List ℕ) (lines line : ℕ) → ((line : ℕ) → length (f line) ≡ 64) → line < lines →
    line_at (joined_lines f lines) line ≡ f line
unfolding joined_lines
line_at-joined_lines f zero line long inside = absurd (omega arith)
line_at-joined_lines f (suc lines) line long inside =
    elim (cases_lt line lines) [
      | inl before ↦ line_front (joined_lines f lines) (f lines) line (omega (arith, length-joined_lines f lines long))
          ∙ line_at-joined_lines f lines line long before
      | inr last ↦ let same : line ≡ lines = omega arith in
          rw same (line_last (joined_lines f lines) (f lines) lines (length-joined_lines f lines long) (long lines))
    ]

-- another line in place of one
pub with_line-joined_lines : (f g : ℕ → List ℕ) (lines line : ℕ) (bytes : List ℕ) → ((line : ℕ) → length (f line) ≡ 64) → line < lines →
    g line ≡ bytes → ((other : ℕ) → other ≢ line → g other ≡ f other) → with_line (joined_lines f lines) line bytes ≡ joined_lines g lines
unfolding joined_lines
with_line-joined_lines f g zero line bytes long inside here others = absurd (omega arith)
with_line-joined_lines f g (suc lines) line bytes long inside here others =
    elim (cases_lt line lines) [
      | inl before ↦ let apart : lines ≢ line = omega arith in
          with_front (joined_lines f lines) (f lines) bytes line (omega (arith, length-joined_lines f lines long))
          ∙ ap (λ (front : List ℕ). front ++ f lines) (with_line-joined_lines f g lines line bytes long before here others)
          ∙ ap (λ (back : List ℕ). joined_lines g lines ++ back) (sym (others lines apart))
      | inr last ↦ let same : line ≡ lines = omega arith in
          let front_same : joined_lines f lines ≡ joined_lines g lines =
          joined_lines-same f g lines (λ (other : ℕ) (h : other < lines). let apart : other ≢ line = omega arith in sym (others other apart)) in
          ap (λ (n : ℕ). with_line (joined_lines f lines ++ f lines) n bytes) same
          ∙ with_last (joined_lines f lines) (f lines) bytes lines (length-joined_lines f lines long) (long lines)
          ∙ ap (λ (front : List ℕ). front ++ bytes) front_same
          ∙ ap (λ (back : List ℕ). joined_lines g lines ++ back) (sym here ∙ ap g same)
    ]
