-- A number inside a line of a memory is a number of the whole memory.
use Rattle.std.proofs.Common.{◌≡◌, ◌⊎◌, ℕ, ◌+◌, ◌-◌, ◌*◌, ◌/◌, ◌%◌, ◌≤◌, List, ◌++◌, take, drop, refl, sym, ap, ◌∙◌, inl, inr, arith, append_assoc}
use Rattle.std.proofs.lemmas.List.{drop-take, take-take, drop-drop, take-append-drop}
use Rattle.std.proofs.Math.Seq.{take-add}
use Rattle.std.specs.Int.{from_le_bytes}
use Rattle.sec_base.specs.declared.width.Width.{Width}
use Rattle.sec_base.specs.declared.width.Width.TheVariants.{One, Two, Four}
use Rattle.sec_base.specs.Lines.{line_at, with_line}
use Rattle.sec_base.specs.Width.{width_bytes, int_width, number_bytes, number_at, with_number}

-- an aligned number stands in one line
one_line : (address : ℕ) (width : Width) → address % width_bytes width ≡ 0 → address % 64 + width_bytes width ≤ 64
one_line address One aligned = omega arith
one_line address Two aligned = omega arith
one_line address Four aligned = omega arith

-- a part that stands in a front part
part_of_front : (bytes : List ℕ) (at count size : ℕ) → at + count ≤ size →
    take count (drop at (take size bytes)) ≡ take count (drop at bytes)
part_of_front bytes at count size inside =
    let split : size ≡ at + (size - at) = omega arith in
    ap (λ (n : ℕ). take count (drop at (take n bytes))) split
    ∙ ap (take count) (drop-take at (size - at) bytes)
    ∙ take-take count (size - at) (drop at bytes) (omega arith)

-- the number at a place of a line
line_number : (contents : List ℕ) (line at address : ℕ) (width : Width) → address ≡ 64 * line + at → at + width_bytes width ≤ 64 →
    number_at (line_at contents line) at width ≡ number_at contents address width
line_number contents line at address width place inside =
    ap (from_le_bytes (int_width width))
    (part_of_front (drop (64 * line) contents) at (width_bytes width) 64 inside
    ∙ ap (take (width_bytes width)) (drop-drop at (64 * line) contents ∙ ap (λ (n : ℕ). drop n contents) (sym place)))

-- what stands before a place of a line, in the memory
line_front : (contents : List ℕ) (line at : ℕ) → at ≤ 64 →
    take (64 * line) contents ++ take at (line_at contents line) ≡ take (64 * line + at) contents
line_front contents line at inside =
    ap (λ (front : List ℕ). take (64 * line) contents ++ front) (take-take at 64 (drop (64 * line) contents) inside)
    ∙ sym (take-add (64 * line) at contents)

-- what stands from a place of a line on, in the memory
line_rest : (contents : List ℕ) (line at : ℕ) → at ≤ 64 →
    drop at (line_at contents line) ++ drop (64 * line + 64) contents ≡ drop (64 * line + at) contents
line_rest contents line at inside =
    let more = 64 - at in
    let split : 64 ≡ at + more = omega arith in
    let last : 64 * line + 64 ≡ 64 * line + at + more = omega arith in
    let rest : List ℕ = drop (64 * line + at) contents in
    let front : drop at (line_at contents line) ≡ take more rest =
    ap (λ (n : ℕ). drop at (take n (drop (64 * line) contents))) split
    ∙ drop-take at more (drop (64 * line) contents)
    ∙ ap (take more) (drop-drop at (64 * line) contents) in
    let behind : drop (64 * line + 64) contents ≡ drop more rest =
    ap (λ (n : ℕ). drop n contents) last ∙ sym (drop-drop more (64 * line + at) contents) in
    rw (front, behind, take-append-drop more rest) refl

-- a list in a list
joined : (first before piece after last front rest : List ℕ) → first ++ before ≡ front → after ++ last ≡ rest →
    first ++ (before ++ piece ++ after) ++ last ≡ front ++ piece ++ rest
joined first before piece after last front rest e f = rw (← e, ← f) (simp append_assoc)

-- the memory with a number put in a line
with_line_number : (contents : List ℕ) (line at address : ℕ) (width : Width) (value : ℕ) → address ≡ 64 * line + at →
    at + width_bytes width ≤ 64 →
    with_line contents line (with_number (line_at contents line) at width value) ≡ with_number contents address width value
with_line_number contents line at address width value place within =
    joined (take (64 * line) contents) (take at (line_at contents line)) (number_bytes width value)
    (drop (at + width_bytes width) (line_at contents line)) (drop (64 * line + 64) contents)
    (take address contents) (drop (address + width_bytes width) contents)
    (line_front contents line at (omega arith) ∙ ap (λ (n : ℕ). take n contents) (sym place))
    (line_rest contents line (at + width_bytes width) within ∙ ap (λ (n : ℕ). drop n contents) (omega arith))

-- a number that is read from its line
pub number_read : (contents bytes : List ℕ) (address value : ℕ) (width : Width) → address % width_bytes width ≡ 0 →
    bytes ≡ line_at contents (address / 64) → value ≡ number_at bytes (address % 64) width → value ≡ number_at contents address width
number_read contents bytes address value width aligned line is =
    is ∙ ap (λ (xs : List ℕ). number_at xs (address % 64) width) line
    ∙ line_number contents (address / 64) (address % 64) address width (omega arith) (one_line address width aligned)

-- a number that is put in its line
pub number_written : (contents mid whole bytes changed : List ℕ) (address value : ℕ) (width : Width) → address % width_bytes width ≡ 0 →
    bytes ≡ line_at contents (address / 64) → mid ≡ contents → changed ≡ with_number bytes (address % 64) width value →
    whole ≡ with_line mid (address / 64) changed → whole ≡ with_number contents address width value
number_written contents mid whole bytes changed address value width aligned line same number is =
    is ∙ ap (λ (xs : List ℕ). with_line xs (address / 64) changed) same
    ∙ ap (with_line contents (address / 64)) (number ∙ ap (λ (xs : List ℕ). with_number xs (address % 64) width value) line)
    ∙ with_line_number contents (address / 64) (address % 64) address width value (omega arith) (one_line address width aligned)

-- and where that was refused
pub number_refused : (contents mid whole bytes changed : List ℕ) (address value : ℕ) (width : Width) → address % width_bytes width ≡ 0 →
    bytes ≡ line_at contents (address / 64) → mid ≡ contents → changed ≡ with_number bytes (address % 64) width value →
    (whole ≡ mid) ⊎ (whole ≡ with_line mid (address / 64) changed) →
    (whole ≡ contents) ⊎ (whole ≡ with_number contents address width value)
number_refused contents mid whole bytes changed address value width aligned line same number (inl kept) = inl (kept ∙ same)
number_refused contents mid whole bytes changed address value width aligned line same number (inr written) =
    inr (number_written contents mid whole bytes changed address value width aligned line same number written)
