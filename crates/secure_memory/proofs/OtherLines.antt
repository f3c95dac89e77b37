-- A number that is put in a line leaves the other lines.
use Rattle.std.proofs.Common.{◌≡◌, ◌≢◌, inl, inr, ℕ, ◌+◌, ◌*◌, ◌/◌, ◌%◌, ◌≤◌, List, ◌++◌, length, take, drop, ap, sym, ◌∙◌, arith, append_assoc, length-append, length-drop}
use Rattle.std.proofs.lemmas.Bool.{cases_lt}
use Rattle.std.proofs.lemmas.List.{take-append-le, take-append-drop, drop-append-le, length-take}
use Rattle.std.proofs.lemmas.Slice.{drop-append-drop}
use Rattle.sec_base.specs.declared.width.Width.{Width}
use Rattle.sec_base.specs.declared.width.Width.TheVariants.{One, Two, Four}
use Rattle.sec_base.specs.Lines.{line_at}
use Rattle.sec_base.proofs.NumberBytes.{length-number_bytes}
use Rattle.sec_base.specs.Width.{number_bytes, width_bytes, with_number}

in_line : (address : ℕ) (width : Width) → address % width_bytes width ≡ 0 → address % 64 + width_bytes width ≤ 64
in_line address One aligned = omega arith
in_line address Two aligned = omega arith
in_line address Four aligned = omega arith

-- a line before what changes
line_before : (front back back' : List ℕ) (line : ℕ) → 64 * line + 64 ≤ length front → line_at (front ++ back) line ≡ line_at (front ++ back') line
line_before front back back' line inside =
    let alone : (more : List ℕ) → line_at (front ++ more) line ≡ line_at front line = λ more.
    ap (take 64) (drop-append-le (64 * line) front more (omega (arith, inside)))
    ∙ take-append-le 64 (drop (64 * line) front) more (omega (arith, inside, length-drop (64 * line) front)) in
    alone back ∙ sym (alone back')

pub other_line : (contents : List ℕ) (address value line : ℕ) (width : Width) → address % width_bytes width ≡ 0 → address + width_bytes width ≤ length contents →
    line ≢ address / 64 → line_at (with_number contents address width value) line ≡ line_at contents line
other_line contents address value line width aligned inside apart =
    let within : address % 64 + width_bytes width ≤ 64 = in_line address width aligned in
    let bytes : List ℕ = number_bytes width value in
    let rest : List ℕ = drop (address + width_bytes width) contents in
    elim (cases_lt line (address / 64)) [
      | inl before ↦
          ap (λ (xs : List ℕ). line_at xs line) (append_assoc (take address contents) bytes rest)
          ∙ line_before (take address contents) (bytes ++ rest) (drop address contents) line (omega (arith, inside, before, length-take address contents))
          ∙ ap (λ (xs : List ℕ). line_at xs line) (take-append-drop address contents)
      | inr behind ↦
          ap (take 64) (drop-append-drop (address + width_bytes width) contents (take address contents ++ bytes) (64 * line) (omega (arith, within, apart, behind))
          (omega (arith, inside, length-take address contents, length-append (take address contents) bytes, length-number_bytes width value)))
    ]
