-- The steps of the second pass, from line to line.
use Rattle.std.proofs.Common.{◌≡◌, ℕ, ◌+◌, ◌<◌, ◌≤◌, ◌^◌, Bool, true, false, List, [], ◌∷◌, ◌++◌, Result, Ok, Err, length, refl, sym, ap, ◌∙◌, inl, inr, arith, if◌then◌else◌}
use Rattle.std.specs.Prelude.{IsOkAnd}
use Rattle.std.proofs.lemmas.List.{append-nil}
use Rattle.rv32_asm_syntax.specs.Characters.{trim_blanks}
use Rattle.rv32_asm_syntax.specs.declared.fault.AsmFault.{AsmFault}
use Rattle.rv32_asm_syntax.specs.declared.fault.AsmFault.TheVariants.{Range}
use Rattle.rv32_asm.specs.PassSteps.{IsNextLine, behind_line, end_of, error_in_line}
use Rattle.rv32_asm.specs.declared.fault.AsmError.{AsmError}
use Rattle.rv32_asm.specs.declared.fault.AsmError.TheVariants as errors
use Rattle.rv32_asm_syntax.specs.declared.fault.LineError.{LineError}
use Rattle.rv32_asm_syntax.specs.declared.fault.LineError.TheVariants.{Fault, NoMemory}
use Rattle.rv32_asm.specs.Emission.{with_more}
use Rattle.rv32_asm.specs.Encoding.{encoded_bytes, is_in_range, misses_label}
use Rattle.rv32_asm.specs.Labels.{Label}
use Rattle.rv32_asm.specs.Layout.{is_misplaced, size_at}
use Rattle.rv32_asm_syntax.specs.Lines.{lines_of, statement_text, without_comment}
use Rattle.rv32_asm.specs.Passes.{LineFault, address_behind, in_line, line_bytes, second_pass, ◌>>=◌}
use Rattle.rv32_asm_syntax.specs.Reading.{statement_of}
use Rattle.rv32_asm_syntax.specs.Statements.{Statement, Nothing}

-- ---- an empty line does nothing

pub nothing_said : statement_of [] ≡ Ok Nothing
unfolding statement_of statement_text without_comment trim_blanks
nothing_said = refl

nothing_emitted : (labels : List Label) (address : ℕ) → line_bytes labels address [] ≡ Ok []
unfolding line_bytes misses_label is_in_range encoded_bytes
nothing_emitted labels address = rw nothing_said refl

nothing_behind : (address : ℕ) → behind_line address [] ≡ Ok address
unfolding behind_line is_misplaced size_at
nothing_behind address = rw nothing_said (ap Ok (omega arith))

pub last_bytes : (labels : List Label) (number : ℕ) (bytes : List ℕ) → second_pass labels number bytes (lines_of []) ≡ Ok bytes
unfolding lines_of second_pass
last_bytes labels number bytes = rw (nothing_emitted labels (length bytes)) (ap Ok (append-nil bytes))

pub last_end : (address : ℕ) → end_of address (lines_of []) ≡ Ok address
unfolding lines_of end_of
last_end address = rw (nothing_behind address) refl

-- ---- one line

bind_same : {X Y E : Type 0} (r : Result X E) (f g : X → Result Y E) → ((x : X) → f x ≡ g x) → (r >>= f) ≡ (r >>= g)
bind_same (Ok x) f g same = same x
bind_same (Err e) f g same = refl

module _ (text line rest : List ℕ) (next : IsNextLine text line rest) where
  module _ (labels : List Label) (number : ℕ) (bytes : List ℕ) where
    abbrev onward : List ℕ → Result (List ℕ) LineFault
    onward more = second_pass labels (number + 1) (bytes ++ more) (lines_of rest)

    bytes_step : second_pass labels number bytes (lines_of text) ≡ (in_line number (line_bytes labels (length bytes) line) >>= onward)
    unfolding second_pass
    bytes_step = elim next [
      | inl e ↦ rw e refl
      | inr e ↦ rw (e.0, e.1)
          (bind_same (in_line number (line_bytes labels (length bytes) line)) _ _
          (λ more. sym (last_bytes labels (number + 1) (bytes ++ more))))
    ]

    goes_on : (made : Result (List ℕ) AsmFault) (new : List ℕ) → with_more bytes made ≡ Ok new →
        (in_line number made >>= onward) ≡ second_pass labels (number + 1) new (lines_of rest)
    goes_on (Ok more) new e = let same : bytes ++ more ≡ new = cc in rw same refl
    goes_on (Err fault) new e = cc

    pub bytes_on : (new : List ℕ) → with_more bytes (line_bytes labels (length bytes) line) ≡ Ok new →
        second_pass labels (number + 1) new (lines_of rest) ≡ second_pass labels number bytes (lines_of text)
    bytes_on new e = sym (bytes_step ∙ goes_on (line_bytes labels (length bytes) line) new e)

    pub bytes_stop : (fault : AsmFault) → line_bytes labels (length bytes) line ≡ Err fault →
        second_pass labels number bytes (lines_of text) ≡ Err (record { line = number; code = fault })
    bytes_stop fault e = bytes_step ∙ (rw e refl)

  module _ (address : ℕ) where
    end_step : end_of address (lines_of text) ≡ (behind_line address line >>= λ after. end_of after (lines_of rest))
    unfolding end_of
    end_step = elim next [
      | inl e ↦ rw e refl
      | inr e ↦ rw (e.0, e.1) (bind_same (behind_line address line) _ _ (λ after. sym (last_end after)))
    ]

    pub end_on : (after : ℕ) → behind_line address line ≡ Ok after → end_of after (lines_of rest) ≡ end_of address (lines_of text)
    end_on after e = sym (end_step ∙ (rw e refl))

-- ---- addresses only rise

rises : (misplaced : Bool) (address size after : ℕ) → (if misplaced then Err Range else Ok (address + size)) ≡ Ok after → address ≤ after
rises true address size after e = cc
rises false address size after e = let same : address + size ≡ after = cc in omega arith

risen : (read : Result Statement AsmFault) (address after : ℕ) → (read >>= address_behind address) ≡ Ok after → address ≤ after
risen (Ok statement) address after e = rises (is_misplaced address statement) address (size_at address statement) after e
risen (Err fault) address after e = cc

line_rises : (address : ℕ) (line : List ℕ) (after : ℕ) → behind_line address line ≡ Ok after → address ≤ after
unfolding behind_line
line_rises address line after e = risen (statement_of line) address after e

abbrev bound : Result ℕ AsmFault → List (List ℕ) → Result ℕ AsmFault
bound there lines = there >>= λ after. end_of after lines

along : (there : Result ℕ AsmFault) (lines : List (List ℕ)) (address end : ℕ) → ((after : ℕ) → there ≡ Ok after → address ≤ after) →
    ((after : ℕ) → end_of after lines ≡ Ok end → after ≤ end) → bound there lines ≡ Ok end → address ≤ end
along (Ok after) lines address end first later e =
    let one = first after refl in
    let others = later after e in
    omega arith
along (Err fault) lines address end first later e = cc

end_rises : (lines : List (List ℕ)) (address end : ℕ) → end_of address lines ≡ Ok end → address ≤ end
unfolding end_of
end_rises [] address end e = let same : address ≡ end = cc in omega arith
end_rises (line ∷ lines) address end e =
    along (behind_line address line) lines address end (line_rises address line) (λ after. end_rises lines after end) e

inside : (there : Result ℕ AsmFault) (lines : List (List ℕ)) (end : ℕ) → bound there lines ≡ Ok end → end < 2 ^ 32 →
    IsOkAnd there (λ after. after < 2 ^ 32)
inside (Ok after) lines end e small = let below = end_rises lines after end e in omega arith
inside (Err fault) lines end e small = cc

pub line_inside : (text line rest : List ℕ) (address end : ℕ) → IsNextLine text line rest → end_of address (lines_of text) ≡ Ok end →
    end < 2 ^ 32 → IsOkAnd (behind_line address line) (λ after. after < 2 ^ 32)
line_inside text line rest address end next e small =
    inside (behind_line address line) (lines_of rest) end (sym (end_step text line rest next address) ∙ e) small

-- ---- no more lines

pub bytes_done : (labels : List Label) (number : ℕ) (bytes rest : List ℕ) → length rest ≡ 0 →
    second_pass labels number bytes (lines_of rest) ≡ Ok bytes
bytes_done labels number bytes [] e = last_bytes labels number bytes
bytes_done labels number bytes (byte ∷ rest) e = absurd (omega arith)

same_end : (r : Result ℕ AsmFault) (address end : ℕ) → r ≡ Ok address → r ≡ Ok end → address ≡ end
same_end r address end e f = cc

pub end_done : (address end : ℕ) (rest : List ℕ) → length rest ≡ 0 → end_of address (lines_of rest) ≡ Ok end → address ≡ end
end_done address end [] e there = same_end (end_of address (lines_of [])) address end (last_end address) there
end_done address end (byte ∷ rest) e there = absurd (omega arith)

-- ---- errors

pub told : (number : ℕ) (error : LineError) (result : AsmError) (line : ℕ) (code : AsmFault) → result ≡ error_in_line number error →
    result ≡ errors.Fault line code → (error ≡ Fault code) × (line ≡ number)
told number (Fault other) result line code e f = (cc, cc)
told number NoMemory result line code e f = cc
