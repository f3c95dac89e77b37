-- The bytes of a line are as many as the addresses that it goes through.
use Rattle.std.proofs.Common.{◌≡◌, ℕ, ◌+◌, ◌*◌, ◌<◌, ◌^◌, Bool, true, false, not, List, [], ◌∷◌, ◌++◌, Result, Ok, Err, length, refl, ap, ◌∙◌, arith, length-append, if◌then◌else◌}
use Rattle.std.specs.Prelude.{IsOkAnd}
use Rattle.std.proofs.lemmas.List.{length-replicate}
use Rattle.std.specs.Int.{to_le_bytes, w32}
use Rattle.sec_base.specs.Width.{width_bytes}
use Rattle.sec_base.proofs.NumberBytes.{length-number_bytes}
use Rattle.sec_base.specs.declared.width.Width.{Width}
use Rattle.rv32_decode.specs.Encoding.{word_of}
use Rattle.rv32_asm_syntax.specs.declared.fault.AsmFault.{AsmFault}
use Rattle.rv32_asm_syntax.specs.declared.fault.AsmFault.TheVariants.{Range, Missing}
use Rattle.rv32_asm.specs.PassSteps.{behind_line}
use Rattle.rv32_asm.specs.Emission.{with_more}
use Rattle.rv32_asm.specs.Encoding.{encoded_bytes, code_from, values_bytes, encoded_at, is_in_range, misses_label, value_bytes}
use Rattle.rv32_asm_syntax.specs.Expressions.{Expression}
use Rattle.rv32_asm.specs.Labels.{Label}
use Rattle.rv32_asm.specs.Layout.{is_misplaced, size_at}
use Rattle.rv32_asm.specs.Passes.{address_behind, statement_bytes, line_bytes}
use Rattle.rv32_asm_syntax.specs.Reading.{statement_of}
use Rattle.rv32_asm_syntax.specs.Statements.{Instruction, Statement, Instructions, Data, Bytes, Zeros, Aligned, Nothing}
use Rattle.rv32_asm.specs.Values.{modulo, value_of}

-- ---- a line by its statement

module _ (labels : List Label) (address : ℕ) (line : List ℕ) where
  pub bytes_fault : (fault : AsmFault) → statement_of line ≡ Err fault → line_bytes labels address line ≡ Err fault
  unfolding line_bytes
  bytes_fault fault e = rw e refl

  pub bytes_are : (statement : Statement) → statement_of line ≡ Ok statement →
      line_bytes labels address line ≡ statement_bytes labels address statement
  unfolding line_bytes
  bytes_are statement e = rw e refl

behind_are : (address : ℕ) (line : List ℕ) (statement : Statement) → statement_of line ≡ Ok statement →
    behind_line address line ≡ address_behind address statement
unfolding behind_line
behind_are address line statement e = rw e refl

stands : (misplaced : Bool) (next : ℕ) → IsOkAnd {E = AsmFault} (if misplaced then Err Range else Ok next) (λ n. n < 2 ^ 32) →
    (misplaced ≡ false) × (next < 2 ^ 32)
stands true next e = absurd e
stands false next e = (refl, e)

pub placed : (address : ℕ) (line : List ℕ) (statement : Statement) → statement_of line ≡ Ok statement →
    IsOkAnd (behind_line address line) (λ next. next < 2 ^ 32) →
    (is_misplaced address statement ≡ false) × (address + size_at address statement < 2 ^ 32)
placed address line statement e ends =
    stands (is_misplaced address statement) (address + size_at address statement)
    (rw (behind_are address line statement e) at ends)

-- ---- how many bytes

code_long : (labels : List Label) (address : ℕ) (is : List Instruction) → length (code_from labels address is) ≡ 4 * length is
code_long labels address [] = refl
code_long labels address (i ∷ is) =
    let rest = code_long labels (address + 4) is in
    length-append (to_le_bytes w32 (word_of (encoded_at labels address i))) (code_from labels (address + 4) is) ∙ omega (arith, rest)

data_long : (width : Width) (labels : List Label) (es : List Expression) →
    length (values_bytes labels width es) ≡ width_bytes width * length es
data_long width labels [] = omega arith
data_long width labels (e ∷ es) =
    let rest = data_long width labels es in
    let one = length-number_bytes width (modulo (8 * width_bytes width) (value_of labels e)) in
    length-append (value_bytes width (value_of labels e)) (values_bytes labels width es)
    ∙ omega (arith, rest, one)

bytes_long : (labels : List Label) (address : ℕ) (statement : Statement) →
    length (encoded_bytes labels address statement) ≡ size_at address statement
unfolding encoded_bytes size_at
bytes_long labels address (Instructions is) = code_long labels address is
bytes_long labels address (Data width es) = data_long width labels es
bytes_long labels address (Bytes bytes) = refl
bytes_long labels address (Zeros number) = length-replicate _ 0
bytes_long labels address (Aligned number) = length-replicate _ 0
bytes_long labels address Nothing = refl

made : (misses fits : Bool) (bytes more : List ℕ) →
    (if misses then Err Missing else if not fits then Err Range else Ok bytes) ≡ Ok more → more ≡ bytes
made true fits bytes more e = cc
made false true bytes more e = cc
made false false bytes more e = cc

emitted_long : (labels : List Label) (address : ℕ) (statement : Statement) (more : List ℕ) →
    statement_bytes labels address statement ≡ Ok more → length more ≡ size_at address statement
emitted_long labels address statement more e =
    ap length (made (misses_label labels statement) (is_in_range labels address statement) (encoded_bytes labels address statement) more e)
    ∙ bytes_long labels address statement

longer : (bytes new : List ℕ) (added : Result (List ℕ) AsmFault) (size : ℕ) → ((more : List ℕ) → added ≡ Ok more → length more ≡ size) →
    with_more bytes added ≡ Ok new → length new ≡ length bytes + size
longer bytes new (Ok more) size long e =
    let same : new ≡ bytes ++ more = cc in
    let known = long more refl in
    ap length same ∙ (length-append bytes more ∙ omega (arith, known))
longer bytes new (Err fault) size long e = cc

pub grown : (labels : List Label) (bytes new line : List ℕ) (statement : Statement) → statement_of line ≡ Ok statement →
    is_misplaced (length bytes) statement ≡ false → with_more bytes (statement_bytes labels (length bytes) statement) ≡ Ok new →
    behind_line (length bytes) line ≡ Ok (length new)
grown labels bytes new line statement e ok put =
    let long = longer bytes new (statement_bytes labels (length bytes) statement) (size_at (length bytes) statement)
    (emitted_long labels (length bytes) statement) put in
    rw (behind_are (length bytes) line statement e, ok, long) refl
