-- The steps of the loops that make a statement's bytes.
use Rattle.std.proofs.Common.{◌≡◌, ℕ, ◌+◌, ◌<◌, ◌≤◌, ℤ, Bool, true, false, not, List, [], ◌∷◌, ◌++◌, Option, Some, None, Result, Ok, Err, length, get_or, drop, refl, sym, ap, ◌∙◌, append_assoc, length-append, if◌then◌else◌}
use Rattle.std.proofs.lemmas.List.{at_drop_more, append-nil, drop_all}
use Rattle.std.specs.Int.{to_le_bytes, w32}
use Rattle.std.specs.List.{list_any}
use Rattle.sec_base.specs.declared.width.Width.{Width}
use Rattle.rv32_decode.specs.Encoding.{word_of}
use Rattle.rv32_asm_syntax.specs.declared.fault.AsmFault.{AsmFault}
use Rattle.rv32_asm_syntax.specs.declared.fault.AsmFault.TheVariants.{Range}
use Rattle.rv32_asm_syntax.specs.declared.statements.Expression.{Expression}
use Rattle.rv32_asm_syntax.specs.declared.statements.Instruction.{Instruction}
use Rattle.rv32_asm.specs.Emission.{ranged_code, ranged_data, ranged_bytes, with_more}
use Rattle.rv32_asm.specs.Passes.{statement_bytes}
use Rattle.rv32_asm.specs.Encoding.{code_from, values_bytes, data_fits, encoded_at, expressions_in, fit_from, fits_at, fits_width, is_in_range, misses_label, value_bytes}
use Rattle.rv32_asm.specs.Labels.{Label}
use Rattle.rv32_asm_syntax.specs.Seen.{seen_expression, seen_expressions, seen_instruction, seen_instructions}
use Rattle.rv32_asm_syntax.specs.Statements as meant
use Rattle.rv32_asm.specs.Values.{is_missing, value_of}

-- the list from an element on
pub front : {X : Type 0} (xs : List X) (n : ℕ) (x : X) → n < length xs → x ≡ get_or xs n x → drop n xs ≡ x ∷ drop (n + 1) xs
front {X} xs n x inside e = at_drop_more (λ (ys : List X). ys) xs n x inside ∙ ap (λ y. y ∷ drop (n + 1) xs) (sym e)

-- ---- labels that aren't there

abbrev pub code_misses : List Label → List Instruction → Bool
code_misses labels is = list_any (is_missing labels) (expressions_in (meant.Instructions (seen_instructions is)))

abbrev pub data_misses : List Label → List Expression → Bool
data_misses labels es = list_any (is_missing labels) (seen_expressions es)

-- ---- bytes with more behind them

pub fault_in : (bytes : List ℕ) (more : Result (List ℕ) AsmFault) (fault : AsmFault) → with_more bytes more ≡ Err fault → more ≡ Err fault
fault_in bytes (Ok more) fault e = cc
fault_in bytes (Err other) fault e = e

none_added : (bytes : List ℕ) → with_more {E = AsmFault} bytes (Ok []) ≡ Ok bytes
none_added bytes = ap Ok (append-nil bytes)

one_added : (fits : Bool) (bytes one more : List ℕ) →
    with_more (bytes ++ one) (if fits then Ok more else Err Range) ≡ with_more bytes (if fits then Ok (one ++ more) else Err Range)
one_added true bytes one more = ap Ok (append_assoc bytes one more)
one_added false bytes one more = refl

none_is : {X : Type 0} (b : Bool) (x : X) → None ≡ (if b then Some x else None) → b ≡ false
none_is true x e = cc
none_is false x e = refl

some_is : {X : Type 0} (b : Bool) (x y : X) → Some y ≡ (if b then Some x else None) → (b ≡ true) × (y ≡ x)
some_is true x y e = (refl, cc)
some_is false x y e = cc

-- ---- instructions

-- bytes with those of instructions behind them
abbrev pub coded : List Label → List ℕ → List Instruction → Result (List ℕ) AsmFault
coded labels bytes is = with_more bytes (ranged_code labels (length bytes) (seen_instructions is))

-- the word of an instruction at an address, where it fits
abbrev pub word_there : List Label → ℕ → Instruction → Option ℕ
word_there labels address i =
    if fits_at labels address (seen_instruction i) then Some (word_of (encoded_at labels address (seen_instruction i))) else None

code_refused : (labels : List Label) (address : ℕ) (i : Instruction) (is : List Instruction) →
    fits_at labels address (seen_instruction i) ≡ false → ranged_code labels address (seen_instructions (i ∷ is)) ≡ Err Range
unfolding ranged_code
code_refused labels address i is e = rw e refl

code_added : (labels : List Label) (address : ℕ) (bytes : List ℕ) (i : Instruction) (is : List Instruction) →
    fits_at labels address (seen_instruction i) ≡ true →
    with_more (bytes ++ to_le_bytes w32 (word_of (encoded_at labels address (seen_instruction i))))
    (ranged_code labels (address + 4) (seen_instructions is))
    ≡ with_more bytes (ranged_code labels address (seen_instructions (i ∷ is)))
unfolding ranged_code
code_added labels address bytes i is e =
    let more = seen_instructions is in
    rw e
    (one_added (fit_from labels (address + 4) more) bytes
    (to_le_bytes w32 (word_of (encoded_at labels address (seen_instruction i)))) (code_from labels (address + 4) more))

code_none : (labels : List Label) (bytes : List ℕ) → coded labels bytes [] ≡ Ok bytes
unfolding ranged_code
code_none labels bytes = none_added bytes

module _ (labels : List Label) (bytes : List ℕ) (is : List Instruction) (n : ℕ) where
  pub code_done : length is ≤ n → coded labels bytes (drop n is) ≡ Ok bytes
  code_done over = rw (drop_all n is over) (code_none labels bytes)

  module _ (i : Instruction) (inside : n < length is) (here : i ≡ get_or is n i) (address : ℕ) (reached : address ≡ length bytes) where
    pub code_stops : None ≡ word_there labels address i → coded labels bytes (drop n is) ≡ Err Range
    code_stops none =
        let f = rw reached at (none_is (fits_at labels address (seen_instruction i)) _ none) in
        rw (front is n i inside here, code_refused labels (length bytes) i (drop (n + 1) is) f) refl

    pub code_goes_on : (word : ℕ) (new : List ℕ) → Some word ≡ word_there labels address i → new ≡ bytes ++ to_le_bytes w32 word →
        (length new ≡ length bytes + 4) × (coded labels new (drop (n + 1) is) ≡ coded labels bytes (drop n is))
    code_goes_on word new some put =
        let t = rw reached at (some_is (fits_at labels address (seen_instruction i)) _ word some) in
        let long : length new ≡ length bytes + 4 = rw put (length-append bytes (to_le_bytes w32 word)) in
        let all = put ∙ ap (λ w. bytes ++ to_le_bytes w32 w) t.1 in
        (long, rw (front is n i inside here, long, all) (code_added labels (length bytes) bytes i (drop (n + 1) is) t.0))

-- ---- values

abbrev pub listed : List Label → Width → List ℕ → List Expression → Result (List ℕ) AsmFault
listed labels width bytes es = with_more bytes (ranged_data labels width (seen_expressions es))

module _ (labels : List Label) (width : Width) (bytes : List ℕ) where
  data_none : listed labels width bytes [] ≡ Ok bytes
  unfolding ranged_data
  data_none = none_added bytes

  module _ (e : Expression) (es : List Expression) where
    data_refused : fits_width width (value_of labels (seen_expression e)) ≡ false → ranged_data labels width (seen_expressions (e ∷ es)) ≡ Err Range
    unfolding ranged_data
    data_refused f = rw f refl

    data_added : fits_width width (value_of labels (seen_expression e)) ≡ true →
        with_more (bytes ++ value_bytes width (value_of labels (seen_expression e))) (ranged_data labels width (seen_expressions es))
        ≡ with_more bytes (ranged_data labels width (seen_expressions (e ∷ es)))
    unfolding ranged_data
    data_added f =
        rw f
        (one_added (data_fits labels width (seen_expressions es)) bytes (value_bytes width (value_of labels (seen_expression e)))
        (values_bytes labels width (seen_expressions es)))

  module _ (es : List Expression) (n : ℕ) where
    pub data_done : length es ≤ n → listed labels width bytes (drop n es) ≡ Ok bytes
    data_done over = rw (drop_all n es over) data_none

    module _ (e : Expression) (inside : n < length es) (here : e ≡ get_or es n e) (value : ℤ)
        (valued : value ≡ value_of labels (seen_expression e)) where
      pub data_stops : fits_width width value ≡ false → listed labels width bytes (drop n es) ≡ Err Range
      data_stops f =
          let g = rw valued at f in
          rw (front es n e inside here, data_refused e (drop (n + 1) es) g) refl

      pub data_goes_on : (new : List ℕ) → fits_width width value ≡ true → new ≡ bytes ++ value_bytes width value →
          listed labels width new (drop (n + 1) es) ≡ listed labels width bytes (drop n es)
      data_goes_on new f put =
          let g = rw valued at f in
          let all = rw valued at put in
          rw (front es n e inside here, all) (data_added e (drop (n + 1) es) g)

-- ---- statements

chosen : {X : Type 0} (b : Bool) (x y : X) → (if not b then x else y) ≡ (if b then y else x)
chosen true x y = refl
chosen false x y = refl

pub emitted_is : (labels : List Label) (address : ℕ) (statement : meant.Statement) → misses_label labels statement ≡ false →
    statement_bytes labels address statement ≡ ranged_bytes labels address statement
unfolding ranged_bytes
emitted_is labels address statement e = rw e (chosen (is_in_range labels address statement) (Err Range) _)
