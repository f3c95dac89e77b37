-- Each text of a word is read back as the word, and each text of an instruction as the instruction's word.
use Rattle.std.proofs.Common.{◌≡◌, ℕ, ◌+◌, ◌%◌, ◌^◌, ◌<◌, ◌≤◌, ◌==◌, ◌||◌, Bool, true, false, List, [], ◌∷◌, Option, Some, None, if◌then◌else◌, refl, ap, sym, subst, ◌∙◌, inl, inr, ◌⊎◌, arith}
use Rattle.std.proofs.lemmas.Bool.{cases_Bool, cases_eq, eqb-true, ne_eqb, or_cases}
use Rattle.rv32_decode.proofs.Both.{instruction_fields, instruction_word, word_below, word_instruction}
use Rattle.rv32_decode.specs.Decoding.{instruction_of}
use Rattle.rv32_decode.specs.Encoding.{IsInst, field_bits, word_of}
use Rattle.rv32_decode.specs.Table.{row_of}
use Rattle.rv32_decode.specs.declared.Inst.{Inst}
use Rattle.rv32_decode.specs.declared.table.Format.{Format}
use Rattle.rv32_decode.specs.declared.table.Format.TheVariants.{Fieldless}
use Rattle.rv32_text.specs.Mnemonics.{mnemonic_of}
use Rattle.rv32_text.specs.Style.{style_of}
use Rattle.rv32_text.specs.Text.{data_text, instruction_text, is_unnamed_fence, operand_texts, text_of, text_of_word, text_or_data}
use Rattle.rv32_text.specs.declared.style.Style.{Style}
use Rattle.rv32_text.specs.declared.style.Style.TheVariants.{Registers, Immediate, Offset, Store, Upper, Branch, Jump, Fence, Bare}
use Rattle.sec_base.specs.declared.width.Width.TheVariants.{Four}
use Rattle.rv32_asm_syntax.specs.Expressions.{number_alone}
use Rattle.rv32_asm_syntax.specs.Keywords.{immediate_without_operands}
use Rattle.rv32_asm.specs.Law.{IsReadBack}
use Rattle.rv32_asm_syntax.specs.Statements.{Data, Instructions, instruction}
use Rattle.std.proofs.Common.{pos}
use Rattle.rv32_asm.proofs.Alone.{bare_pattern, ebreak_back, ecall_back, fence_back, fence_i_back, is_bare}
use Rattle.rv32_asm.proofs.TextKeywords.{has_format, keyword_read, name_is_word, style_format}
use Rattle.rv32_asm.proofs.Readings.{IsWordBack, data_is, data_line, data_plain, instruction_is, read_back}
use Rattle.rv32_asm.proofs.Styled.{is_spoken, styled}

abbrev is_fence : Style → Bool
is_fence Fence = true
is_fence _ = false

spoken_text : (s : Style) (w : ℕ) (x y : List ℕ) → is_spoken s ≡ true → (if is_unnamed_fence s w then x else y) ≡ y
spoken_text Fence w x y spoken = cc
spoken_text Bare w x y spoken = cc
spoken_text Registers w x y spoken = refl
spoken_text Immediate w x y spoken = refl
spoken_text Offset w x y spoken = refl
spoken_text Store w x y spoken = refl
spoken_text Upper w x y spoken = refl
spoken_text Branch w x y spoken = refl
spoken_text Jump w x y spoken = refl

fence_text : (s : Style) (w : ℕ) (x y : List ℕ) → is_fence s ≡ true → (w == 0x0ff0000f) ≡ false →
    (w == 0x0000100f) ≡ false → (if is_unnamed_fence s w then x else y) ≡ x
fence_text Fence w x y fence e f = rw (e, f) refl
fence_text _ w x y fence e f = cc

bare_left : (s : Style) → is_spoken s ≡ false → is_fence s ≡ false → is_bare s ≡ true
bare_left Bare spoken fence = refl
bare_left _ spoken fence = cc

placed_bare : (s : Style) (f : Format) (i : Inst) → is_bare s ≡ true → has_format s f ≡ true → field_bits f i ≡ 0
unfolding field_bits
placed_bare Bare Fieldless i bare ok = refl
placed_bare _ _ i bare ok = cc

module _ (size word address : ℕ) (below : word < 2 ^ 32) (aligned : address % 4 ≡ 0) (inside : address + 4 ≤ size) where
  data_back : text_of_word word address ≡ data_text word → IsWordBack size word address
  data_back e =
      read_back size word address (data_text word) (Data Four (number_alone (pos word) ∷ [])) e
      (data_plain word below) (data_line word below) inside (data_is word address below)

  module _ (i : Inst) (found : instruction_of word ≡ Some i) where
    text_found : text_of_word word address ≡ text_of i address
    unfolding text_of_word
    text_found = ap (λ o. text_or_data o word address) found

    spoken_back : is_spoken (style_of i.op) ≡ true → IsWordBack size word address
    unfolding text_of
    spoken_back spoken =
        let s = (style_of i.op) in
        let name = (mnemonic_of i.op) in
        let fields = instruction_fields word i found in
        let text = instruction_text name (operand_texts s i address) in
        let same : text_of_word word address ≡ text
        = text_found ∙ spoken_text s (word_of i) (data_text (word_of i)) text spoken in
        let read = styled i address name (name_is_word i.op) (immediate_without_operands i.op) fields.rd fields.rs1 fields.rs2
        s (row_of i.op).format spoken (style_format i.op) fields.format (keyword_read i.op) in
        read_back size word address text (Instructions (instruction i.op read.rd read.rs1 read.rs2 read.value ∷ [])) same
        read.plain read.means inside
        (instruction_is word address i.op read.rd read.rs1 read.rs2 read.value aligned read.fits
        (ap word_of read.same ∙ instruction_word word i below found))

    fence_data : is_fence (style_of i.op) ≡ true → (word == 0x0ff0000f) ≡ false → (word == 0x0000100f) ≡ false →
        IsWordBack size word address
    unfolding text_of
    fence_data fence e f =
        let s = (style_of i.op) in
        let w = sym (instruction_word word i below found) in
        let text = instruction_text (mnemonic_of i.op) (operand_texts s i address) in
        data_back (text_found
        ∙ (fence_text s (word_of i) (data_text (word_of i)) text fence (ap (λ v. v == 0x0ff0000f) (sym w) ∙ e) (ap (λ v. v == 0x0000100f) (sym w) ∙ f)
        ∙ ap data_text (sym w)))

    bare_word : is_bare (style_of i.op) ≡ true → (word ≡ 0x73) ⊎ (word ≡ 0x100073)
    unfolding word_of
    bare_word bare =
        let none = placed_bare (style_of i.op) (row_of i.op).format i bare (style_format i.op) in
        let same = instruction_word word i below found in
        let is : word ≡ (row_of i.op).pattern = omega arith in
        let either : ((row_of i.op).pattern == 0x73 || (row_of i.op).pattern == 0x100073) ≡ true
        = rw bare at (bare_pattern i.op) in
        elim (or_cases ((row_of i.op).pattern == 0x73) ((row_of i.op).pattern == 0x100073) either) [
          | inl e ↦ inl (is ∙ eqb-true (row_of i.op).pattern 0x73 e)
          | inr e ↦ inr (is ∙ eqb-true (row_of i.op).pattern 0x100073 e)
        ]

  text_none : instruction_of word ≡ None → text_of_word word address ≡ data_text word
  unfolding text_of_word
  text_none e = ap (λ o. text_or_data o word address) e

  at_ecall : word ≡ 0x73 → IsWordBack size word address
  at_ecall e = subst (λ w. IsWordBack size w address) (sym e) (ecall_back size address aligned inside)

  at_ebreak : word ≡ 0x100073 → IsWordBack size word address
  at_ebreak e = subst (λ w. IsWordBack size w address) (sym e) (ebreak_back size address aligned inside)

  some_back : (i : Inst) → instruction_of word ≡ Some i → (word == 0x0ff0000f) ≡ false → (word == 0x0000100f) ≡ false →
      IsWordBack size word address
  some_back i found e f =
      elim (cases_Bool (is_spoken (style_of i.op))) [
        | inl spoken ↦ spoken_back i found spoken
        | inr silent ↦ elim (cases_Bool (is_fence (style_of i.op))) [
          | inl fence ↦ fence_data i found fence e f
          | inr other ↦ elim (bare_word i found (bare_left (style_of i.op) silent other)) [
            | inl w ↦ at_ecall w
            | inr w ↦ at_ebreak w
          ]
        ]
      ]

  any_back : (o : Option Inst) → instruction_of word ≡ o → (word == 0x0ff0000f) ≡ false → (word == 0x0000100f) ≡ false →
      IsWordBack size word address
  any_back None found e f = data_back (text_none found)
  any_back (Some i) found e f = some_back i found e f

  pub word_back : IsWordBack size word address
  word_back =
      elim (cases_eq word 0x0ff0000f) [
        | inl e ↦ subst (λ w. IsWordBack size w address) (sym e) (fence_back size address aligned inside)
        | inr e ↦ elim (cases_eq word 0x0000100f) [
          | inl f ↦ subst (λ w. IsWordBack size w address) (sym f) (fence_i_back size address aligned inside)
          | inr f ↦ any_back (instruction_of word) refl (ne_eqb word 0x0ff0000f e) (ne_eqb word 0x0000100f f)
        ]
      ]

pub instruction_back : (size address : ℕ) (i : Inst) → IsInst i → address % 4 ≡ 0 → address + 4 ≤ size →
    IsReadBack size (text_of i address) (word_of i) address
instruction_back size address i formed aligned inside =
    let word = word_of i in
    let below = word_below i formed in
    subst (λ text. IsReadBack size text word address)
    (text_found size word address below aligned inside i (word_instruction i formed))
    (word_back size word address below aligned inside)
