-- The texts of words, one line after another, are the program of the words.
use Rattle.std.proofs.Common.{◌≡◌, ℕ, suc, ◌+◌, ◌*◌, ◌%◌, ◌^◌, ◌<◌, ◌≤◌, All, List, [], ◌∷◌, ◌++◌, Ok, length, length-append, refl, ap, sym, ◌∙◌, arith}
use Rattle.std.specs.List.{flat_map}
use Rattle.std.specs.Int.{w32, to_le_bytes}
use Rattle.std.proofs.lemmas.List.Elements.{All-head, All-tail}
use Rattle.std.proofs.lemmas.List.{append-nil, append_assoc}
use Rattle.rv32_text.specs.Text.{text_of_word}
use Rattle.rv32_asm_syntax.specs.Lines.{lines_of}
use Rattle.rv32_asm.specs.Program.{assembled_program}
use Rattle.rv32_asm.specs.Labels.{Label}
use Rattle.rv32_asm.specs.Law.{source, TextsAreProgram}
use Rattle.rv32_asm.specs.Passes.{Progress, after_line, first_pass, line_bytes, second_pass}
use Rattle.rv32_asm.proofs.Law.{word_back}
use Rattle.rv32_asm.proofs.FirstSteps.{pass_done}
use Rattle.rv32_asm.proofs.SecondSteps.{last_bytes}

abbrev at : ℕ → Progress
at address = record { address = address; labels = [] }

abbrev bytes_of : List ℕ → List ℕ
bytes_of words = flat_map (to_le_bytes w32) words

module _ (size : ℕ) where
  first_line : (number address : ℕ) (line : List ℕ) (lines : List (List ℕ)) → after_line size number (at address) line ≡ Ok (at (address + 4)) →
      first_pass size number (at address) (line ∷ lines) ≡ first_pass size (number + 1) (at (address + 4)) lines
  unfolding first_pass
  first_line number address line lines passed = rw passed refl

  first_words : (words : List ℕ) (number address : ℕ) → All (λ word. word < 2 ^ 32) words → address % 4 ≡ 0 → address + 4 * length words ≤ size →
      first_pass size number (at address) (lines_of (source address words)) ≡ Ok (at (address + 4 * length words))
  first_words [] number address small aligned inside =
      let none : address + 4 * 0 ≡ address = omega arith in
      pass_done size number (at address) [] (omega (arith, inside)) refl ∙ ap (λ (a : ℕ). Ok (at a)) (sym none)
  first_words (word ∷ words) number address small aligned inside =
      let back = word_back size word address (All-head (λ word. word < 2 ^ 32) word words small) aligned (omega (arith, inside)) in
      let text = text_of_word word address in
      let next : address + 4 + 4 * length words ≡ address + 4 * suc (length words) = omega arith in
      ap (first_pass size number (at address)) (back.followed (source (address + 4) words))
      ∙ first_line number address text (lines_of (source (address + 4) words)) (back.in_first_pass number (at address) refl)
      ∙ first_words words (number + 1) (address + 4) (All-tail (λ word. word < 2 ^ 32) word words small) (omega (arith, aligned)) (omega (arith, inside))
      ∙ ap (λ (a : ℕ). Ok (at a)) next

  second_line : (labels : List Label) (number : ℕ) (bytes line more : List ℕ) (lines : List (List ℕ)) → line_bytes labels (length bytes) line ≡ Ok more →
      second_pass labels number bytes (line ∷ lines) ≡ second_pass labels (number + 1) (bytes ++ more) lines
  unfolding second_pass
  second_line labels number bytes line more lines is = rw is refl

  second_words : (words : List ℕ) (labels : List Label) (number : ℕ) (bytes : List ℕ) → All (λ word. word < 2 ^ 32) words → length bytes % 4 ≡ 0 → length bytes + 4 * length words ≤ size →
      second_pass labels number bytes (lines_of (source (length bytes) words)) ≡ Ok (bytes ++ bytes_of words)
  second_words [] labels number bytes small aligned inside = last_bytes labels number bytes ∙ ap Ok (sym (append-nil bytes))
  second_words (word ∷ words) labels number bytes small aligned inside =
      let address = length bytes in
      let back = word_back size word address (All-head (λ word. word < 2 ^ 32) word words small) aligned (omega (arith, inside)) in
      let text = text_of_word word address in
      let more = bytes ++ to_le_bytes w32 word in
      let longer : length more ≡ length bytes + 4 = length-append bytes (to_le_bytes w32 word) in
      ap (second_pass labels number bytes) (back.followed (source (address + 4) words))
      ∙ second_line labels number bytes text (to_le_bytes w32 word) (lines_of (source (address + 4) words)) (back.in_second_pass labels)
      ∙ ap (λ (a : ℕ). second_pass labels (number + 1) more (lines_of (source a words))) (sym longer)
      ∙ second_words words labels (number + 1) more (All-tail (λ word. word < 2 ^ 32) word words small) (omega (arith, longer, aligned)) (omega (arith, longer, inside))
      ∙ ap Ok (append_assoc bytes (to_le_bytes w32 word) (bytes_of words))

  pub words_assembled : TextsAreProgram size
  unfolding assembled_program
  words_assembled words small inside =
      let first = first_words words 1 0 small refl (omega (arith, inside)) in
      let second = second_words words [] 1 [] small refl (omega (arith, inside)) in
      rw (first, second) refl
