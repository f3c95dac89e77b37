-- The texts in a listing of bytes are the program of the bytes.
use Rattle.std.proofs.Common.{◌≡◌, ℕ, zero, suc, ◌+◌, ◌%◌, ◌^◌, ◌<◌, ◌≤◌, All, List, [], ◌∷◌, ◌++◌, Ok, true, codes, get_or, length, length-append, map, refl, ap, sym, subst, ◌∙◌, arith}
use Rattle.std.specs.Int.{w32, from_le_bytes}
use Rattle.std.specs.List.{join_with_byte, list_all}
use Rattle.std.proofs.lemmas.List.Elements.{All-head, All-tail}
use Rattle.std.proofs.lemmas.List.{append-nil, append_assoc}
use Rattle.std.proofs.lemmas.Nat.{le_bytes_4}
use Rattle.sec_base.specs.Hexadecimal.{hex_digits}
use Rattle.rv32_text.specs.Text.{text_of_word}
use Rattle.rv32_listing.specs.Lines.{byte_line, bytes_lines, word_line}
use Rattle.rv32_listing.specs.Listing.{listing_of}
use Rattle.rv32_asm_syntax.specs.Lines.{lines_of}
use Rattle.rv32_asm.specs.Labels.{Label}
use Rattle.rv32_asm.specs.Law.{ListingsAreProgram, text_column}
use Rattle.rv32_asm.specs.Passes.{Progress, after_line, first_pass, line_bytes, second_pass}
use Rattle.rv32_asm.specs.Program.{assembled_program}
use Rattle.rv32_asm.proofs.ByteTexts.{byte_laid_out, byte_made, byte_plain, byte_text}
use Rattle.rv32_asm.proofs.FirstSteps.{pass_done}
use Rattle.rv32_asm.proofs.Law.{word_back}
use Rattle.rv32_asm.proofs.SecondSteps.{last_bytes}
use Rattle.rv32_asm.proofs.TextLines.{followed_line, prefixed}
use Rattle.rv32_asm.proofs.TextNumbers.{hex_digits_solid}
use Rattle.rv32_asm.proofs.TextOperands.{column_cut, is_solid, solid_plain}

abbrev at : ℕ → Progress
at address = record { address = address; labels = [] }

-- ---- lines and their bytes

-- a line that makes these bytes at an address
record IsLineOf (size address : ℕ) (text bytes : List ℕ) : Type 0 where
  followed : (rest : List ℕ) → lines_of (text ++ 10 ∷ rest) ≡ text ∷ lines_of rest
  laid_out : (number : ℕ) → after_line size number (at address) text ≡ Ok (at (address + length bytes))
  made : (labels : List Label) → line_bytes labels address text ≡ Ok bytes

-- lines with the bytes that they make, one behind another
abbrev AreLinesOf : ℕ → ℕ → List (List ℕ × List ℕ) → Type 0
AreLinesOf size address [] = Unit {0}
AreLinesOf size address (piece ∷ pieces) =
    IsLineOf size address piece.0 piece.1 × AreLinesOf size (address + length piece.1) pieces

-- the lines, and the empty one behind the last line feed
abbrev lines_in : List (List ℕ × List ℕ) → List (List ℕ)
lines_in [] = [] ∷ []
lines_in (piece ∷ pieces) = piece.0 ∷ lines_in pieces

abbrev bytes_in : List (List ℕ × List ℕ) → List ℕ
bytes_in [] = []
bytes_in (piece ∷ pieces) = piece.1 ++ bytes_in pieces

no_text : lines_of [] ≡ [] ∷ []
unfolding lines_of
no_text = refl

some_line : (pieces : List (List ℕ × List ℕ)) → 0 < length (lines_in pieces)
some_line [] = omega arith
some_line (piece ∷ pieces) = omega arith

joined_more : (line : List ℕ) (lines : List (List ℕ)) → 0 < length lines →
    join_with_byte 10 (line ∷ lines) ≡ line ++ 10 ∷ join_with_byte 10 lines
joined_more line [] some = absurd (omega arith)
joined_more line (next ∷ lines) some = refl

module _ (size : ℕ) where
  joined_lines : (pieces : List (List ℕ × List ℕ)) (address : ℕ) → AreLinesOf size address pieces →
      lines_of (join_with_byte 10 (lines_in pieces)) ≡ lines_in pieces
  joined_lines [] address are = no_text
  joined_lines (piece ∷ pieces) address are =
      ap lines_of (joined_more piece.0 (lines_in pieces) (some_line pieces))
      ∙ are.0.followed (join_with_byte 10 (lines_in pieces))
      ∙ ap (λ (lines : List (List ℕ)). piece.0 ∷ lines) (joined_lines pieces (address + length piece.1) are.1)

  first_step : (number address next : ℕ) (line : List ℕ) (lines : List (List ℕ)) → after_line size number (at address) line ≡ Ok (at next) →
      first_pass size number (at address) (line ∷ lines) ≡ first_pass size (number + 1) (at next) lines
  unfolding first_pass
  first_step number address next line lines is = rw is refl

  first_lines : (pieces : List (List ℕ × List ℕ)) (number address : ℕ) → AreLinesOf size address pieces → address + length (bytes_in pieces) ≤ size →
      first_pass size number (at address) (lines_in pieces) ≡ Ok (at (address + length (bytes_in pieces)))
  first_lines [] number address are inside =
      let none : address ≡ address + 0 = omega arith in
      ap (first_pass size number (at address)) (sym no_text)
      ∙ pass_done size number (at address) [] (omega (arith, inside)) refl
      ∙ ap (λ (a : ℕ). Ok (at a)) none
  first_lines (piece ∷ pieces) number address are inside =
      let more = length-append piece.1 (bytes_in pieces) in
      let same : address + length piece.1 + length (bytes_in pieces) ≡ address + length (piece.1 ++ bytes_in pieces) = omega (arith, more) in
      first_step number address (address + length piece.1) piece.0 (lines_in pieces) (are.0.laid_out number)
      ∙ first_lines pieces (number + 1) (address + length piece.1) are.1 (omega (arith, more, inside))
      ∙ ap (λ (a : ℕ). Ok (at a)) same

  second_step : (labels : List Label) (number : ℕ) (bytes line more : List ℕ) (lines : List (List ℕ)) → line_bytes labels (length bytes) line ≡ Ok more →
      second_pass labels number bytes (line ∷ lines) ≡ second_pass labels (number + 1) (bytes ++ more) lines
  unfolding second_pass
  second_step labels number bytes line more lines is = rw is refl

  second_lines : (pieces : List (List ℕ × List ℕ)) (labels : List Label) (number : ℕ) (bytes : List ℕ) → AreLinesOf size (length bytes) pieces →
      second_pass labels number bytes (lines_in pieces) ≡ Ok (bytes ++ bytes_in pieces)
  second_lines [] labels number bytes are =
      ap (second_pass labels number bytes) (sym no_text) ∙ last_bytes labels number bytes ∙ ap Ok (sym (append-nil bytes))
  second_lines (piece ∷ pieces) labels number bytes are =
      second_step labels number bytes piece.0 piece.1 (lines_in pieces) (are.0.made labels)
      ∙ second_lines pieces labels (number + 1) (bytes ++ piece.1)
      (subst (λ (a : ℕ). AreLinesOf size a pieces) (sym (length-append bytes piece.1)) are.1)
      ∙ ap Ok (append_assoc bytes piece.1 (bytes_in pieces))

-- ---- the lines of a listing

-- the texts of bytes from an address on, and the bytes that each of them is of
abbrev pieces : ℕ → List ℕ → List (List ℕ × List ℕ)
pieces address (a ∷ b ∷ c ∷ d ∷ bytes) =
    (text_of_word (from_le_bytes w32 (a ∷ b ∷ c ∷ d ∷ [])) address, a ∷ b ∷ c ∷ d ∷ []) ∷ pieces (address + 4) bytes
pieces address (byte ∷ bytes) = (byte_text byte, byte ∷ []) ∷ pieces (address + 1) bytes
pieces address [] = []

bytes_in-pieces : (address : ℕ) (bytes : List ℕ) → bytes_in (pieces address bytes) ≡ bytes
bytes_in-pieces address [] = refl
bytes_in-pieces address (a ∷ []) = refl
bytes_in-pieces address (a ∷ b ∷ []) = refl
bytes_in-pieces address (a ∷ b ∷ c ∷ []) = refl
bytes_in-pieces address (a ∷ b ∷ c ∷ d ∷ bytes) =
    ap (λ (rest : List ℕ). a ∷ b ∷ c ∷ d ∷ rest) (bytes_in-pieces (address + 4) bytes)

four_small : (a b c d : ℕ) → a < 256 → b < 256 → c < 256 → d < 256 → (i : ℕ) → get_or (a ∷ b ∷ c ∷ d ∷ []) i 0 < 256
four_small a b c d one two three four zero = one
four_small a b c d one two three four (suc zero) = two
four_small a b c d one two three four (suc (suc zero)) = three
four_small a b c d one two three four (suc (suc (suc zero))) = four
four_small a b c d one two three four (suc (suc (suc (suc i)))) = omega arith

module _ (size : ℕ) (small : size < 2 ^ 32) where
  byte_is_line : (address byte : ℕ) → byte < 256 → address + 1 ≤ size → IsLineOf size address (byte_text byte) (byte ∷ [])
  byte_is_line address byte below inside = record {
    followed = λ rest. followed_line (byte_text byte) rest (byte_plain byte below);
    laid_out = λ number. byte_laid_out size address number byte (at address) below inside refl;
    made = λ labels. byte_made labels address byte below;
  }

  word_is_line : (address a b c d : ℕ) → a < 256 → b < 256 → c < 256 → d < 256 → address % 4 ≡ 0 → address + 4 ≤ size →
      IsLineOf size address (text_of_word (from_le_bytes w32 (a ∷ b ∷ c ∷ d ∷ [])) address) (a ∷ b ∷ c ∷ d ∷ [])
  word_is_line address a b c d one two three four aligned inside =
      let word = from_le_bytes w32 (a ∷ b ∷ c ∷ d ∷ []) in
      let below : word < 2 ^ 32 = omega arith in
      let back = word_back size word address below aligned inside in
      let same = le_bytes_4 (a ∷ b ∷ c ∷ d ∷ []) word refl (four_small a b c d one two three four) refl in
      record {
        followed = back.followed;
        laid_out = λ number. back.in_first_pass number (at address) refl;
        made = λ labels. back.in_second_pass labels ∙ ap Ok same;
      }

  abbrev Small : List ℕ → Type 0
  Small bytes = All (λ byte. byte < 256) bytes

  head : (byte : ℕ) (bytes : List ℕ) → Small (byte ∷ bytes) → byte < 256
  head byte bytes all = All-head (λ b. b < 256) byte bytes all

  tail : (byte : ℕ) (bytes : List ℕ) → Small (byte ∷ bytes) → Small bytes
  tail byte bytes all = All-tail (λ b. b < 256) byte bytes all

  are_lines : (address : ℕ) (bytes : List ℕ) → Small bytes → address % 4 ≡ 0 → address + length bytes ≤ size → AreLinesOf size address (pieces address bytes)
  are_lines address [] all aligned inside = tt
  are_lines address (a ∷ []) all aligned inside = (byte_is_line address a (head a [] all) (omega (arith, inside)), tt)
  are_lines address (a ∷ b ∷ []) all aligned inside = (
    byte_is_line address a (head a (b ∷ []) all) (omega (arith, inside)),
    (byte_is_line (address + 1) b (head b [] (tail a (b ∷ []) all)) (omega (arith, inside)), tt),
  )
  are_lines address (a ∷ b ∷ c ∷ []) all aligned inside =
      let two = tail a (b ∷ c ∷ []) all in (
        byte_is_line address a (head a (b ∷ c ∷ []) all) (omega (arith, inside)),
        (
          byte_is_line (address + 1) b (head b (c ∷ []) two) (omega (arith, inside)),
          (byte_is_line (address + 1 + 1) c (head c [] (tail b (c ∷ []) two)) (omega (arith, inside)), tt),
        ),
      )
  are_lines address (a ∷ b ∷ c ∷ d ∷ bytes) all aligned inside =
      let two = tail a (b ∷ c ∷ d ∷ bytes) all in
      let three = tail b (c ∷ d ∷ bytes) two in
      let four = tail c (d ∷ bytes) three in (
        word_is_line address a b c d (head a (b ∷ c ∷ d ∷ bytes) all) (head b (c ∷ d ∷ bytes) two) (head c (d ∷ bytes) three) (head d bytes four) aligned (omega (arith, inside)),
        are_lines (address + 4) bytes (tail d bytes four) (omega (arith, aligned)) (omega (arith, inside)),
      )

-- ---- columns

apart : (a b text rest : List ℕ) → (a ++ 32 ∷ (b ++ 32 ∷ (text ++ 10 ∷ []))) ++ rest ≡ a ++ 32 ∷ (b ++ 32 ∷ (text ++ 10 ∷ rest))
apart a b text rest = simp append_assoc

line_cut : (a b text rest : List ℕ) → list_all is_solid a ≡ true → list_all is_solid b ≡ true → lines_of (text ++ 10 ∷ rest) ≡ text ∷ lines_of rest →
    lines_of (a ++ 32 ∷ (b ++ 32 ∷ (text ++ 10 ∷ rest))) ≡ (a ++ 32 ∷ (b ++ 32 ∷ text)) ∷ lines_of rest
line_cut a b text rest first second followed =
    let one = prefixed (32 ∷ []) (text ++ 10 ∷ rest) text (lines_of rest) refl followed in
    let two = prefixed b (32 ∷ (text ++ 10 ∷ rest)) (32 ∷ text) (lines_of rest) (solid_plain b second) one in
    let three = prefixed (32 ∷ []) (b ++ 32 ∷ (text ++ 10 ∷ rest)) (b ++ 32 ∷ text) (lines_of rest) refl two in
    prefixed a (32 ∷ (b ++ 32 ∷ (text ++ 10 ∷ rest))) (32 ∷ (b ++ 32 ∷ text)) (lines_of rest) (solid_plain a first) three

column_is : (a b text : List ℕ) → list_all is_solid a ≡ true → list_all is_solid b ≡ true → text_column (a ++ 32 ∷ (b ++ 32 ∷ text)) ≡ text
column_is a b text first second = rw (column_cut a (b ++ 32 ∷ text) first) (column_cut b text second)

-- a line of a listing, and the others
columns_step : (a b text rest : List ℕ) (texts : List (List ℕ)) → list_all is_solid a ≡ true → list_all is_solid b ≡ true →
    lines_of (text ++ 10 ∷ rest) ≡ text ∷ lines_of rest → map text_column (lines_of rest) ≡ texts →
    map text_column (lines_of ((a ++ 32 ∷ (b ++ 32 ∷ (text ++ 10 ∷ []))) ++ rest)) ≡ text ∷ texts
columns_step a b text rest texts first second followed others =
    ap (λ (t : List ℕ). map text_column (lines_of t)) (apart a b text rest)
    ∙ ap (map text_column) (line_cut a b text rest first second followed)
    ∙ ap (λ (t : List ℕ). t ∷ map text_column (lines_of rest)) (column_is a b text first second)
    ∙ ap (λ (ts : List (List ℕ)). text ∷ ts) others

word_grouped : (a b text : List ℕ) → a ++ codes " " ++ b ++ codes " " ++ text ++ codes "\n" ≡ a ++ 32 ∷ (b ++ 32 ∷ (text ++ 10 ∷ []))
word_grouped a b text = simp append_assoc

byte_grouped : (a b digits : List ℕ) → a ++ codes " " ++ b ++ codes " .byte 0x" ++ digits ++ codes "\n" ≡ a ++ 32 ∷ (b ++ 32 ∷ (codes ".byte 0x" ++ digits ++ 10 ∷ []))
byte_grouped a b digits = simp append_assoc

module _ (size : ℕ) (small : size < 2 ^ 32) where
  byte_column : (address byte : ℕ) (rest : List ℕ) (texts : List (List ℕ)) → byte < 256 → address + 1 ≤ size → map text_column (lines_of rest) ≡ texts →
      map text_column (lines_of (byte_line address byte ++ rest)) ≡ byte_text byte ∷ texts
  unfolding byte_line
  byte_column address byte rest texts below inside others =
      ap (λ (line : List ℕ). map text_column (lines_of (line ++ rest))) (byte_grouped (hex_digits 8 address) (hex_digits 2 byte) (hex_digits 2 byte))
      ∙ columns_step (hex_digits 8 address) (hex_digits 2 byte) (byte_text byte) rest texts
      (hex_digits_solid 8 address (omega arith)) (hex_digits_solid 2 byte (omega arith))
      (followed_line (byte_text byte) rest (byte_plain byte below)) others

  word_column : (address word : ℕ) (rest : List ℕ) (texts : List (List ℕ)) → word < 2 ^ 32 → address + 4 ≤ size →
      lines_of (text_of_word word address ++ 10 ∷ rest) ≡ text_of_word word address ∷ lines_of rest → map text_column (lines_of rest) ≡ texts →
      map text_column (lines_of (word_line address word ++ rest)) ≡ text_of_word word address ∷ texts
  unfolding word_line
  word_column address word rest texts below inside followed others =
      ap (λ (line : List ℕ). map text_column (lines_of (line ++ rest))) (word_grouped (hex_digits 8 address) (hex_digits 8 word) (text_of_word word address))
      ∙ columns_step (hex_digits 8 address) (hex_digits 8 word) (text_of_word word address) rest texts
      (hex_digits_solid 8 address (omega arith)) (hex_digits_solid 8 word (omega arith)) followed others

  none_left : map text_column (lines_of []) ≡ [] ∷ []
  none_left = ap (map text_column) no_text

  columns : (address : ℕ) (bytes : List ℕ) → Small size small bytes → address % 4 ≡ 0 → address + length bytes ≤ size →
      map text_column (lines_of (bytes_lines address bytes)) ≡ lines_in (pieces address bytes)
  unfolding bytes_lines
  columns address [] all aligned inside = none_left
  columns address (a ∷ []) all aligned inside = byte_column address a [] ([] ∷ []) (head size small a [] all) (omega (arith, inside)) none_left
  columns address (a ∷ b ∷ []) all aligned inside =
      let last = byte_column (address + 1) b [] ([] ∷ []) (head size small b [] (tail size small a (b ∷ []) all)) (omega (arith, inside)) none_left in
      byte_column address a (byte_line (address + 1) b ++ []) (byte_text b ∷ [] ∷ []) (head size small a (b ∷ []) all) (omega (arith, inside)) last
  columns address (a ∷ b ∷ c ∷ []) all aligned inside =
      let two = tail size small a (b ∷ c ∷ []) all in
      let last = byte_column (address + 1 + 1) c [] ([] ∷ []) (head size small c [] (tail size small b (c ∷ []) two)) (omega (arith, inside)) none_left in
      let more = byte_column (address + 1) b (byte_line (address + 1 + 1) c ++ []) (byte_text c ∷ [] ∷ []) (head size small b (c ∷ []) two) (omega (arith, inside)) last in
      byte_column address a (byte_line (address + 1) b ++ (byte_line (address + 1 + 1) c ++ [])) (byte_text b ∷ byte_text c ∷ [] ∷ []) (head size small a (b ∷ c ∷ []) all) (omega (arith, inside)) more
  columns address (a ∷ b ∷ c ∷ d ∷ bytes) all aligned inside =
      let two = tail size small a (b ∷ c ∷ d ∷ bytes) all in
      let three = tail size small b (c ∷ d ∷ bytes) two in
      let four = tail size small c (d ∷ bytes) three in
      let line = word_is_line size small address a b c d (head size small a (b ∷ c ∷ d ∷ bytes) all) (head size small b (c ∷ d ∷ bytes) two) (head size small c (d ∷ bytes) three) (head size small d bytes four) aligned (omega (arith, inside)) in
      let ones : (a < 256) × (b < 256) × (c < 256) × (d < 256) = (head size small a (b ∷ c ∷ d ∷ bytes) all, head size small b (c ∷ d ∷ bytes) two, head size small c (d ∷ bytes) three, head size small d bytes four) in
      let word = from_le_bytes w32 (a ∷ b ∷ c ∷ d ∷ []) in
      let below : word < 2 ^ 32 = omega (arith, ones) in
      word_column address word (bytes_lines (address + 4) bytes) (lines_in (pieces (address + 4) bytes)) below (omega (arith, inside))
      (line.followed (bytes_lines (address + 4) bytes))
      (columns (address + 4) bytes (tail size small d bytes four) (omega (arith, aligned)) (omega (arith, inside)))

-- ---- the program

pub listing_assembled : (size : ℕ) → size < 2 ^ 32 → ListingsAreProgram size
unfolding assembled_program listing_of
listing_assembled size small bytes all inside =
    let ps = pieces 0 bytes in
    let are = are_lines size small 0 bytes all refl (omega (arith, inside)) in
    let same = bytes_in-pieces 0 bytes in
    let texts : map text_column (lines_of (bytes_lines 0 bytes ++ [])) ≡ lines_in ps
    = ap (λ (t : List ℕ). map text_column (lines_of t)) (append-nil (bytes_lines 0 bytes)) ∙ columns size small 0 bytes all refl (omega (arith, inside)) in
    let lines : lines_of (join_with_byte 10 (map text_column (lines_of (bytes_lines 0 bytes ++ [])))) ≡ lines_in ps
    = ap (λ (ts : List (List ℕ)). lines_of (join_with_byte 10 ts)) texts ∙ joined_lines size ps 0 are in
    let first = ap (first_pass size 1 (at 0)) lines ∙ first_lines size ps 1 0 are (omega (arith, ap length same, inside)) in
    let second = ap (second_pass [] 1 []) lines ∙ (second_lines size ps [] 1 [] are ∙ ap Ok same) in
    rw (first, second) refl
