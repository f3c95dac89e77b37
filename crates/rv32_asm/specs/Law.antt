-- The texts of words, of instructions and in listings are read back as these, and the two parts of a value make it again.
use Rattle.std.specs.Prelude.{◌≡◌, ℕ, ◌+◌, ◌*◌, ◌%◌, ◌^◌, ◌<◌, ◌≤◌, ◌==◌, pos, ◌+ℤ◌, All, Bool, List, [], ◌∷◌, ◌++◌, Ok, length, map}
use Rattle.std.specs.Int.{w32, to_le_bytes}
use Rattle.std.specs.List.{after_first, flat_map, join_with_byte}
use Rattle.rv32_decode.specs.Encoding.{IsInst, word_of}
use Rattle.rv32_decode.specs.declared.Inst.{Inst}
use Rattle.rv32_text.specs.Text.{text_of, text_of_word}
use Rattle.rv32_listing.specs.Listing.{listing_of}
use Rattle.rv32_asm_syntax.specs.Characters.{line_feed, space}
use Rattle.rv32_asm_syntax.specs.Lines.{lines_of}
use Rattle.rv32_asm.specs.Labels.{Label}
use Rattle.rv32_asm.specs.Program.{assembled_program}
use Rattle.sec_base.specs.Segment.{from_zero}
use Rattle.rv32_asm.specs.Passes.{Progress, after_line, line_bytes}
use Rattle.rv32_asm.specs.Values.{lower_part, modulo, upper_part}

-- the byte is a space, which ends a column of a listing
abbrev pub is_blank_byte : ℕ → Bool
is_blank_byte byte = byte == space

-- the texts of words from an address on, each at its word's address and in a line of its own
abbrev pub source : ℕ → List ℕ → List ℕ
source address [] = []
source address (word ∷ words) = text_of_word word address ++ line_feed ∷ source (address + 4) words

-- the program of that text is the words, as many as the memory holds: what a disassembly says is assembled again
abbrev pub TextsAreProgram : ℕ → Type 0
TextsAreProgram size = (words : List ℕ) → All (λ word. word < 2 ^ 32) words → 4 * length words ≤ size →
    assembled_program (source 0 words) size ≡ Ok (record { entry = 0; segments = from_zero (flat_map (to_le_bytes w32) words) })

-- a line of a listing without its columns of the address and of the word
abbrev pub text_column : List ℕ → List ℕ
text_column line = after_first is_blank_byte (after_first is_blank_byte line)

-- the texts in a listing, each in a line of its own
abbrev pub listed_texts : List ℕ → List ℕ
listed_texts listing = join_with_byte line_feed (map text_column (lines_of listing))

-- the program of the texts in the listing of bytes that are loaded at 0 is these bytes, as many as the memory holds
abbrev pub ListingsAreProgram : ℕ → Type 0
ListingsAreProgram size = (bytes : List ℕ) → All (λ byte. byte < 256) bytes → length bytes ≤ size →
    assembled_program (listed_texts (listing_of (from_zero bytes))) size
    ≡ Ok (record { entry = 0; segments = from_zero bytes })

-- A text is read back as a word at the line's own address: it is one line, at the end of a text and before further lines.
-- The line has no fault in either pass, whatever labels there are; it adds no label, and its bytes are the word's.
pub record IsReadBack (size : ℕ) (text : List ℕ) (word address : ℕ) : Type 0 where
  pub one_line : lines_of text ≡ text ∷ []
  pub followed : (rest : List ℕ) → lines_of (text ++ line_feed ∷ rest) ≡ text ∷ lines_of rest
  pub in_first_pass : (number : ℕ) (progress : Progress) → progress.address ≡ address →
      after_line size number progress text ≡ Ok (record progress { address = address + 4 })
  pub in_second_pass : (labels : List Label) → line_bytes labels address text ≡ Ok (to_le_bytes w32 word)

-- so it is with the text of each word, wherever it can stand: at a multiple of 4 with four bytes of memory behind it
abbrev pub TextsAreWords : ℕ → Type 0
TextsAreWords size = (word address : ℕ) → word < 2 ^ 32 → address % 4 ≡ 0 → address + 4 ≤ size →
    IsReadBack size (text_of_word word address) word address

-- and there the text of each instruction is read back as its word
abbrev pub TextsAreInstructions : ℕ → Type 0
TextsAreInstructions size = (i : Inst) (address : ℕ) → IsInst i → address % 4 ≡ 0 → address + 4 ≤ size →
    IsReadBack size (text_of i address) (word_of i) address

-- what LUI loads of a word and what ADDI adds to it make the word, modulo 2^32
abbrev pub PartsMakeWord : ℕ → Type 0
PartsMakeWord word = modulo 32 (pos (upper_part word * 2 ^ 12) +ℤ lower_part word) ≡ word
