-- The lines of bytes that stand at an address: a line of text for each word, and for each byte that is left over.
use Rattle.rv32_text.specs.Text.{text_of_word}
use Rattle.sec_base.specs.Hexadecimal.{hex_digits}
use Rattle.std.specs.Int.{w32, from_le_bytes}
use Rattle.std.specs.Prelude.{ℕ, ◌+◌, List, [], ◌∷◌, ◌++◌, codes}

-- a word at an address: the address, the word, and its text there
unfoldable pub word_line : ℕ → ℕ → List ℕ
word_line address word =
    hex_digits 8 address ++ codes " " ++ hex_digits 8 word ++ codes " " ++ text_of_word word address ++ codes "\n"

-- a byte at an address: the address, the byte, and the byte as data
unfoldable pub byte_line : ℕ → ℕ → List ℕ
byte_line address byte = hex_digits 8 address ++ codes " " ++ hex_digits 2 byte ++ codes " .byte 0x" ++ hex_digits 2 byte ++ codes "\n"

-- bytes from an address on: their words, four bytes at a time and the lowest byte first, and then the bytes that
-- are left over
unfoldable pub bytes_lines : ℕ → List ℕ → List ℕ
bytes_lines address (a ∷ b ∷ c ∷ d ∷ bytes) =
    word_line address (from_le_bytes w32 (a ∷ b ∷ c ∷ d ∷ [])) ++ bytes_lines (address + 4) bytes
bytes_lines address (byte ∷ bytes) = byte_line address byte ++ bytes_lines (address + 1) bytes
bytes_lines address [] = []
