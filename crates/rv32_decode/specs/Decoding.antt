-- The instruction of a word.
use Rattle.rv32_decode.specs.Fields.{instruction_in}
use Rattle.rv32_decode.specs.Table.{Row, rows}
use Rattle.rv32_decode.specs.declared.Inst.{Inst}
use Rattle.std.specs.Prelude.{ℕ, ◌==◌, Bool, Option, bit_and, find, option_map}

-- whether the word is one of the row's
abbrev pub is_word_of : ℕ → Row → Bool
is_word_of word row = bit_and word row.mask == row.pattern

-- the row that a word matches
unfoldable pub matching_row : ℕ → Option Row
matching_row word = find (is_word_of word) rows

-- the instruction of a word: the row that it matches, with the fields of the row's format
unfoldable pub instruction_of : ℕ → Option Inst
instruction_of word = option_map (λ row. instruction_in row.format row.op word) (matching_row word)
