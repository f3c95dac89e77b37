-- The text of a byte is read back as the byte.
use Rattle.std.proofs.Common.{◌≡◌, ℕ, ◌+◌, ◌%◌, ◌^◌, ◌<◌, ◌≤◌, ◌&&◌, pos, true, List, [], ◌∷◌, ◌++◌, Some, Ok, codes, refl, ap, ◌∙◌, arith}
use Rattle.std.proofs.lemmas.Bool.{le-leb, le-ltb}
use Rattle.std.proofs.lemmas.List.{append-nil}
use Rattle.std.specs.Int.{to_le_bytes, w8}
use Rattle.std.specs.List.{list_all}
use Rattle.sec_base.specs.Hexadecimal.{hex_digits}
use Rattle.sec_base.specs.declared.width.Width.TheVariants.{One}
use Rattle.rv32_decode.specs.Table.{ops, row_of, rows}
use Rattle.rv32_text.specs.Mnemonics.{mnemonic_of}
use Rattle.rv32_text.specs.Text.{instruction_text}
use Rattle.rv32_asm_syntax.specs.Expressions.{number_alone}
use Rattle.rv32_asm_syntax.specs.Keywords.{DataKeyword, directives, keyword_of, keywords, long_pseudoinstructions, pseudoinstructions, row_entries}
use Rattle.rv32_asm_syntax.specs.Reading.{statement_of}
use Rattle.rv32_asm_syntax.specs.Statements.{Data, Statement}
use Rattle.rv32_asm.specs.Encoding.{encoded_bytes, fits_width, is_in_range, misses_label}
use Rattle.rv32_asm.specs.Labels.{Label}
use Rattle.rv32_asm.specs.Layout.{is_misplaced, size_at}
use Rattle.rv32_asm.specs.Passes.{Progress, after_line, line_bytes}
use Rattle.rv32_asm.specs.Values.{modulo}
use Rattle.rv32_asm.proofs.Readings.{data_read, emitted_text, number_text}
use Rattle.rv32_asm.proofs.TextImmediates.{value_alone}
use Rattle.rv32_asm.proofs.TextLines.{is_plain, plain_labels}
use Rattle.rv32_asm.proofs.TextNumbers.{hex_digits_operand}
use Rattle.rv32_asm.proofs.TextStatements.{line_plain}

abbrev pub byte_text : ℕ → List ℕ
byte_text byte = codes ".byte 0x" ++ hex_digits 2 byte

abbrev meaning : ℕ → Statement
meaning byte = Data One (number_alone (pos byte) ∷ [])

byte_keyword : keyword_of (codes ".byte") ≡ Some (DataKeyword One)
unfolding keyword_of keywords row_entries pseudoinstructions long_pseudoinstructions directives rows ops row_of mnemonic_of
byte_keyword = refl

byte_statement : (byte : ℕ) → byte_text byte ≡ instruction_text (codes ".byte") (number_text 2 byte ∷ [])
byte_statement byte = rw append-nil refl

byte_means : (byte : ℕ) → byte < 256 → statement_of (byte_text byte) ≡ Ok (meaning byte)
byte_means byte below = ap statement_of (byte_statement byte) ∙ data_read (codes ".byte") One 2 byte refl byte_keyword (omega arith)

pub byte_plain : (byte : ℕ) → byte < 256 → list_all is_plain (byte_text byte) ≡ true
byte_plain byte below =
    ap (list_all is_plain) (byte_statement byte)
    ∙ line_plain (codes ".byte") (number_text 2 byte) [] (DataKeyword One) refl byte_keyword (hex_digits_operand 2 byte (omega arith)) refl

pub byte_laid_out : (size address number : ℕ) (byte : ℕ) (progress : Progress) → byte < 256 → address + 1 ≤ size → progress.address ≡ address →
    after_line size number progress (byte_text byte) ≡ Ok (record progress { address = address + 1 })
unfolding after_line is_misplaced size_at
byte_laid_out size address number byte progress below inside here =
    rw (plain_labels (byte_text byte) (byte_plain byte below), byte_means byte below, here, le-ltb size (address + 1) inside) refl

pub byte_made : (labels : List Label) (address byte : ℕ) → byte < 256 → line_bytes labels address (byte_text byte) ≡ Ok (byte ∷ [])
unfolding misses_label is_in_range encoded_bytes
byte_made labels address byte below =
    let one : byte % 2 ^ 8 % 256 ≡ byte = omega arith in
    emitted_text labels address (byte_text byte) (byte ∷ []) (meaning byte) (byte_means byte below) refl
    (ap (λ v. fits_width One v && true) (value_alone labels (pos byte)) ∙ rw (le-leb byte 255 (omega arith)) refl)
    (ap (λ v. to_le_bytes w8 (modulo 8 v) ++ []) (value_alone labels (pos byte)) ∙ ap (λ b. b ∷ []) one)
