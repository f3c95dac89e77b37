-- The statement of a line that is a word of the table with its operands.
use Rattle.std.proofs.Common.{◌≡◌, ℕ, ◌&&◌, Bool, true, false, List, [], ◌∷◌, ◌++◌, Some, Err, if◌then◌else◌, length, drop, ok_or, take_while, refl, ap, ◌∙◌, arith}
use Rattle.std.proofs.Math.Seq.{take-append_seam, drop-append_seam}
use Rattle.std.proofs.lemmas.Bool.{and_from, and_parts, not-true}
use Rattle.std.proofs.lemmas.List.Folds.{list_all-append}
use Rattle.std.specs.List.{list_all, prefix_len}
use Rattle.rv32_text.specs.Text.{instruction_text, more_operands}
use Rattle.rv32_asm_syntax.specs.declared.fault.AsmFault.TheVariants.{Operand, Unknown}
use Rattle.rv32_asm_syntax.specs.Characters.{drop_end_blanks, is_blank, is_empty, is_in_words, skip_blanks, trim_blanks}
use Rattle.rv32_asm_syntax.specs.Lines.{Outside}
use Rattle.rv32_asm_syntax.specs.Lines.{has_non_ascii, statement_text, without_comment}
use Rattle.rv32_asm_syntax.specs.Keywords.{Keyword, keyword_of}
use Rattle.rv32_asm_syntax.specs.Reading.{statement_from, statement_in, statement_of, statement_with}
use Rattle.rv32_asm.proofs.TextKeywords.{begins_solid, is_word}
use Rattle.rv32_asm.proofs.TextLines.{is_plain, plain_foreign, plain_statement}
use Rattle.rv32_asm.proofs.TextOperands.{append_full, end_behind, further_end, further_full, is_operand, operand_solid, skip_solid, solid_plain}

record IsWord (name : List ℕ) : Type 0 where
  begins : begins_solid name ≡ true
  words : list_all is_in_words name ≡ true
  plain : list_all is_plain name ≡ true

word_parts : (name : List ℕ) → is_word name ≡ true → IsWord name
word_parts name word =
    let first = and_parts (begins_solid name) (list_all is_in_words name && list_all is_plain name) word in
    let second = and_parts (list_all is_in_words name) (list_all is_plain name) first.1 in
    record { begins = first.0; words = second.0; plain = second.1 }

prefix_words : (name more : List ℕ) → list_all is_in_words name ≡ true →
    prefix_len is_in_words (name ++ 32 ∷ more) ≡ length name
prefix_words [] more all = refl
prefix_words (byte ∷ bytes) more all =
    let parts = and_parts (is_in_words byte) (list_all is_in_words bytes) all in
    let rest = prefix_words bytes more parts.1 in
    rw (parts.0, rest) (omega arith)

-- where the word ends
pub word_taken : (name more : List ℕ) → list_all is_in_words name ≡ true →
    take_while is_in_words (name ++ 32 ∷ more) ≡ name
word_taken name more all = rw (prefix_words name more all) (take-append_seam name (32 ∷ more))

pub word_dropped : (name more : List ℕ) → list_all is_in_words name ≡ true →
    drop (prefix_len is_in_words (name ++ 32 ∷ more)) (name ++ 32 ∷ more) ≡ 32 ∷ more
word_dropped name more all = rw (prefix_words name more all) (drop-append_seam name (32 ∷ more))

further_plain : (first : List ℕ) (others : List (List ℕ)) → is_operand first ≡ true →
    list_all is_operand others ≡ true → list_all is_plain (first ++ more_operands others) ≡ true
further_plain first [] operand all =
    list_all-append is_plain first []
    ∙ and_from (list_all is_plain first) true (solid_plain first (operand_solid first operand)) refl
further_plain first (other ∷ others) operand all =
    let parts = and_parts (is_operand other) (list_all is_operand others) all in
    let rest = further_plain other others parts.0 parts.1 in
    list_all-append is_plain first (more_operands (other ∷ others))
    ∙ and_from (list_all is_plain first) (list_all is_plain (other ++ more_operands others))
    (solid_plain first (operand_solid first operand)) rest

-- ---- blanks at the ends

skip_word : (name more : List ℕ) → begins_solid name ≡ true → skip_blanks (name ++ more) ≡ name ++ more
skip_word [] more begins = cc
skip_word (byte ∷ bytes) more begins = rw (not-true (is_blank byte) begins) refl

-- ---- the statement

full_statement : (line : List ℕ) → is_empty line ≡ false →
    statement_in line
    ≡ statement_from (keyword_of (take_while is_in_words line)) (skip_blanks (drop (prefix_len is_in_words line) line))
full_statement [] full = cc
full_statement (byte ∷ bytes) full = refl

from_parts : (keyword : Keyword) (name text taken dropped : List ℕ) → taken ≡ name → keyword_of name ≡ Some keyword →
    dropped ≡ 32 ∷ text → skip_blanks text ≡ text →
    statement_from (keyword_of taken) (skip_blanks dropped) ≡ ok_or (statement_with keyword text) Operand
from_parts keyword name text taken dropped e found f skipped = rw (e, found, f, skipped) refl

outside_strings : (line : List ℕ) (foreign : Bool) (text : List ℕ) → foreign ≡ false → text ≡ line →
    (if foreign then Err Unknown else statement_in text) ≡ statement_in line
outside_strings line foreign text e f = rw (e, f) refl

-- a line that is a word with operands
module _ (name first : List ℕ) (others : List (List ℕ)) (keyword : Keyword) (word : is_word name ≡ true)
    (found : keyword_of name ≡ Some keyword) (operand : is_operand first ≡ true)
    (all : list_all is_operand others ≡ true) where
  pub line_plain : list_all is_plain (instruction_text name (first ∷ others)) ≡ true
  line_plain =
      list_all-append is_plain name (32 ∷ (first ++ more_operands others))
      ∙ and_from (list_all is_plain name) (list_all is_plain (32 ∷ (first ++ more_operands others)))
      ((word_parts name word).plain) (further_plain first others operand all)

  line_trimmed : trim_blanks (instruction_text name (first ∷ others)) ≡ instruction_text name (first ∷ others)
  unfolding trim_blanks
  line_trimmed =
      let text = first ++ more_operands others in
      let begins = (word_parts name word).begins in
      let behind : drop_end_blanks (32 ∷ text) ≡ 32 ∷ text
      = end_behind (32 ∷ []) text (further_full first others operand) (further_end first others operand all) in
      ap drop_end_blanks (skip_word name (32 ∷ text) begins) ∙ end_behind name (32 ∷ text) refl behind

  statement_in_line : statement_in (instruction_text name (first ∷ others))
      ≡ ok_or (statement_with keyword (first ++ more_operands others)) Operand
  statement_in_line =
      let text = first ++ more_operands others in
      let line = name ++ 32 ∷ text in
      let words = (word_parts name word).words in
      full_statement line (append_full name (32 ∷ text) refl)
      ∙ from_parts keyword name text (take_while is_in_words line) (drop (prefix_len is_in_words line) line)
      (word_taken name text words) found (word_dropped name text words) (skip_solid first (more_operands others) operand)

  pub statement_read : statement_of (instruction_text name (first ∷ others))
      ≡ ok_or (statement_with keyword (first ++ more_operands others)) Operand
  unfolding statement_of
  statement_read =
      let line = instruction_text name (first ∷ others) in
      outside_strings line (has_non_ascii Outside (without_comment line)) (statement_text line) (plain_foreign line line_plain)
      (plain_statement line line_plain ∙ line_trimmed)
      ∙ statement_in_line
