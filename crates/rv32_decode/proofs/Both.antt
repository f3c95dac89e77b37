-- The instruction of a word and the word of an instruction.
use Rattle.std.proofs.Common.{◌≡◌, ◌≢◌, ℕ, ◌+◌, ◌<◌, ◌^◌, true, ◌==◌, ◌↔◌, All, IfSome, IsNone, Option, Some, None, bit_and, is_some, option_map, refl, sym, ◌∙◌, ap, subst}
use Rattle.rv32_decode.proofs.Masks.{is_pattern, mask_is, tests_fields}
use Rattle.rv32_decode.proofs.Matches.{found_fits, found_matches, name_of_row, no_row, row_fits, row_of_match, row_missing, row_of_word}
use Rattle.rv32_decode.proofs.Words.{placed_below, placed_fixed, read_fits, read_placed, read_registers, word_read}
use Rattle.rv32_decode.specs.Decoding.{instruction_of, is_word_of, matching_row}
use Rattle.rv32_decode.specs.Encoding.{IsInst, field_bits, word_of}
use Rattle.rv32_decode.specs.Fields.{instruction_in}
use Rattle.rv32_decode.specs.Search.{instruction_named}
use Rattle.rv32_decode.specs.Table.{Row, row_of, rows}
use Rattle.rv32_decode.specs.declared.Inst.{Inst}
use Rattle.rv32_decode.specs.declared.Op.{Op}

-- the row of a name that a search gave
found_by_name : (o : Option Row) (op : Op) → Some op ≡ option_map (λ r. r.op) o → (r : Row) × (o ≡ Some r) × (r.op ≡ op)
found_by_name None op e = cc
found_by_name (Some r) op e = let same : r.op ≡ op = cc in (r, refl, same)

-- the row of an instruction that was read
found_instruction : (w : ℕ) (o : Option Row) (i : Inst) → option_map (λ r. instruction_in r.format r.op w) o ≡ Some i → (r : Row) × (o ≡ Some r) × (i ≡ instruction_in r.format r.op w)
found_instruction w None i e = cc
found_instruction w (Some r) i e = let same : i ≡ instruction_in r.format r.op w = cc in (r, refl, same)

read_of_name : (w : ℕ) (op : Op) (r : Row) → r.op ≡ op → row_of op ≡ r → instruction_in (row_of op).format op w ≡ instruction_in r.format r.op w
read_of_name w op r name same = rw (same, name) refl

instruction_at : (w : ℕ) (op : Op) → Some op ≡ option_map (λ r. r.op) (matching_row w) → Some (instruction_in (row_of op).format op w) ≡ instruction_of w
unfolding instruction_of
instruction_at w op e =
    let (r, found, name) = found_by_name (matching_row w) op e in
    let same : row_of op ≡ r = ap row_of (sym name) ∙ row_of_match w r found in
    ap Some (read_of_name w op r name same) ∙ ap (option_map (λ s. instruction_in s.format s.op w)) (sym found)

none_of : (w : ℕ) (o : Option Row) → None ≡ option_map (λ r. r.op) o → None ≡ option_map (λ r. instruction_in r.format r.op w) o
none_of w None e = refl
none_of w (Some r) e = cc

no_instruction : (w : ℕ) → None ≡ option_map (λ r. r.op) (matching_row w) → None ≡ instruction_of w
unfolding instruction_of
no_instruction w e = none_of w (matching_row w) e

-- the instruction, from the name of the row that its word matches
pub instruction_by_name : (w : ℕ) (o : Option Op) → o ≡ option_map (λ r. r.op) (matching_row w) → option_map (instruction_named w) o ≡ instruction_of w
instruction_by_name w None e = no_instruction w e
instruction_by_name w (Some op) e = instruction_at w op e

pub instruction_fields : (w : ℕ) (i : Inst) → instruction_of w ≡ Some i → IsInst i
unfolding instruction_of
instruction_fields w i e =
    let (r, found, fields) = found_instruction w (matching_row w) i e in
    let registers = read_registers r.format r.op w in
    let same : row_of (instruction_in r.format r.op w).op ≡ r = ap row_of registers.0 ∙ row_of_match w r found in
    let fits = read_fits r.format r.op w in
    subst IsInst (sym fields) (record {
      rd = registers.1;
      rs1 = registers.2;
      rs2 = registers.3;
      format = rw same fits;
    })

-- the word of what is read by the row that the word matches
word_by_row : (w : ℕ) (r : Row) → w < 2 ^ 32 → matching_row w ≡ Some r → word_of (instruction_in r.format r.op w) ≡ w
unfolding word_of
word_by_row w r below found =
    let same : row_of (instruction_in r.format r.op w).op ≡ r = ap row_of (read_registers r.format r.op w).0 ∙ row_of_match w r found in
    let pattern = is_pattern r.mask r.format r.pattern (found_fits w r found) in
    let mask = mask_is r.mask r.format r.pattern (found_fits w r found) in
    let tests = ap (λ m. bit_and w m == r.pattern) mask ∙ tests_fields r.format w r.pattern below pattern in
    rw same (word_read r.format r.op r.pattern w below pattern (sym tests ∙ found_matches w r found))

pub instruction_word : (w : ℕ) (i : Inst) → w < 2 ^ 32 → instruction_of w ≡ Some i → word_of i ≡ w
unfolding instruction_of
instruction_word w i below e =
    let (r, found, fields) = found_instruction w (matching_row w) i e in
    ap word_of fields ∙ word_by_row w r below found

-- the word of an instruction, with its row's facts
module _ (i : Inst) (wf : IsInst i) where
  pub word_below : word_of i < 2 ^ 32
  unfolding word_of
  word_below =
      let r = row_of i.op in
      placed_below r.pattern i wf.rd wf.rs1 wf.rs2 r.format (is_pattern r.mask r.format r.pattern (row_fits i.op)) wf.format

  word_matches : is_word_of (word_of i) (row_of i.op) ≡ true
  unfolding word_of
  word_matches =
      let r = row_of i.op in
      let w = word_of i in
      let pattern = is_pattern r.mask r.format r.pattern (row_fits i.op) in
      let mask = mask_is r.mask r.format r.pattern (row_fits i.op) in
      ap (λ m. bit_and w m == r.pattern) mask
      ∙ tests_fields r.format w r.pattern word_below pattern
      ∙ placed_fixed r.pattern i wf.rd wf.rs1 wf.rs2 r.format w pattern wf.format refl

  pub word_instruction : instruction_of (word_of i) ≡ Some i
  unfolding instruction_of word_of
  word_instruction =
      let r = row_of i.op in
      let pattern = is_pattern r.mask r.format r.pattern (row_fits i.op) in
      let back : instruction_in r.format i.op (r.pattern + field_bits r.format i) ≡ i
      = read_placed r.pattern i wf.rd wf.rs1 wf.rs2 r.format (r.pattern + field_bits r.format i) pattern wf.format refl in
      rw (row_of_word (word_of i) i.op word_matches, name_of_row i.op, back) refl

missing : (w : ℕ) (o : Option Row) → is_some (option_map (λ r. instruction_in r.format r.op w) o) ≡ is_some o
missing w None = refl
missing w (Some r) = refl

pub instruction_missing : (w : ℕ) → is_some (instruction_of w) ≡ is_some (matching_row w)
unfolding instruction_of
instruction_missing w = missing w (matching_row w)

pub answer_fields : (w : ℕ) (o : Option Inst) → o ≡ instruction_of w → IfSome o IsInst
answer_fields w None e = tt
answer_fields w (Some i) e = instruction_fields w i (sym e)

pub answer_encoded : (w : ℕ) → w < 2 ^ 32 → (o : Option Inst) → o ≡ instruction_of w → (i : Inst) → IsInst i → ((o ≡ Some i) ↔ (word_of i ≡ w))
answer_encoded w below o e i wf = (
  (λ is. instruction_word w i below (sym e ∙ is)),
  (λ is. e ∙ ap instruction_of (sym is) ∙ word_instruction i wf),
)

pub answer_none : (w : ℕ) (o : Option Inst) → o ≡ instruction_of w → (IsNone o ↔ All (λ r. bit_and w r.mask ≢ r.pattern) rows)
answer_none w o e =
    let same : is_some o ≡ is_some (matching_row w) = ap is_some e ∙ instruction_missing w in (
      (λ none. no_row w (sym same ∙ none)),
      (λ all. same ∙ row_missing w all),
    )
