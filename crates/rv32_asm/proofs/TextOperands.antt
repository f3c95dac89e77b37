-- Operands with commas and blanks between them are parted again.
use Rattle.std.proofs.Common.{◌≡◌, ℕ, suc, ◌+◌, ◌&&◌, ◌||◌, ◌==◌, arith, Bool, true, false, not, List, [], ◌∷◌, ◌++◌, map, refl, ◌∙◌}
use Rattle.std.proofs.lemmas.Bool.{and_parts, and_right, not-true}
use Rattle.std.proofs.lemmas.List.{append-nil}
use Rattle.std.specs.List.{after_first, list_all, onto_first, position_or_len, slice_split}
use Rattle.rv32_text.specs.Text.{more_operands}
use Rattle.rv32_asm_syntax.specs.Characters.{drop_end_blanks, is_blank, is_empty, skip_blanks, trim_blanks}
use Rattle.rv32_asm_syntax.specs.Reading.{operands_of}
use Rattle.rv32_asm.proofs.TextLines.{is_plain}

-- a byte of an operand
abbrev pub is_solid : ℕ → Bool
is_solid byte = is_plain byte && (not (is_blank byte) && not (byte == 44))

abbrev pub is_operand : List ℕ → Bool
is_operand text = not (is_empty text) && list_all is_solid text

record IsSolid (byte : ℕ) : Type 0 where
  plain : is_plain byte ≡ true
  blank : is_blank byte ≡ false
  comma : (byte == 44) ≡ false

solid_parts : (byte : ℕ) → is_solid byte ≡ true → IsSolid byte
solid_parts byte solid =
    let first = and_parts (is_plain byte) (not (is_blank byte) && not (byte == 44)) solid in
    let second = and_parts (not (is_blank byte)) (not (byte == 44)) first.1 in
    record {
      plain = first.0;
      blank = not-true (is_blank byte) second.0;
      comma = not-true (byte == 44) second.1;
    }

pub solid_plain : (text : List ℕ) → list_all is_solid text ≡ true → list_all is_plain text ≡ true
solid_plain [] all = refl
solid_plain (byte ∷ bytes) all =
    let parts = and_parts (is_solid byte) (list_all is_solid bytes) all in
    rw ((solid_parts byte parts.0).plain, solid_plain bytes parts.1) refl

left_false : (a b : Bool) → (a || b) ≡ false → a ≡ false
left_false true b h = h
left_false false b h = refl

-- what stands behind the blank that ends a column
pub column_cut : (text more : List ℕ) → list_all is_solid text ≡ true → after_first (λ byte. byte == 32) (text ++ 32 ∷ more) ≡ more
column_cut [] more all = refl
column_cut (byte ∷ bytes) more all =
    let parts = and_parts (is_solid byte) (list_all is_solid bytes) all in
    let other = left_false (byte == 32) (byte == 9) (solid_parts byte parts.0).blank in
    let len = position_or_len (λ b. b == 32) (bytes ++ 32 ∷ more) in
    let one : 1 + len + 1 ≡ suc (len + 1) = omega arith in
    rw (other, one) (column_cut bytes more parts.1)

-- ---- blanks

pub skip_solid : (text more : List ℕ) → is_operand text ≡ true → skip_blanks (text ++ more) ≡ text ++ more
skip_solid [] more operand = cc
skip_solid (byte ∷ bytes) more operand =
    let parts = and_parts (is_solid byte) (list_all is_solid bytes) operand in
    rw ((solid_parts byte parts.0).blank) refl

end_solid : (text : List ℕ) → list_all is_solid text ≡ true → drop_end_blanks text ≡ text
end_solid [] all = refl
end_solid (byte ∷ bytes) all =
    let parts = and_parts (is_solid byte) (list_all is_solid bytes) all in
    rw ((solid_parts byte parts.0).blank, end_solid bytes parts.1) refl

pub append_full : (front back : List ℕ) → is_empty back ≡ false → is_empty (front ++ back) ≡ false
append_full [] back full = full
append_full (byte ∷ bytes) back full = refl

-- what ends without blanks does so behind anything
pub end_behind : (front back : List ℕ) → is_empty back ≡ false → drop_end_blanks back ≡ back →
    drop_end_blanks (front ++ back) ≡ front ++ back
end_behind [] back full e = e
end_behind (byte ∷ bytes) back full e =
    let rest = end_behind bytes back full e in
    let stays = and_right (is_blank byte) (is_empty (bytes ++ back)) (append_full bytes back full) in
    rw (rest, stays) refl

operand_full : (text : List ℕ) → is_operand text ≡ true → is_empty text ≡ false
operand_full [] operand = cc
operand_full (byte ∷ bytes) operand = refl

pub operand_solid : (text : List ℕ) → is_operand text ≡ true → list_all is_solid text ≡ true
operand_solid [] operand = cc
operand_solid (byte ∷ bytes) operand = operand

full_append : (front back : List ℕ) → is_empty front ≡ false → is_empty (front ++ back) ≡ false
full_append [] back full = cc
full_append (byte ∷ bytes) back full = refl

pub further_full : (first : List ℕ) (others : List (List ℕ)) → is_operand first ≡ true →
    is_empty (first ++ more_operands others) ≡ false
further_full first others operand = full_append first (more_operands others) (operand_full first operand)

pub further_end : (first : List ℕ) (others : List (List ℕ)) → is_operand first ≡ true →
    list_all is_operand others ≡ true → drop_end_blanks (first ++ more_operands others) ≡ first ++ more_operands others
further_end first [] operand all = rw append-nil (end_solid first (operand_solid first operand))
further_end first (other ∷ others) operand all =
    let parts = and_parts (is_operand other) (list_all is_operand others) all in
    let rest = further_end other others parts.0 parts.1 in
    let full = further_full other others parts.0 in
    let behind = end_behind (44 ∷ 32 ∷ []) (other ++ more_operands others) full rest in
    end_behind first (more_operands (other ∷ others)) refl behind

pub trimmed_solid : (text : List ℕ) → is_operand text ≡ true → trim_blanks text ≡ text
unfolding trim_blanks
trimmed_solid text operand =
    let skipped : skip_blanks text ≡ text = simp append-nil at (skip_solid text [] operand) in
    rw skipped (end_solid text (operand_solid text operand))

-- ---- commas

split_solid : (text : List ℕ) → list_all is_solid text ≡ true → slice_split (λ each. each == 44) text ≡ text ∷ []
split_solid [] all = refl
split_solid (byte ∷ bytes) all =
    let parts = and_parts (is_solid byte) (list_all is_solid bytes) all in
    rw ((solid_parts byte parts.0).comma, split_solid bytes parts.1) refl

split_comma : (text more : List ℕ) → list_all is_solid text ≡ true →
    slice_split (λ each. each == 44) (text ++ 44 ∷ more) ≡ text ∷ slice_split (λ each. each == 44) more
split_comma [] more all = refl
split_comma (byte ∷ bytes) more all =
    let parts = and_parts (is_solid byte) (list_all is_solid bytes) all in
    rw ((solid_parts byte parts.0).comma, split_comma bytes more parts.1) refl

onto_blank : (texts : List (List ℕ)) (first : List ℕ) (others : List (List ℕ)) → map trim_blanks texts ≡ first ∷ others →
    map trim_blanks (onto_first 32 texts) ≡ first ∷ others
unfolding trim_blanks
onto_blank [] first others e = cc
onto_blank (text ∷ texts) first others e = e

split_further : (first : List ℕ) (others : List (List ℕ)) → is_operand first ≡ true →
    list_all is_operand others ≡ true →
    map trim_blanks (slice_split (λ each. each == 44) (first ++ more_operands others)) ≡ first ∷ others
split_further first [] operand all =
    rw (append-nil, split_solid first (operand_solid first operand), trimmed_solid first operand) refl
split_further first (other ∷ others) operand all =
    let parts = and_parts (is_operand other) (list_all is_operand others) all in
    let rest = split_further other others parts.0 parts.1 in
    let split = split_comma first (32 ∷ (other ++ more_operands others)) (operand_solid first operand) in
    let behind = onto_blank (slice_split (λ each. each == 44) (other ++ more_operands others)) other others rest in
    rw (split, trimmed_solid first operand, behind) refl

operands_full : (text : List ℕ) → is_empty text ≡ false →
    operands_of text ≡ map trim_blanks (slice_split (λ each. each == 44) text)
unfolding operands_of
operands_full [] full = cc
operands_full (byte ∷ bytes) full = refl

pub operands_read : (first : List ℕ) (others : List (List ℕ)) → is_operand first ≡ true →
    list_all is_operand others ≡ true → operands_of (first ++ more_operands others) ≡ first ∷ others
operands_read first others operand all =
    operands_full (first ++ more_operands others) (further_full first others operand)
    ∙ split_further first others operand all
