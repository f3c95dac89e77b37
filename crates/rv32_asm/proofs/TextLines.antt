-- A line without labels, comments and strings is its statement's text.
use Rattle.std.proofs.Common.{◌≡◌, ℕ, ◌&&◌, ◌==◌, Bool, true, false, not, List, [], ◌∷◌, ◌++◌, refl, arith, nat_lt}
use Rattle.std.proofs.lemmas.Bool.{and_parts, le-ltb, ltb-true, not-true}
use Rattle.std.specs.List.{list_all, slice_split}
use Rattle.rv32_asm_syntax.specs.Characters.{trim_blanks}
use Rattle.rv32_asm_syntax.specs.Lines.{Outside}
use Rattle.rv32_asm_syntax.specs.Lines.{before_comment, has_non_ascii, labels_of, lines_of, statement_text, without_comment}

-- a byte that begins no comment, no string and no label, ends no line, and which is an ASCII character
abbrev pub is_plain : ℕ → Bool
is_plain byte = nat_lt byte 128
    && (not (byte == 34) && (not (byte == 35) && (not (byte == 58) && (not (byte == 10) && not (byte == 13)))))

record IsPlain (byte : ℕ) : Type 0 where
  ascii : nat_lt 127 byte ≡ false
  quotation_mark : (byte == 34) ≡ false
  hash : (byte == 35) ≡ false
  colon : (byte == 58) ≡ false
  line_feed : (byte == 10) ≡ false
  carriage_return : (byte == 13) ≡ false

plain_parts : (byte : ℕ) → is_plain byte ≡ true → IsPlain byte
plain_parts byte plain =
    let ends = not (byte == 10) && not (byte == 13) in
    let first
    = and_parts (nat_lt byte 128) (not (byte == 34) && (not (byte == 35) && (not (byte == 58) && ends))) plain in
    let second = and_parts (not (byte == 34)) (not (byte == 35) && (not (byte == 58) && ends)) first.1 in
    let third = and_parts (not (byte == 35)) (not (byte == 58) && ends) second.1 in
    let fourth = and_parts (not (byte == 58)) ends third.1 in
    let fifth = and_parts (not (byte == 10)) (not (byte == 13)) fourth.1 in
    let below = ltb-true byte 128 first.0 in
    record {
      ascii = le-ltb 127 byte (omega arith);
      quotation_mark = not-true (byte == 34) second.0;
      hash = not-true (byte == 35) third.0;
      colon = not-true (byte == 58) fourth.0;
      line_feed = not-true (byte == 10) fifth.0;
      carriage_return = not-true (byte == 13) fifth.1;
    }

comment_plain : (line : List ℕ) → list_all is_plain line ≡ true → before_comment Outside line ≡ line
comment_plain [] all = refl
comment_plain (byte ∷ bytes) all =
    let parts = and_parts (is_plain byte) (list_all is_plain bytes) all in
    let plain = plain_parts byte parts.0 in
    rw (plain.hash, plain.quotation_mark, comment_plain bytes parts.1) refl

foreign_plain : (line : List ℕ) → list_all is_plain line ≡ true → has_non_ascii Outside line ≡ false
foreign_plain [] all = refl
foreign_plain (byte ∷ bytes) all =
    let parts = and_parts (is_plain byte) (list_all is_plain bytes) all in
    let plain = plain_parts byte parts.0 in
    rw (plain.ascii, plain.quotation_mark, foreign_plain bytes parts.1) refl

one_part : (line : List ℕ) → list_all is_plain line ≡ true → slice_split (λ byte. byte == 58) line ≡ line ∷ []
one_part [] all = refl
one_part (byte ∷ bytes) all =
    let parts = and_parts (is_plain byte) (list_all is_plain bytes) all in
    let plain = plain_parts byte parts.0 in
    rw (plain.colon, one_part bytes parts.1) refl

pub plain_comment : (line : List ℕ) → list_all is_plain line ≡ true → without_comment line ≡ line
unfolding without_comment
plain_comment line all = comment_plain line all

pub plain_foreign : (line : List ℕ) → list_all is_plain line ≡ true → has_non_ascii Outside (without_comment line) ≡ false
plain_foreign line all = rw (plain_comment line all) (foreign_plain line all)

pub plain_labels : (line : List ℕ) → list_all is_plain line ≡ true → labels_of line ≡ []
unfolding labels_of
plain_labels line all = rw (plain_comment line all, one_part line all) refl

pub plain_statement : (line : List ℕ) → list_all is_plain line ≡ true → statement_text line ≡ trim_blanks line
unfolding statement_text
plain_statement line all = rw (plain_comment line all, one_part line all) refl

pub plain_line : (line : List ℕ) → list_all is_plain line ≡ true → lines_of line ≡ line ∷ []
unfolding lines_of
plain_line [] all = refl
plain_line (byte ∷ bytes) all =
    let parts = and_parts (is_plain byte) (list_all is_plain bytes) all in
    let plain = plain_parts byte parts.0 in
    rw (plain.line_feed, plain.carriage_return, plain_line bytes parts.1) refl

-- what goes before the first line
pub prefixed : (front text line : List ℕ) (lines : List (List ℕ)) → list_all is_plain front ≡ true →
    lines_of text ≡ line ∷ lines → lines_of (front ++ text) ≡ (front ++ line) ∷ lines
unfolding lines_of
prefixed [] text line lines all e = e
prefixed (byte ∷ bytes) text line lines all e =
    let parts = and_parts (is_plain byte) (list_all is_plain bytes) all in
    let plain = plain_parts byte parts.0 in
    rw (plain.line_feed, plain.carriage_return, prefixed bytes text line lines parts.1 e) refl

pub followed_line : (line rest : List ℕ) → list_all is_plain line ≡ true →
    lines_of (line ++ 10 ∷ rest) ≡ line ∷ lines_of rest
unfolding lines_of
followed_line [] rest all = refl
followed_line (byte ∷ bytes) rest all =
    let parts = and_parts (is_plain byte) (list_all is_plain bytes) all in
    let plain = plain_parts byte parts.0 in
    rw (plain.line_feed, plain.carriage_return, followed_line bytes rest parts.1) refl
