-- The first label of a line.
use Rattle.std.proofs.Common.{◌≡◌, ℕ, ◌+◌, ◌<◌, Bool, true, false, List, [], ◌∷◌, ◌++◌, length, take, drop, length-drop, refl, sym, ap, ◌∙◌, arith, eqb}
use Rattle.std.specs.List.{position_or_len, join_with_byte}
use Rattle.std.proofs.lemmas.List.Splits.{slice_split_first, join_with_byte-slice_split}
use Rattle.rv32_asm_syntax.specs.Characters.{is_name, is_blank, skip_blanks}
use Rattle.rv32_asm_syntax.specs.Lines.{labels_in, behind_labels}
use Rattle.rv32_asm_syntax.specs.Parts.{parts}
use Rattle.rv32_asm_syntax.proofs.Splits.{one_part, some_parts, around}

abbrev pub at_colon : ℕ → Bool
at_colon byte = eqb byte 58

abbrev pub len_of : List ℕ → ℕ
len_of text = position_or_len at_colon text

pub cut_at : (text : List ℕ) → len_of text < length text → parts text ≡ take (len_of text) text ∷ parts (drop (len_of text + 1) text)
cut_at text below = slice_split_first at_colon text 0 below

label_in : (part : List ℕ) (ps : List (List ℕ)) → 0 < length ps → is_name (skip_blanks part) ≡ true → labels_in (part ∷ ps) ≡ skip_blanks part ∷ labels_in ps
label_in part [] some e = elim some [ ]
label_in part (p ∷ ps) some e = rw e refl

named_behind : (part : List ℕ) (ps : List (List ℕ)) → 0 < length ps → is_name (skip_blanks part) ≡ true → behind_labels (part ∷ ps) ≡ behind_labels ps
named_behind part [] some e = elim some [ ]
named_behind part (p ∷ ps) some e = rw e refl

nameless : (part : List ℕ) (ps : List (List ℕ)) → is_name (skip_blanks part) ≡ false → labels_in (part ∷ ps) ≡ []
nameless part [] e = refl
nameless part (p ∷ ps) e = rw e refl

nameless_behind : (part : List ℕ) (ps : List (List ℕ)) → is_name (skip_blanks part) ≡ false → behind_labels (part ∷ ps) ≡ join_with_byte 58 (part ∷ ps)
nameless_behind part [] e = refl
nameless_behind part (p ∷ ps) e = rw e refl

join_of : (text part : List ℕ) (ps : List (List ℕ)) → parts text ≡ part ∷ ps → join_with_byte 58 (part ∷ ps) ≡ text
join_of text part ps e = let j = rw e at (join_with_byte-slice_split 58 text) in j

pub name_found : (text part rest : List ℕ) → parts text ≡ part ∷ parts rest → is_name (skip_blanks part) ≡ true → labels_in (parts text) ≡ skip_blanks part ∷ labels_in (parts rest)
name_found text part rest e n = rw e (label_in part (parts rest) (some_parts at_colon rest) n)

pub behind_found : (text part rest : List ℕ) → parts text ≡ part ∷ parts rest → is_name (skip_blanks part) ≡ true → behind_labels (parts text) ≡ behind_labels (parts rest)
behind_found text part rest e n = rw e (named_behind part (parts rest) (some_parts at_colon rest) n)

pub none_found : (text part : List ℕ) (ps : List (List ℕ)) → parts text ≡ part ∷ ps → is_name (skip_blanks part) ≡ false → labels_in (parts text) ≡ []
none_found text part ps e n = rw e (nameless part ps n)

pub none_behind : (text part : List ℕ) (ps : List (List ℕ)) → parts text ≡ part ∷ ps → is_name (skip_blanks part) ≡ false → behind_labels (parts text) ≡ text
none_behind text part ps e n = let j = join_of text part ps e in rw e (rw (nameless_behind part ps n) j)

-- a colon behind a name
pub is_first : (text name : List ℕ) (len : ℕ) → len ≡ len_of text → len < length text → name ≡ skip_blanks (take len text) → is_name name ≡ true → (labels_in (parts text) ≡ name ∷ labels_in (parts (drop (len + 1) text))) × (behind_labels (parts text) ≡ behind_labels (parts (drop (len + 1) text))) × (length (drop (len + 1) text) < length text)
is_first text name len e below f n =
    let cut : parts text ≡ take len text ∷ parts (drop (len + 1) text) = rw e (cut_at text (omega (arith, e))) in
    let g : is_name (skip_blanks (take len text)) ≡ true = rw (sym f) n in
    rw f (name_found text (take len text) (drop (len + 1) text) cut g, behind_found text (take len text) (drop (len + 1) text) cut g, omega (arith, length-drop (len + 1) text))

-- a colon behind something else
pub no_name : (text name : List ℕ) (len : ℕ) → len ≡ len_of text → len < length text → name ≡ skip_blanks (take len text) → is_name name ≡ false → (labels_in (parts text) ≡ []) × (behind_labels (parts text) ≡ text)
no_name text name len e below f n =
    let cut : parts text ≡ take len text ∷ parts (drop (len + 1) text) = rw e (cut_at text (omega (arith, e))) in
    let g : is_name (skip_blanks (take len text)) ≡ false = rw (sym f) n in
    (none_found text (take len text) (parts (drop (len + 1) text)) cut g, none_behind text (take len text) (parts (drop (len + 1) text)) cut g)

-- no colon
pub no_colon : (text : List ℕ) (len : ℕ) → len ≡ len_of text → len ≡ length text → (labels_in (parts text) ≡ []) × (behind_labels (parts text) ≡ text)
no_colon text len e f = rw (one_part at_colon text (omega (arith, e))) (refl, refl)

skip_one : (c : Bool) (x : ℕ) (front rest : List ℕ) → is_blank x ≡ c → skip_blanks (front ++ 58 ∷ rest) ≡ skip_blanks front ++ 58 ∷ rest → skip_blanks (x ∷ front ++ 58 ∷ rest) ≡ skip_blanks (x ∷ front) ++ 58 ∷ rest
skip_one true x front rest e next = rw e next
skip_one false x front rest e next = rw e refl

-- a colon ends the blanks
skip_before : (front rest : List ℕ) → skip_blanks (front ++ 58 ∷ rest) ≡ skip_blanks front ++ 58 ∷ rest
skip_before [] rest = refl
skip_before (x ∷ front) rest = skip_one (is_blank x) x front rest refl (skip_before front rest)

-- a name, its colon, and what stands behind that
pub name_cut : (text name : List ℕ) (len : ℕ) → len ≡ len_of text → len < length text → name ≡ skip_blanks (take len text) → skip_blanks text ≡ name ++ 58 ∷ drop (len + 1) text
name_cut text name len e below f = rw f (ap skip_blanks (around 58 text len e below) ∙ skip_before (take len text) (drop (len + 1) text))
