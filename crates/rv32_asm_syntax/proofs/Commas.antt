-- The operands of a text are found one after another.
use Rattle.std.proofs.Common.{◌≡◌, ℕ, ◌<◌, ◌≤◌, ◌+◌, Bool, List, [], ◌∷◌, map, length, take, drop, refl, sym, arith, eqb}
use Rattle.std.specs.Prelude.{None, option_map}
use Rattle.std.specs.List.{slice_split, position_or_len}
use Rattle.std.proofs.lemmas.List.{at_drop_more, at_drop_all}
use Rattle.std.proofs.lemmas.List.Splits.{slice_split_first}
use Rattle.sec_base.specs.declared.width.Width.{Width}
use Rattle.rv32_asm_syntax.specs.declared.keywords.Operand.{Operand}
use Rattle.rv32_asm_syntax.specs.Seen.{seen_operand}
use Rattle.rv32_asm_syntax.specs.Characters.{trim_blanks, is_empty}
use Rattle.rv32_asm_syntax.specs.Statements.{Instruction, Data}
use Rattle.rv32_asm_syntax.specs.Reading.{operands_of, with_operands, expressions_of, li_of, la_of, data_of}
use Rattle.rv32_asm_syntax.specs.Parts.{comma_parts, two}
use Rattle.rv32_asm_syntax.proofs.Splits.{one_part, some_parts}

abbrev pub at_comma : ℕ → Bool
at_comma byte = eqb byte 44

pub cut : (text : List ℕ) (len : ℕ) → len ≡ position_or_len at_comma text → len < length text → comma_parts text ≡ trim_blanks (take len text) ∷ comma_parts (drop (len + 1) text)
cut text len e below = rw (slice_split_first at_comma text 0 (omega (arith, e)), sym e) refl

pub last : (text : List ℕ) (len : ℕ) → len ≡ position_or_len at_comma text → length text ≤ len → comma_parts text ≡ trim_blanks text ∷ []
last text len e past = rw (one_part at_comma text (omega (arith, e))) refl

pub none_there : (text : List ℕ) → length text ≡ 0 → operands_of text ≡ []
unfolding operands_of
none_there [] e = refl
none_there (x ∷ xs) e = grind arith

pub some_there : (text : List ℕ) → 0 < length text → operands_of text ≡ comma_parts text
unfolding operands_of
some_there [] some = elim some [ ]
some_there (x ∷ xs) some = refl

never_two : (a b : List ℕ) (parts : List (List ℕ)) → 0 < length parts → two (a ∷ b ∷ map trim_blanks parts) ≡ None
never_two a b [] some = elim some [ ]
never_two a b (x ∷ xs) some = refl

pub too_many : (a b text : List ℕ) → two (a ∷ b ∷ comma_parts text) ≡ None
too_many a b text = never_two a b (slice_split at_comma text) (some_parts at_comma text)

pub too_few_given : (operands : List Operand) (n : ℕ) (d : Operand) (i : Instruction) → n < length operands → with_operands (map seen_operand (drop n operands)) [] i ≡ None
too_few_given operands n d i below = at_drop_more (λ each. with_operands (map seen_operand each) [] i) operands n d below

never_given : (parts : List (List ℕ)) (i : Instruction) → 0 < length parts → with_operands [] (map trim_blanks parts) i ≡ None
never_given [] i some = elim some [ ]
never_given (x ∷ xs) i some = refl

pub too_many_given : (operands : List Operand) (n : ℕ) (text : List ℕ) (i : Instruction) → length operands ≤ n → with_operands (map seen_operand (drop n operands)) (comma_parts text) i ≡ None
too_many_given operands n text i past = rw (at_drop_all (λ each. with_operands (map seen_operand each) (comma_parts text) i) operands n past) (never_given (slice_split at_comma text) i (some_parts at_comma text))

pub li_other : (texts : List (List ℕ)) → two texts ≡ None → li_of texts ≡ None
li_other [] e = refl
li_other (a ∷ []) e = refl
li_other (a ∷ b ∷ []) e = cc
li_other (a ∷ b ∷ c ∷ cs) e = refl

pub la_other : (texts : List (List ℕ)) → two texts ≡ None → la_of texts ≡ None
la_other [] e = refl
la_other (a ∷ []) e = refl
la_other (a ∷ b ∷ []) e = cc
la_other (a ∷ b ∷ c ∷ cs) e = refl

pub no_data : (width : Width) (text : List ℕ) → length text ≡ 0 → data_of width (operands_of text) ≡ None
no_data width text e = rw (none_there text e) refl

data_at : (width : Width) (parts : List (List ℕ)) → 0 < length parts → data_of width (map trim_blanks parts) ≡ option_map (Data width) (expressions_of (map trim_blanks parts))
data_at width [] some = elim some [ ]
data_at width (x ∷ xs) some = refl

pub some_data : (width : Width) (text : List ℕ) → 0 < length text → data_of width (operands_of text) ≡ option_map (Data width) (expressions_of (operands_of text))
some_data width text some = rw (some_there text some) (data_at width (slice_split at_comma text) (some_parts at_comma text))

pub empty_test : (text : List ℕ) → eqb (length text) 0 ≡ is_empty text
empty_test [] = refl
empty_test (x ∷ xs) = grind arith
