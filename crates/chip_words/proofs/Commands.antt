-- A command without a fault has the values that it can't do without.
use Rattle.std.proofs.Common.{◌≡◌, ◌∙◌, ◌⊎◌, ◌<◌, ◌≤◌, ◌^◌, ◌&&◌, ap, arith, subst, ℕ, Bool, List, [], ◌∷◌, Option, Some, None, true, false, not, refl, sym, inl, inr, is_some, unwrap_or}
use Rattle.std.specs.Prelude.{codes, find, slice_get, option_and_then, ◌-◌}
use Rattle.std.specs.List.{list_any, slice_index_or}
use Rattle.std.specs.Option.{ForSome, option_map_or}
use Rattle.std.specs.Str.{bytes_eq}
use Rattle.std.specs.Str.Parse.{IsNumeral, without_leading_plus}
use Rattle.clap.specs.Facts.{explicit_source, parser_of_value}
use Rattle.clap.specs.Kinds.{check_kinds, or_else}
use Rattle.clap.specs.Takes.{is_given}
use Rattle.clap.specs.ValueTests.{accepts}
use Rattle.clap.specs.Walk.{Row, Rule, Text, arg_by_id, finished, first_of, nothing_held, rows_after, settled, takes_values, walk, walk_from}
use Rattle.clap.specs.Simple.{Shape, built, entered, filled, help_shape, with_index}
use Rattle.clap.specs.Faults.{check_fault, defaults_fault, entered_fault, level_fault, settle_fault, walk_fault}
use Rattle.clap.specs.declared.builder.value_parser.ValueParser.TheVariants.{Unsigned}
use Rattle.clap.proofs.ValueTestLemmas.{accepts-Accepts}
use Rattle.std.proofs.lemmas.Slice.Eq.{bytes_eq-Decides}
use Rattle.chip_words.specs.App.{chip_app, file_rule, first_file_rule, key_rule, layout_rule, levels_rule, nonce_rule, number_rule, page_limit_rule, second_file_rule, second_key_rule, steps_rule, tags_rule, trace_rule}
use Rattle.chip_words.specs.Request.{number_of, numeral_value, value_of}
use Rattle.chip_words.specs.Commands.{HasExecution, HasItsValues, HasJudgement, HasNumber, HasPair, HasProgram, HasProtectedRun, HasReport, HasValue, HasWorkload, IfCommand, IsWithin}
use Rattle.chip_words.proofs.Walks.{IsNoHelp, both_empty}
use Rattle.chip_words.proofs.Fits.{AllFit, HasSome, IsIn, Owns, defaults_have, finished_fits, first_passes, row_found, walk_fits}

-- ---- the parts of a level without a fault

no_argument_wanted : (help command argument : Bool) → check_kinds help command argument ≡ [] → argument ≡ false
no_argument_wanted true command argument e = absurd cc
no_argument_wanted false true argument e = absurd cc
no_argument_wanted false false true e = absurd cc
no_argument_wanted false false false e = refl

pub record IsFaultless (s : Shape) (words : List Text) : Type 0 where
  pub fits : AllFit s.rules (rows_after s.rules [] words)
  pub checked : check_fault s (rows_after s.rules [] words) false ≡ []

pub faultless : (s : Shape) (words : List Text) → Owns s.rules s.rules → level_fault s [] nothing_held words false [] ≡ [] → IsFaultless s words
faultless s words owns e =
    let end = (walk s.rules [] nothing_held words).held in
    let checked = check_fault s (finished s.rules end) false in
    let defaulted = or_else (defaults_fault (settled s.rules end).rows s.rules) checked in
    let ended = or_else (settle_fault s.rules s.args_override_self end) defaulted in
    let first = both_empty (walk_fault s [] (walk_from nothing_held) words) ended e in
    let second = both_empty (settle_fault s.rules s.args_override_self end) defaulted first.1 in
    let third = both_empty (defaults_fault (settled s.rules end).rows s.rules) checked second.1 in
    record {
      fits = finished_fits s.rules s.args_override_self end owns
          (walk_fits s [] words (walk_from nothing_held) owns tt first.0) second.0 third.0;
      checked = third.1;
    }

-- ---- an argument that is there

-- the first value passes the argument's parser
abbrev IsPassed : Rule → List Row → Type 0
IsPassed a rows = (v : Text) × (first_of a.id rows ≡ Some v) × (accepts a.ignore_case (parser_of_value a.parser) v ≡ true)

default_passed : (s : Shape) (words : List Text) (a : Rule) → IsFaultless s words → IsIn a s.rules → HasSome a.defaults
    → arg_by_id s.rules a.id ≡ Some a → takes_values a ≡ true → IsPassed a (rows_after s.rules [] words)
default_passed s words a clean among some own takes =
    let end = (walk s.rules [] nothing_held words).held in
    let row = row_found a.id (rows_after s.rules [] words) (defaults_have a s.rules (settled s.rules end).rows among some) in
    first_passes s.rules a (rows_after s.rules [] words) row.0 clean.fits row.1 own takes

none_fails : (f : Rule → Bool) (a : Rule) (d : List Rule) → IsIn a d → list_any f d ≡ false → f a ≡ false
none_fails f a [] among e = absurd among
none_fails f a (x ∷ xs) among e = go (f x) refl among (λ in_rest later. none_fails f a xs in_rest later)
  where
    go : (b : Bool) → f x ≡ b → ((x ≡ a) ⊎ IsIn a xs) → (IsIn a xs → list_any f xs ≡ false → f a ≡ false) → f a ≡ false
    go true is either later = absurd (let bad = rw is at e in cc)
    go false is (inl same) later = subst (λ (y : Rule). f y ≡ false) same is
    go false is (inr in_rest) later = later in_rest (rw is at e)

given_row : (id : Text) (o : Option Row) → option_map_or (λ r. explicit_source r.source) o false ≡ true → (r : Row) × (o ≡ Some r)
given_row id None e = absurd cc
given_row id (Some r) e = (r, refl)

required_passed : (s : Shape) (words : List Text) (a : Rule) → IsFaultless s words → s.subcommand_negates_reqs ≡ false → IsIn a s.rules → a.required ≡ true
    → arg_by_id s.rules a.id ≡ Some a → takes_values a ≡ true → IsPassed a (rows_after s.rules [] words)
required_passed s words a clean negates among required own takes =
    let rows = rows_after s.rules [] words in
    let wanted = no_argument_wanted _ _ _ clean.checked in
    let none : list_any (λ (x : Rule). x.required && not (is_given x.id rows)) s.rules ≡ false = rw negates at wanted in
    let given : (a.required && not (is_given a.id rows)) ≡ false = none_fails (λ x. x.required && not (is_given x.id rows)) a s.rules among none in
    let row = given_row a.id (find (λ r. bytes_eq r.id a.id) rows) (not_false (is_given a.id rows) (rw required at given)) in
    first_passes s.rules a rows row.0 clean.fits row.1 own takes
  where
    not_false : (b : Bool) → not b ≡ false → b ≡ true
    not_false true e = refl
    not_false false e = absurd cc

row_of_first : (o : Option Row) (v : Text) → option_and_then (λ r. slice_get r.values 0) o ≡ Some v → (r : Row) × (o ≡ Some r)
row_of_first None v e = absurd cc
row_of_first (Some r) v e = (r, refl)

-- an argument that may be left out has no other value than one that passes its parser
if_named_passed : (s : Shape) (words : List Text) (a : Rule) → IsFaultless s words → arg_by_id s.rules a.id ≡ Some a → takes_values a ≡ true
    → ForSome (first_of a.id (rows_after s.rules [] words)) (λ v. accepts a.ignore_case (parser_of_value a.parser) v ≡ true)
if_named_passed s words a clean own takes v is =
    let rows = rows_after s.rules [] words in
    let row = row_of_first (find (λ r. bytes_eq r.id a.id) rows) v is in
    let passed = first_passes s.rules a rows row.0 clean.fits row.1 own takes in
    let same : Some passed.0 ≡ Some v = sym passed.1 ∙ is in
    subst (λ (o : Option Text). accepts a.ignore_case (parser_of_value a.parser) (unwrap_or o v) ≡ true) same passed.2

within_range : (least most : ℕ) (v : Text) → accepts false (Unsigned least most) v ≡ true → IsWithin least most v
within_range least most v passed =
    let within = accepts-Accepts false (Unsigned least most) v passed in
    (within.0, (within.2, within.3))

value_there : (id v : Text) (rows : List Row) → first_of id rows ≡ Some v → HasValue id rows
value_there id v rows is = ap is_some is

number_there : (least most : ℕ) (id v : Text) (rows : List Row) → first_of id rows ≡ Some v → accepts false (Unsigned least most) v ≡ true
    → HasNumber id rows × ((least ≤ numeral_value (value_of id rows)) × (numeral_value (value_of id rows) ≤ most))
number_there least most id v rows is passed =
    let within = accepts-Accepts false (Unsigned least most) v passed in
    let same : Some v ≡ first_of id rows = sym is in
    subst (λ (o : Option Text). ((is_some o ≡ true) × (IsNumeral 10 (without_leading_plus (unwrap_or o [])) × (numeral_value (unwrap_or o []) < 2 ^ 64)))
    × ((least ≤ numeral_value (unwrap_or o [])) × (numeral_value (unwrap_or o []) ≤ most))) same
    ((refl, (within.0, within.1)), (within.2, within.3))

-- ---- the commands

abbrev file_built : Rule
file_built = with_index 1 (filled file_rule)

abbrev layout_built : Rule
layout_built = filled layout_rule

abbrev levels_built : Rule
levels_built = filled levels_rule

abbrev steps_built : Rule
steps_built = filled steps_rule

abbrev key_built : Rule
key_built = filled key_rule

abbrev nonce_built : Rule
nonce_built = filled nonce_rule

abbrev tags_built : Rule
tags_built = filled tags_rule

abbrev page_limit_built : Rule
page_limit_built = filled page_limit_rule

abbrev number_built : Rule
number_built = with_index 1 (filled number_rule)

abbrev trace_built : Rule
trace_built = with_index 2 (filled trace_rule)

abbrev first_file_built : Rule
first_file_built = with_index 1 (filled first_file_rule)

abbrev second_file_built : Rule
second_file_built = with_index 2 (filled second_file_rule)

abbrev second_key_built : Rule
second_key_built = filled second_key_rule

-- a command that takes a file, a layout and levels, whatever else it takes
program_there : (s : Shape) (words : List Text) → IsFaultless s words → s.subcommand_negates_reqs ≡ false
    → IsIn file_built s.rules → arg_by_id s.rules (codes "file") ≡ Some file_built
    → IsIn layout_built s.rules → arg_by_id s.rules (codes "layout") ≡ Some layout_built
    → arg_by_id s.rules (codes "levels") ≡ Some levels_built → HasProgram (rows_after s.rules [] words)
program_there s words clean negates in_file own_file in_layout own_layout own_levels =
    let file = required_passed s words file_built clean negates in_file refl own_file refl in
    let layout = default_passed s words layout_built clean in_layout tt own_layout refl in
    let number = number_there 1 2 (codes "layout") layout.0 (rows_after s.rules [] words) layout.1 layout.2 in
    record {
      file = value_there (codes "file") file.0 (rows_after s.rules [] words) file.1;
      layout = number.0;
      layouts = (number.0.1.0, number.1);
      levels = λ v is. within_range 1 8 v (if_named_passed s words levels_built clean own_levels refl v is);
    }

-- a command that runs the program that is there, whatever else it takes
execution_there : (s : Shape) (words : List Text) → IsFaultless s words → HasProgram (rows_after s.rules [] words)
    → IsIn steps_built s.rules → arg_by_id s.rules (codes "steps") ≡ Some steps_built → HasExecution (rows_after s.rules [] words)
execution_there s words clean program in_steps own_steps =
    let steps = default_passed s words steps_built clean in_steps tt own_steps refl in
    record {
      program = program;
      steps = (number_there 0 (2 ^ 64 - 1) (codes "steps") steps.0 (rows_after s.rules [] words) steps.1 steps.2).0;
    }

-- `run` and `trace`, by their names
abbrev pub protected_built : Text → Shape
protected_built name = record (slice_index_or (built chip_app).subs 0 help_shape) { name = name }

abbrev pub plain_built : Shape
plain_built = slice_index_or (built chip_app).subs 1 help_shape

abbrev pub asm_built : Shape
asm_built = slice_index_or (built chip_app).subs 2 help_shape

-- `dis` and `measure`, by their names
abbrev pub inspection_built : Text → Shape
inspection_built name = record (slice_index_or (built chip_app).subs 3 help_shape) { name = name }

-- `verify`
abbrev pub verify_built : Shape
verify_built = slice_index_or (built chip_app).subs 5 help_shape

abbrev bench_built : Shape
bench_built = slice_index_or (built chip_app).subs 6 help_shape

-- `judge`
abbrev pub judge_built : Shape
judge_built = slice_index_or (built chip_app).subs 8 help_shape

-- `pair`
abbrev pub pair_built : Shape
pair_built = slice_index_or (built chip_app).subs 9 help_shape

protected_owns : (name : Text) → Owns (protected_built name).rules (protected_built name).rules
protected_owns name = ((refl, λ takes. refl), ((refl, λ takes. absurd cc), ((refl, λ takes. refl), ((refl, λ takes. refl), ((refl, λ takes. refl), ((refl, λ takes. refl), ((refl, λ takes. refl), ((refl, λ takes. refl), ((refl, λ takes. refl), ((refl, λ takes. refl), ((refl, λ takes. refl), ((refl, λ takes. absurd cc), tt))))))))))))

plain_owns : Owns plain_built.rules plain_built.rules
plain_owns = ((refl, λ takes. refl), ((refl, λ takes. absurd cc), ((refl, λ takes. refl), ((refl, λ takes. refl), ((refl, λ takes. refl), ((refl, λ takes. refl), ((refl, λ takes. absurd cc), tt)))))))

judge_owns : Owns judge_built.rules judge_built.rules
judge_owns = ((refl, λ takes. refl), ((refl, λ takes. absurd cc), ((refl, λ takes. refl), ((refl, λ takes. refl), ((refl, λ takes. refl), ((refl, λ takes. refl), ((refl, λ takes. refl), ((refl, λ takes. absurd cc), tt))))))))

pair_owns : Owns pair_built.rules pair_built.rules
pair_owns = ((refl, λ takes. refl), ((refl, λ takes. refl), ((refl, λ takes. refl), ((refl, λ takes. refl), ((refl, λ takes. refl), ((refl, λ takes. refl), ((refl, λ takes. refl), ((refl, λ takes. absurd cc), tt))))))))

asm_owns : Owns asm_built.rules asm_built.rules
asm_owns = ((refl, λ takes. refl), ((refl, λ takes. refl), ((refl, λ takes. refl), ((refl, λ takes. absurd cc), tt))))

verify_owns : Owns verify_built.rules verify_built.rules
verify_owns = ((refl, λ takes. refl), ((refl, λ takes. refl), ((refl, λ takes. absurd cc), tt)))

bench_owns : Owns bench_built.rules bench_built.rules
bench_owns = ((refl, λ takes. refl), ((refl, λ takes. absurd cc), tt))

inspection_owns : (name : Text) → Owns (inspection_built name).rules (inspection_built name).rules
inspection_owns name = ((refl, λ takes. refl), ((refl, λ takes. absurd cc), ((refl, λ takes. refl), ((refl, λ takes. refl), ((refl, λ takes. absurd cc), tt)))))

protected_has : (name : Text) (words : List Text) → level_fault (protected_built name) [] nothing_held words false [] ≡ []
    → HasProtectedRun (rows_after (protected_built name).rules [] words)
protected_has name words e =
    let s = protected_built name in
    let clean = faultless s words (protected_owns name) e in
    let program = program_there s words clean refl (inl refl) refl (inr (inr (inl refl))) refl refl in
    let key = default_passed s words key_built clean (inr (inr (inr (inr (inr (inr (inr (inl refl)))))))) tt refl refl in
    let nonce = default_passed s words nonce_built clean (inr (inr (inr (inr (inr (inr (inr (inr (inl refl))))))))) tt refl refl in
    let tags = default_passed s words tags_built clean (inr (inr (inr (inr (inr (inr (inr (inr (inr (inl refl)))))))))) tt refl refl in
    let limit = default_passed s words page_limit_built clean (inr (inr (inr (inr (inr (inr (inr (inr (inr (inr (inl refl))))))))))) tt refl refl in
    record {
      execution = execution_there s words clean program (inr (inr (inr (inr (inr (inl refl)))))) refl;
      key = value_there (codes "key") key.0 (rows_after s.rules [] words) key.1;
      nonce = value_there (codes "nonce") nonce.0 (rows_after s.rules [] words) nonce.1;
      tags = value_there (codes "tags") tags.0 (rows_after s.rules [] words) tags.1;
      page_limit = (number_there 0 (2 ^ 64 - 1) (codes "page-limit") limit.0 (rows_after s.rules [] words) limit.1 limit.2).0;
    }

plain_has : (words : List Text) → level_fault plain_built [] nothing_held words false [] ≡ [] → HasExecution (rows_after plain_built.rules [] words)
plain_has words e =
    let s = plain_built in
    let clean = faultless s words plain_owns e in
    let program = program_there s words clean refl (inl refl) refl (inr (inr (inl refl))) refl refl in
    execution_there s words clean program (inr (inr (inr (inr (inr (inl refl)))))) refl

judge_has : (words : List Text) → level_fault judge_built [] nothing_held words false [] ≡ [] → HasJudgement (rows_after judge_built.rules [] words)
judge_has words e =
    let s = judge_built in
    let clean = faultless s words judge_owns e in
    let program = program_there s words clean refl (inl refl) refl (inr (inr (inl refl))) refl refl in
    let trace = required_passed s words trace_built clean refl (inr (inr (inr (inr (inr (inr (inl refl))))))) refl refl refl in
    record {
      execution = execution_there s words clean program (inr (inr (inr (inr (inr (inl refl)))))) refl;
      trace = value_there (codes "trace") trace.0 (rows_after s.rules [] words) trace.1;
    }

pair_has : (words : List Text) → level_fault pair_built [] nothing_held words false [] ≡ [] → HasPair (rows_after pair_built.rules [] words)
pair_has words e =
    let s = pair_built in
    let clean = faultless s words pair_owns e in
    let first_file = required_passed s words first_file_built clean refl (inl refl) refl refl refl in
    let second_file = required_passed s words second_file_built clean refl (inr (inl refl)) refl refl refl in
    let first_key = default_passed s words key_built clean (inr (inr (inr (inr (inr (inl refl)))))) tt refl refl in
    let second_key = default_passed s words second_key_built clean (inr (inr (inr (inr (inr (inr (inl refl))))))) tt refl refl in
    record {
      first_file = value_there (codes "file1") first_file.0 (rows_after s.rules [] words) first_file.1;
      second_file = value_there (codes "file2") second_file.0 (rows_after s.rules [] words) second_file.1;
      first_key = value_there (codes "key") first_key.0 (rows_after s.rules [] words) first_key.1;
      second_key = value_there (codes "key2") second_key.0 (rows_after s.rules [] words) second_key.1;
    }

asm_has : (words : List Text) → level_fault asm_built [] nothing_held words false [] ≡ [] → HasProgram (rows_after asm_built.rules [] words)
asm_has words e =
    program_there asm_built words (faultless asm_built words asm_owns e) refl (inl refl) refl (inr (inl refl)) refl refl

inspection_has : (name : Text) (words : List Text) → level_fault (inspection_built name) [] nothing_held words false [] ≡ []
    → HasProgram (rows_after (inspection_built name).rules [] words)
inspection_has name words e =
    let s = inspection_built name in
    program_there s words (faultless s words (inspection_owns name) e) refl (inl refl) refl (inr (inr (inl refl))) refl refl

verify_has : (words : List Text) → level_fault verify_built [] nothing_held words false [] ≡ [] → HasReport (rows_after verify_built.rules [] words)
verify_has words e =
    let s = verify_built in
    let clean = faultless s words verify_owns e in
    let file = required_passed s words file_built clean refl (inl refl) refl refl refl in
    let key = default_passed s words key_built clean (inr (inl refl)) tt refl refl in
    record {
      file = value_there (codes "file") file.0 (rows_after s.rules [] words) file.1;
      key = value_there (codes "key") key.0 (rows_after s.rules [] words) key.1;
    }

bench_has : (words : List Text) → level_fault bench_built [] nothing_held words false [] ≡ [] → HasWorkload (rows_after bench_built.rules [] words)
bench_has words e =
    let s = bench_built in
    let clean = faultless s words bench_owns e in
    let number = required_passed s words number_built clean refl (inl refl) refl refl refl in
    let within = number_there 0 (2 ^ 32 - 1) (codes "number") number.0 (rows_after s.rules [] words) number.1 number.2 in
    record { number = within.0; bound = below (number_of (rows_after s.rules [] words)) within.1.1 }
  where
    below : (n : ℕ) → n ≤ 2 ^ 32 - 1 → n < 2 ^ 32
    below n most = omega arith

as_run : (words : List Text) → level_fault (protected_built (codes "run")) [] nothing_held words false [] ≡ []
    → HasItsValues (codes "run") (rows_after (protected_built (codes "run")).rules [] words)
as_run words e = let h = protected_has (codes "run") words e in record {
  run = λ is. h;
  plain = λ is. absurd cc;
  asm = λ is. absurd cc;
  dis = λ is. absurd cc;
  measure = λ is. absurd cc;
  verify = λ is. absurd cc;
  bench = λ is. absurd cc;
  trace = λ is. absurd cc;
  judge = λ is. absurd cc;
  pair = λ is. absurd cc;
}

as_plain : (words : List Text) → level_fault plain_built [] nothing_held words false [] ≡ []
    → HasItsValues (codes "plain") (rows_after plain_built.rules [] words)
as_plain words e = let h = plain_has words e in record {
  run = λ is. absurd cc;
  plain = λ is. h;
  asm = λ is. absurd cc;
  dis = λ is. absurd cc;
  measure = λ is. absurd cc;
  verify = λ is. absurd cc;
  bench = λ is. absurd cc;
  trace = λ is. absurd cc;
  judge = λ is. absurd cc;
  pair = λ is. absurd cc;
}

as_assembly : (words : List Text) → level_fault asm_built [] nothing_held words false [] ≡ []
    → HasItsValues (codes "asm") (rows_after asm_built.rules [] words)
as_assembly words e = let h = asm_has words e in record {
  run = λ is. absurd cc;
  plain = λ is. absurd cc;
  asm = λ is. h;
  dis = λ is. absurd cc;
  measure = λ is. absurd cc;
  verify = λ is. absurd cc;
  bench = λ is. absurd cc;
  trace = λ is. absurd cc;
  judge = λ is. absurd cc;
  pair = λ is. absurd cc;
}

as_dis : (words : List Text) → level_fault (inspection_built (codes "dis")) [] nothing_held words false [] ≡ []
    → HasItsValues (codes "dis") (rows_after (inspection_built (codes "dis")).rules [] words)
as_dis words e = let h = inspection_has (codes "dis") words e in record {
  run = λ is. absurd cc;
  plain = λ is. absurd cc;
  asm = λ is. absurd cc;
  dis = λ is. h;
  measure = λ is. absurd cc;
  verify = λ is. absurd cc;
  bench = λ is. absurd cc;
  trace = λ is. absurd cc;
  judge = λ is. absurd cc;
  pair = λ is. absurd cc;
}

as_measure : (words : List Text) → level_fault (inspection_built (codes "measure")) [] nothing_held words false [] ≡ []
    → HasItsValues (codes "measure") (rows_after (inspection_built (codes "measure")).rules [] words)
as_measure words e = let h = inspection_has (codes "measure") words e in record {
  run = λ is. absurd cc;
  plain = λ is. absurd cc;
  asm = λ is. absurd cc;
  dis = λ is. absurd cc;
  measure = λ is. h;
  verify = λ is. absurd cc;
  bench = λ is. absurd cc;
  trace = λ is. absurd cc;
  judge = λ is. absurd cc;
  pair = λ is. absurd cc;
}

as_verification : (words : List Text) → level_fault verify_built [] nothing_held words false [] ≡ []
    → HasItsValues (codes "verify") (rows_after verify_built.rules [] words)
as_verification words e = let h = verify_has words e in record {
  run = λ is. absurd cc;
  plain = λ is. absurd cc;
  asm = λ is. absurd cc;
  dis = λ is. absurd cc;
  measure = λ is. absurd cc;
  verify = λ is. h;
  bench = λ is. absurd cc;
  trace = λ is. absurd cc;
  judge = λ is. absurd cc;
  pair = λ is. absurd cc;
}

as_bench : (words : List Text) → level_fault bench_built [] nothing_held words false [] ≡ []
    → HasItsValues (codes "bench") (rows_after bench_built.rules [] words)
as_bench words e = let h = bench_has words e in record {
  run = λ is. absurd cc;
  plain = λ is. absurd cc;
  asm = λ is. absurd cc;
  dis = λ is. absurd cc;
  measure = λ is. absurd cc;
  verify = λ is. absurd cc;
  bench = λ is. h;
  trace = λ is. absurd cc;
  judge = λ is. absurd cc;
  pair = λ is. absurd cc;
}

as_trace : (words : List Text) → level_fault (protected_built (codes "trace")) [] nothing_held words false [] ≡ []
    → HasItsValues (codes "trace") (rows_after (protected_built (codes "trace")).rules [] words)
as_trace words e = let h = protected_has (codes "trace") words e in record {
  run = λ is. absurd cc;
  plain = λ is. absurd cc;
  asm = λ is. absurd cc;
  dis = λ is. absurd cc;
  measure = λ is. absurd cc;
  verify = λ is. absurd cc;
  bench = λ is. absurd cc;
  trace = λ is. h;
  judge = λ is. absurd cc;
  pair = λ is. absurd cc;
}

as_judge : (words : List Text) → level_fault judge_built [] nothing_held words false [] ≡ []
    → HasItsValues (codes "judge") (rows_after judge_built.rules [] words)
as_judge words e = let h = judge_has words e in record {
  run = λ is. absurd cc;
  plain = λ is. absurd cc;
  asm = λ is. absurd cc;
  dis = λ is. absurd cc;
  measure = λ is. absurd cc;
  verify = λ is. absurd cc;
  bench = λ is. absurd cc;
  trace = λ is. absurd cc;
  judge = λ is. h;
  pair = λ is. absurd cc;
}

as_pair : (words : List Text) → level_fault pair_built [] nothing_held words false [] ≡ []
    → HasItsValues (codes "pair") (rows_after pair_built.rules [] words)
as_pair words e = let h = pair_has words e in record {
  run = λ is. absurd cc;
  plain = λ is. absurd cc;
  asm = λ is. absurd cc;
  dis = λ is. absurd cc;
  measure = λ is. absurd cc;
  verify = λ is. absurd cc;
  bench = λ is. absurd cc;
  trace = λ is. absurd cc;
  judge = λ is. absurd cc;
  pair = λ is. h;
}

-- the command that was met is one of the ten, and has its values
pub command_has : (stop : Option (Text × List Text)) → IsNoHelp stop → entered_fault (built chip_app) stop ≡ [] → IfCommand (entered (built chip_app) stop)
command_has None free e = tt
command_has (Some p) free e =
    go (bytes_eq (codes "run") p.0) refl (bytes_eq (codes "plain") p.0) refl (bytes_eq (codes "asm") p.0) refl (bytes_eq (codes "dis") p.0) refl
    (bytes_eq (codes "measure") p.0) refl (bytes_eq (codes "verify") p.0) refl (bytes_eq (codes "bench") p.0) refl
    (bytes_eq (codes "trace") p.0) refl (bytes_eq (codes "judge") p.0) refl (bytes_eq (codes "pair") p.0) refl
    (bytes_eq (codes "help") p.0) refl
  where
    help_is : bytes_eq (codes "help") p.0 ≡ true → bytes_eq p.0 (codes "help") ≡ true
    help_is is = (bytes_eq-Decides p.0 (codes "help")).1 (sym ((bytes_eq-Decides (codes "help") p.0).0 is))

    go : (a : Bool) → bytes_eq (codes "run") p.0 ≡ a → (b : Bool) → bytes_eq (codes "plain") p.0 ≡ b
        → (c : Bool) → bytes_eq (codes "asm") p.0 ≡ c → (d : Bool) → bytes_eq (codes "dis") p.0 ≡ d
        → (m : Bool) → bytes_eq (codes "measure") p.0 ≡ m → (k : Bool) → bytes_eq (codes "verify") p.0 ≡ k
        → (n : Bool) → bytes_eq (codes "bench") p.0 ≡ n → (i : Bool) → bytes_eq (codes "trace") p.0 ≡ i
        → (j : Bool) → bytes_eq (codes "judge") p.0 ≡ j → (l : Bool) → bytes_eq (codes "pair") p.0 ≡ l
        → (h : Bool) → bytes_eq (codes "help") p.0 ≡ h
        → IfCommand (entered (built chip_app) (Some p))
    go true x b y c z d u m v k q n t i r j o l g h w = rw x (as_run p.1 (rw x at e))
    go false x true y c z d u m v k q n t i r j o l g h w = rw (x, y) (as_plain p.1 (rw (x, y) at e))
    go false x false y true z d u m v k q n t i r j o l g h w = rw (x, y, z) (as_assembly p.1 (rw (x, y, z) at e))
    go false x false y false z true u m v k q n t i r j o l g h w = rw (x, y, z, u) (as_dis p.1 (rw (x, y, z, u) at e))
    go false x false y false z false u true v k q n t i r j o l g h w = rw (x, y, z, u, v) (as_measure p.1 (rw (x, y, z, u, v) at e))
    go false x false y false z false u false v true q n t i r j o l g h w = rw (x, y, z, u, v, q) (as_verification p.1 (rw (x, y, z, u, v, q) at e))
    go false x false y false z false u false v false q true t i r j o l g h w = rw (x, y, z, u, v, q, t) (as_bench p.1 (rw (x, y, z, u, v, q, t) at e))
    go false x false y false z false u false v false q false t true r j o l g h w =
        rw (x, y, z, u, v, q, t, r) (as_trace p.1 (rw (x, y, z, u, v, q, t, r) at e))
    go false x false y false z false u false v false q false t false r true o l g h w =
        rw (x, y, z, u, v, q, t, r, o) (as_judge p.1 (rw (x, y, z, u, v, q, t, r, o) at e))
    go false x false y false z false u false v false q false t false r false o true g h w =
        rw (x, y, z, u, v, q, t, r, o, g) (as_pair p.1 (rw (x, y, z, u, v, q, t, r, o, g) at e))
    go false x false y false z false u false v false q false t false r false o false g true w = absurd (let bad = rw (help_is w) at free in cc)
    go false x false y false z false u false v false q false t false r false o false g false w = rw (x, y, z, u, v, q, t, r, o, g, w) tt
