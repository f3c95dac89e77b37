-- Words without a fault leave values that pass the parsers of their arguments.
use Rattle.std.proofs.Common.{◌≡◌, ◌∙◌, ◌&&◌, ◌||◌, ap₂, subst, ℕ, Bool, zero, suc, List, [], ◌∷◌, ◌++◌, Option, Some, None, true, false, not, inl, inr, refl, sym, length, is_some, nat_lt, ◌+◌, if◌then◌else◌, unwrap_or, arith}
use Rattle.std.specs.Prelude.{find, fold, min, slice_get, ◌⊎◌, drop, encode_utf8}
use Rattle.std.specs.Option.{option_map_or}
use Rattle.std.specs.Str.{bytes_eq, chars}
use Rattle.std.proofs.lemmas.Slice.Eq.{bytes_eq-Decides}
use Rattle.std.proofs.lemmas.Bool.{ne_eqb}
use Rattle.clap.specs.Facts.{parser_of_value, unwrap_or_range}
use Rattle.clap.specs.Lexer.{long_of, short_of}
use Rattle.clap.specs.Matches.{count_text}
use Rattle.clap.specs.ValueTests.{accepts}
use Rattle.clap.specs.Kinds.{Kinds, or_else, range_kinds, request_kinds, value_kinds, values_kinds}
use Rattle.clap.specs.Walk.{Held, Names, Outcome, Row, Rule, Step, Text, Waiting, Walk, action_of, after_flag, after_step, arg_by_id, arg_by_index, arg_by_long, arg_by_short, at_row, attached_value, bundle, bundle_met, bundle_step, counted, count_of, default_rows, done, flag_met, has_long, finished, first_of, has_row, has_short, idle, is_empty, is_pending, long_met, long_or_other, more_values, most_values, new_count, next, option, option_met, option_word, plain, plain_word, positional, reacted, reading_by, refused, settled, settled_rows, short_met, short_or_plain, subcommand, subcommand_met, subcommand_or_other, takes_several, takes_values, to_positional, trailing, used, used_as, used_by_id, value, values_or_missing, waits, walked, walked_from, with_count, with_default, with_values, without, word_met}
use Rattle.clap.specs.Simple.{Shape}
use Rattle.clap.specs.Faults.{action_fault, bundle_fault, bundle_step_fault, default_fault, defaults_fault, flags_fault, flag_word_fault, given_default_fault, long_fault, option_fault, other_fault, positional_fault, react_fault, repeat_fault, settle_fault, short_fault, step_fault, stray_fault, turn_fault, use_fault, values_fault, walk_fault, word_fault}
use Rattle.clap.specs.declared.builder.action.ArgAction.{ArgAction}
use Rattle.clap.specs.declared.builder.action.ArgAction.TheVariants.{Set, Append, SetTrue, SetFalse, Count, Help, HelpShort, HelpLong, Version}
use Rattle.clap.specs.declared.error.kind.ErrorKind.TheVariants.{TooManyValues}
use Rattle.clap.specs.declared.builder.value_parser.Reading.{Reading}
use Rattle.clap.specs.declared.builder.value_parser.ValueParser.{ValueParser}
use Rattle.clap.specs.declared.parser.matches.ValueSource.{ValueSource}
use Rattle.clap.specs.declared.parser.matches.ValueSource.TheVariants.{CommandLine, DefaultValue}
use Rattle.chip_words.proofs.Walks.{both_empty}

-- ---- arguments

-- the argument is the one that its id finds, and where it takes values, each use has one
abbrev IsOwn : List Rule → Rule → Type 0
IsOwn c a = (arg_by_id c a.id ≡ Some a) × (takes_values a ≡ true → nat_lt 0 (unwrap_or_range a.range).start_inclusive ≡ true)

abbrev pub Owns : List Rule → List Rule → Type 0
Owns c [] = Unit {0}
Owns c (a ∷ rest) = IsOwn c a × Owns c rest

found_own : (c d : List Rule) (p : Rule → Bool) (a : Rule) → Owns c d → find p d ≡ Some a → IsOwn c a
found_own c [] p a own e = absurd cc
found_own c (x ∷ xs) p a own e = go (p x) refl (λ later. found_own c xs p a own.1 later)
  where
    go : (b : Bool) → p x ≡ b → (find p xs ≡ Some a → IsOwn c a) → IsOwn c a
    go true is rest =
        let same : Some x ≡ Some a = rw is at e in
        subst (λ (o : Option Rule). IsOwn c (unwrap_or o a)) same own.0
    go false is rest = rest (rw is at e)

-- ---- values

abbrev pub HasSome : List Text → Type 0
HasSome [] = ⊥
HasSome (v ∷ vs) = Unit {0}

append_has : (xs ys : List Text) → HasSome ys → HasSome (xs ++ ys)
append_has [] ys h = h
append_has (x ∷ xs) ys h = tt

kinds_append : (i : Bool) (p : ValueParser) (xs ys : List Text) → values_kinds i p xs ≡ [] → values_kinds i p ys ≡ [] → values_kinds i p (xs ++ ys) ≡ []
kinds_append i p [] ys e f = f
kinds_append i p (x ∷ xs) ys e f =
    let parts = both_empty (value_kinds i p x) (values_kinds i p xs) e in
    ap₂ or_else parts.0 (kinds_append i p xs ys parts.1 f)

-- the values pass the parser of the argument of this id, where it takes values, and are there
abbrev pub PassFor : List Rule → Text → List Text → Type 0
PassFor c id values = (a : Rule) → arg_by_id c id ≡ Some a → takes_values a ≡ true → HasSome values × (values_fault a values ≡ [])

abbrev pub AllFit : List Rule → List Row → Type 0
AllFit c [] = Unit {0}
AllFit c (r ∷ rs) = PassFor c r.id r.values × AllFit c rs

fit_append : (c : List Rule) (xs ys : List Row) → AllFit c xs → AllFit c ys → AllFit c (xs ++ ys)
fit_append c [] ys h k = k
fit_append c (x ∷ xs) ys h k = (h.0, fit_append c xs ys h.1 k)

at_row_fits : (c : List Rule) (id : Text) (change : Row → List Row) (missing : List Row) (rows : List Row) → AllFit c rows
    → ((r : Row) → PassFor c r.id r.values → bytes_eq r.id id ≡ true → AllFit c (change r)) → AllFit c missing
    → AllFit c (at_row id change missing rows)
at_row_fits c id change missing [] h f m = m
at_row_fits c id change missing (r ∷ rs) h f m = go (bytes_eq r.id id) refl (at_row_fits c id change missing rs h.1 f m)
  where
    go : (b : Bool) → bytes_eq r.id id ≡ b → AllFit c (at_row id change missing rs)
        → AllFit c (if b then change r ++ rs else r ∷ at_row id change missing rs)
    go true is rest = fit_append c (change r) rs (f r h.0 is) h.1
    go false is rest = (h.0, rest)

without_fits : (c : List Rule) (id : Text) (rows : List Row) → AllFit c rows → AllFit c (without id rows)
without_fits c id rows h = at_row_fits c id (λ _. []) [] rows h (λ r fit same. tt) tt

more_pass : (c : List Rule) (id : Text) (r : Row) (values : List Text) → PassFor c r.id r.values → bytes_eq r.id id ≡ true → PassFor c id values
    → PassFor c r.id (r.values ++ values)
more_pass c id r values fit same pass a by takes =
    let by_id : arg_by_id c id ≡ Some a = subst (λ (t : Text). arg_by_id c t ≡ Some a) ((bytes_eq-Decides r.id id).0 same) by in
    let old = fit a by takes in
    let new = pass a by_id takes in
    (append_has r.values values new.0, kinds_append a.ignore_case (parser_of_value a.parser) r.values values old.1 new.1)

with_values_fits : (c : List Rule) (id : Text) (how : Reading) (s : ValueSource) (values : List Text) (rows : List Row) → AllFit c rows
    → PassFor c id values → AllFit c (with_values id how s values rows)
with_values_fits c id how s values rows h pass =
    at_row_fits c id (more_values s values) _ rows h (λ r fit same. (more_pass c id r values fit same pass, tt)) (pass, tt)

with_count_fits : (c : List Rule) (id : Text) (how : Reading) (s : ValueSource) (n : ℕ) (rows : List Row) → AllFit c rows
    → PassFor c id (count_text n ∷ []) → AllFit c (with_count id how s n rows)
with_count_fits c id how s n rows h pass =
    at_row_fits c id (new_count s n) _ rows h (λ r fit same. (more_pass c id r (count_text n ∷ []) fit same pass, tt)) (pass, tt)

-- ---- one use of an argument

some_values : (least most : ℕ) (values : List Text) → nat_lt 0 least ≡ true → range_kinds least most (length values) ≡ [] → HasSome values
some_values least most [] some e = let bad = rw some at e in absurd cc
some_values least most (v ∷ vs) some e = tt

action_pass : (x : ArgAction) (again : Bool) (a : Rule) (v : Text) (vs : List Text) (rows : List Row)
    → action_fault x again a (v ∷ vs) rows ≡ [] → values_fault a (v ∷ vs) ≡ []
action_pass Set again a v vs rows e = (both_empty (repeat_fault again a.id rows) (values_fault a (v ∷ vs)) e).1
action_pass SetTrue again a v vs rows e = (both_empty (repeat_fault again a.id rows) (values_fault a (v ∷ vs)) e).1
action_pass SetFalse again a v vs rows e = (both_empty (repeat_fault again a.id rows) (values_fault a (v ∷ vs)) e).1
action_pass Append again a v vs rows e = e
action_pass Count again a v vs rows e = e
action_pass Help again a v vs rows e = absurd cc
action_pass HelpShort again a v vs rows e = absurd cc
action_pass HelpLong again a v vs rows e = absurd cc
action_pass Version again a v vs rows e = absurd cc

use_pass : (c : List Rule) (again : Bool) (a : Rule) (values : List Text) (rows : List Row) → IsOwn c a → use_fault again a values rows ≡ []
    → PassFor c a.id (values_or_missing a values)
use_pass c again a [] rows own e b by takes =
    let same : Some b ≡ Some a = sym by ∙ own.0 in
    let takes_too = subst (λ (o : Option Rule). takes_values (unwrap_or o a) ≡ true) same takes in
    let parts = both_empty (range_kinds (unwrap_or_range a.range).start_inclusive (most_values a) 0)
    (action_fault (action_of a) again a (values_or_missing a []) rows) e in
    absurd (some_values (unwrap_or_range a.range).start_inclusive (most_values a) [] (own.1 takes_too) parts.0)
use_pass c again a (v ∷ vs) rows own e b by takes =
    let same : Some a ≡ Some b = sym own.0 ∙ by in
    let parts = both_empty (range_kinds (unwrap_or_range a.range).start_inclusive (most_values a) (length (v ∷ vs)))
    (action_fault (action_of a) again a (v ∷ vs) rows) e in
    (tt, subst (λ (o : Option Rule). values_fault (unwrap_or o a) (v ∷ vs) ≡ []) same (action_pass (action_of a) again a v vs rows parts.1))

counted_fits : (c : List Rule) (id : Text) (how : Reading) (values : List Text) (rows : List Row) → AllFit c rows → PassFor c id values
    → AllFit c (counted id how values rows)
counted_fits c id how [] rows h pass =
    with_count_fits c id how CommandLine (min (count_of id rows + 1) 255) (without id rows) (without_fits c id rows h)
    (λ a by takes. absurd (pass a by takes).0)
counted_fits c id how (v ∷ vs) rows h pass =
    with_values_fits c id how CommandLine (v ∷ vs) (without id rows) (without_fits c id rows h) pass

used_as_fits : (x : ArgAction) (c : List Rule) (id : Text) (how : Reading) (values : List Text) (rows : List Row) → AllFit c rows → PassFor c id values
    → AllFit c (used_as x id how values rows)
used_as_fits Set c id how values rows h pass = with_values_fits c id how CommandLine values (without id rows) (without_fits c id rows h) pass
used_as_fits SetTrue c id how values rows h pass = with_values_fits c id how CommandLine values (without id rows) (without_fits c id rows h) pass
used_as_fits SetFalse c id how values rows h pass = with_values_fits c id how CommandLine values (without id rows) (without_fits c id rows h) pass
used_as_fits Append c id how values rows h pass = with_values_fits c id how CommandLine values rows h pass
used_as_fits Count c id how values rows h pass = counted_fits c id how values rows h pass
used_as_fits Help c id how values rows h pass = h
used_as_fits HelpShort c id how values rows h pass = h
used_as_fits HelpLong c id how values rows h pass = h
used_as_fits Version c id how values rows h pass = h

used_fits : (c : List Rule) (again : Bool) (a : Rule) (values : List Text) (rows : List Row) → IsOwn c a → AllFit c rows → use_fault again a values rows ≡ []
    → AllFit c (used a values rows)
used_fits c again a values rows own h e =
    used_as_fits (action_of a) c a.id (reading_by a) (values_or_missing a values) rows h (use_pass c again a values rows own e)

-- ---- the walk

id_fits : (c : List Rule) (again : Bool) (o : Option Rule) (values : List Text) (rows : List Row)
    → ((a : Rule) → o ≡ Some a → IsOwn c a) → AllFit c rows → option_map_or (λ a. use_fault again a values rows) o [] ≡ []
    → AllFit c (used_by_id o values rows)
id_fits c again None values rows own h e = h
id_fits c again (Some a) values rows own h e = used_fits c again a values rows (own a refl) h e

pending_fits : (c : List Rule) (again : Bool) (o : Option (Text × List Text)) (rows : List Row) → Owns c c → AllFit c rows
    → option_map_or (λ p. option_map_or (λ a. use_fault again a p.1 rows) (arg_by_id c p.0) []) o [] ≡ []
    → AllFit c (settled_rows c o rows)
pending_fits c again None rows owns h e = h
pending_fits c again (Some p) rows owns h e =
    id_fits c again (arg_by_id c p.0) p.1 rows (λ a is. found_own c c (λ x. bytes_eq x.id p.0) a owns is) h e

pub settled_fits : (c : List Rule) (again : Bool) (h : Held) → Owns c c → AllFit c h.rows → settle_fault c again h ≡ [] → AllFit c (settled c h).rows
settled_fits c again h owns fit e = pending_fits c again h.pending h.rows owns fit e

reacted_fits : (c : List Rule) (again : Bool) (a : Rule) (values : List Text) (h : Held) → Owns c c → IsOwn c a → AllFit c h.rows
    → react_fault c again a values h ≡ [] → AllFit c (reacted c a values h).rows
reacted_fits c again a values h owns own fit e =
    let parts = both_empty (settle_fault c again h) (use_fault again a values (settled c h).rows) e in
    used_fits c again a values (settled c h).rows own (settled_fits c again h owns fit parts.0) parts.1

option_fits : (c : List Rule) (again : Bool) (a : Rule) (v : Option Text) (h : Held) → Owns c c → IsOwn c a → AllFit c h.rows
    → option_fault c again a v h ≡ [] → AllFit c (option_met c a v h).0.rows
option_fits c again a None h owns own fit e = settled_fits c again h owns fit e
option_fits c again a (Some v) h owns own fit e = reacted_fits c again a (v ∷ []) h owns own fit e

flag_fits : (c : List Rule) (again : Bool) (a : Rule) (v : Option Text) (h : Held) → Owns c c → IsOwn c a → AllFit c h.rows
    → (if is_some v then TooManyValues ∷ [] else react_fault c again a [] h) ≡ [] → AllFit c (flag_met c a v h).0.rows
flag_fits c again a None h owns own fit e = reacted_fits c again a [] h owns own fit e
flag_fits c again a (Some v) h owns own fit e = fit

long_fits : (c : List Rule) (again : Bool) (o : Option Rule) (v : Option Text) (h : Held) → Owns c c → ((a : Rule) → o ≡ Some a → IsOwn c a) → AllFit c h.rows
    → long_fault c again o v h ≡ [] → AllFit c (long_met c o v h).0.rows
long_fits c again None v h owns own fit e = fit
long_fits c again (Some a) v h owns own fit e = go (takes_values a) e
  where
    go : (b : Bool) → (if b then option_fault c again a v h else (if is_some v then TooManyValues ∷ [] else react_fault c again a [] h)) ≡ []
        → AllFit c (if b then option_met c a v h else flag_met c a v h).0.rows
    go true f = option_fits c again a v h owns (own a refl) fit f
    go false f = flag_fits c again a v h owns (own a refl) fit f

short_fits : (c : List Rule) (again : Bool) (o : Option Rule) (rest : Text) (h : Held) (step : Held → Held × Outcome) (fault : Held → Kinds)
    → Owns c c → ((a : Rule) → o ≡ Some a → IsOwn c a) → AllFit c h.rows
    → ((k : Held) → AllFit c k.rows → fault k ≡ [] → AllFit c (step k).0.rows)
    → short_fault c again o rest h fault ≡ [] → AllFit c (short_met c o rest h step).0.rows
short_fits c again None rest h step fault owns own fit later e = fit
short_fits c again (Some a) rest h step fault owns own fit later e = go (takes_values a) e
  where
    go : (b : Bool) → (if b then option_fault c again a (attached_value rest) h else or_else (react_fault c again a [] h) (fault (reacted c a [] h))) ≡ []
        → AllFit c (if b then option_met c a (attached_value rest) h else step (reacted c a [] h)).0.rows
    go true f = option_fits c again a (attached_value rest) h owns (own a refl) fit f
    go false f =
        let parts = both_empty (react_fault c again a [] h) (fault (reacted c a [] h)) f in
        later (reacted c a [] h) (reacted_fits c again a [] h owns (own a refl) fit parts.0) parts.1

bundle_step_fits : (c : List Rule) (again : Bool) (o : Option ℕ) (flags : Text) (skip : ℕ) (so_far : Outcome) (h : Held)
    (step : Text → ℕ → Outcome → Held → Held × Outcome) (fault : Text → ℕ → Held → Kinds)
    → Owns c c → AllFit c h.rows
    → ((f : Text) (n : ℕ) (x : Outcome) (k : Held) → AllFit c k.rows → fault f n k ≡ [] → AllFit c (step f n x k).0.rows)
    → bundle_step_fault c again o flags skip h fault ≡ [] → AllFit c (bundle_step c o flags skip so_far h step).0.rows
bundle_step_fits c again None flags skip so_far h step fault owns fit later e = fit
bundle_step_fits c again (Some x) flags zero so_far h step fault owns fit later e =
    let rest = drop (length (encode_utf8 x)) flags in
    short_fits c again (arg_by_short c x) rest h (step rest 0 done) (fault rest 0) owns
    (λ a is. found_own c c (λ r. not (is_some r.index) && has_short r x) a owns is) fit (λ k. later rest 0 done k) e
bundle_step_fits c again (Some x) flags (suc skip) so_far h step fault owns fit later e =
    later (drop (length (encode_utf8 x)) flags) skip so_far h fit e

bundle_fits : (c : List Rule) (again : Bool) (k : ℕ) (flags : Text) (skip : ℕ) (so_far : Outcome) (h : Held) → Owns c c → AllFit c h.rows
    → flags_fault c again k flags skip h ≡ [] → AllFit c (bundle_met c k flags skip so_far h).0.rows
unfolding flags_fault bundle_met
bundle_fits c again zero flags skip so_far h owns fit e = fit
bundle_fits c again (suc k) flags skip so_far h owns fit e =
    bundle_step_fits c again (slice_get (chars flags) 0) flags skip so_far h (bundle_met c k) (flags_fault c again k) owns fit
    (λ f n x held fits fault. bundle_fits c again k f n x held owns fits fault) e

option_word_fits : (c : List Rule) (o : Option Rule) (id word : Text) (h : Held) → AllFit c h.rows → AllFit c (option_word o id word h).0.rows
option_word_fits c None id word h fit = fit
option_word_fits c (Some a) id word h fit = fit

plain_fits : (c : List Rule) (waiting : Waiting) (word : Text) (h : Held) → AllFit c h.rows → AllFit c (plain_word c waiting word h).0.rows
plain_fits c idle word h fit = fit
plain_fits c (option id) word h fit = option_word_fits c (arg_by_id c id) id word h fit
plain_fits c positional word h fit = fit

after_fits : (c : List Rule) (waiting : Waiting) (word : Text) (h : Held) (o : Outcome) → AllFit c h.rows → AllFit c (after_flag c waiting word h o).0.rows
after_fits c waiting word h done fit = fit
after_fits c waiting word h (waits id) fit = fit
after_fits c waiting word h plain fit = plain_fits c waiting word h fit
after_fits c waiting word h refused fit = plain_fits c waiting word h fit

flags_fits : (c : List Rule) (again : Bool) (waiting : Waiting) (word : Text) (o : Option Text) (h : Held) → Owns c c → AllFit c h.rows
    → option_map_or (λ flags. bundle_fault c again flags h) o [] ≡ [] → AllFit c (short_or_plain c waiting word o h).0.rows
flags_fits c again waiting word None h owns fit e = plain_fits c waiting word h fit
flags_fits c again waiting word (Some flags) h owns fit e =
    after_fits c waiting word (bundle c flags h).0 (bundle c flags h).1
    (bundle_fits c again (length flags) flags h.skip plain (record h { skip = 0 }) owns fit e)

flag_word_fits : (c : List Rule) (again : Bool) (waiting : Waiting) (word : Text) (p : Option (Text × Option Text)) (h : Held) → Owns c c → AllFit c h.rows
    → flag_word_fault c again p word h ≡ [] → AllFit c (long_or_other c waiting word p h).0.rows
flag_word_fits c again waiting word None h owns fit e = flags_fits c again waiting word (short_of word) h owns fit e
flag_word_fits c again waiting word (Some p) h owns fit e =
    after_fits c waiting word (long_met c (arg_by_long c p.0) p.1 h).0 (long_met c (arg_by_long c p.0) p.1 h).1
    (long_fits c again (arg_by_long c p.0) p.1 h owns (λ a is. found_own c c (λ r. not (is_some r.index) && has_long r p.0) a owns is) fit e)

other_fits : (s : Shape) (o : Option Text) (waiting : Waiting) (position : ℕ) (word : Text) (h : Held) → Owns s.rules s.rules → AllFit s.rules h.rows
    → other_fault s o word h ≡ [] → AllFit s.rules (subcommand_or_other s.rules o waiting position word h).0.rows
other_fits s (Some name) waiting position word h owns fit e = fit
other_fits s None waiting position word h owns fit e = go (bytes_eq word (45 ∷ 45 ∷ [])) e
  where
    go : (b : Bool) → (if b then [] else flag_word_fault s.rules s.args_override_self (long_of word) word h) ≡ []
        → AllFit s.rules (if b then (h, trailing position) else long_or_other s.rules waiting word (long_of word) h).0.rows
    go true f = fit
    go false f = flag_word_fits s.rules s.args_override_self waiting word (long_of word) h owns fit f

word_fits : (s : Shape) (names : Names) (trail : Bool) (waiting : Waiting) (position : ℕ) (word : Text) (h : Held) → Owns s.rules s.rules → AllFit s.rules h.rows
    → word_fault s names trail waiting word h ≡ [] → AllFit s.rules (word_met s.rules names trail waiting position word h).0.rows
word_fits s names true waiting position word h owns fit e = fit
word_fits s names false waiting position word h owns fit e = other_fits s (subcommand_met names waiting word) waiting position word h owns fit e

positional_fits : (s : Shape) (o : Option Rule) (word : Text) (w : Walk) (h : Held) → Owns s.rules s.rules → AllFit s.rules h.rows
    → option_map_or (λ a. positional_fault s.rules s.args_override_self a h) o (stray_fault s) ≡ []
    → AllFit s.rules (to_positional s.rules o word w h).held.rows
positional_fits s None word w h owns fit e = fit
positional_fits s (Some a) word w h owns fit e = go (is_pending a h.pending && takes_several a) e
  where
    go : (b : Bool) → (if b then [] else settle_fault s.rules s.args_override_self h) ≡ []
        → AllFit s.rules (if b then h else settled s.rules h).rows
    go true f = fit
    go false f = settled_fits s.rules s.args_override_self h owns fit f

step_fits : (s : Shape) (word : Text) (w : Walk) (h : Held) (step : Step) → Owns s.rules s.rules → AllFit s.rules h.rows
    → step_fault s w.position h step ≡ [] → AllFit s.rules (after_step s.rules word w h step).held.rows
step_fits s word w h (next waiting) owns fit e = fit
step_fits s word w h (trailing position) owns fit e = fit
step_fits s word w h (subcommand name) owns fit e = fit
step_fits s word w h value owns fit e = positional_fits s (arg_by_index s.rules w.position) word w h owns fit e

turn_fits : (stopped : Option (Text × List Text)) (s : Shape) (names : Names) (w : Walk) (word : Text) → Owns s.rules s.rules → AllFit s.rules w.held.rows
    → (let met = word_met s.rules names w.is_trailing w.waiting w.position word w.held in
    (if is_some stopped then [] else or_else (word_fault s names w.is_trailing w.waiting word w.held) (step_fault s w.position met.0 met.1)) ≡ [])
    → AllFit s.rules (walked_from s.rules names stopped w word).held.rows
turn_fits (Some p) s names w word owns fit e = fit
turn_fits None s names w word owns fit e =
    let met = word_met s.rules names w.is_trailing w.waiting w.position word w.held in
    let parts = both_empty (word_fault s names w.is_trailing w.waiting word w.held) (step_fault s w.position met.0 met.1) e in
    step_fits s word w met.0 met.1 owns (word_fits s names w.is_trailing w.waiting w.position word w.held owns fit parts.0) parts.1

pub walk_fits : (s : Shape) (names : Names) (words : List Text) (w : Walk) → Owns s.rules s.rules → AllFit s.rules w.held.rows
    → walk_fault s names w words ≡ [] → AllFit s.rules (fold (walked s.rules names) w words).held.rows
unfolding walk_fault walked
walk_fits s names [] w owns fit e = fit
walk_fits s names (word ∷ rest) w owns fit e =
    let parts = both_empty (turn_fault s names w word) (walk_fault s names (walked s.rules names w word) rest) e in
    walk_fits s names rest (walked s.rules names w word) owns (turn_fits w.stopped s names w word owns fit parts.0) parts.1

-- ---- the end of a level

is_empty-cons : {X : Type 0} (x : X) (xs : List X) → is_empty (x ∷ xs) ≡ false
is_empty-cons x xs = ne_eqb _ _ (λ e. omega arith)

default_rows_fit : (c : List Rule) (a : Rule) (values : List Text) (rows : List Row) → IsOwn c a → AllFit c rows
    → (if is_empty values then [] else given_default_fault a values) ≡ [] → AllFit c (default_rows a.id (reading_by a) values rows)
default_rows_fit c a [] rows own fit e = fit
default_rows_fit c a (v ∷ vs) rows own fit e =
    let parts = both_empty (request_kinds (action_of a)) (values_fault a (v ∷ vs)) (rw (is_empty-cons v vs) at e) in
    with_values_fits c a.id (reading_by a) DefaultValue (v ∷ vs) rows fit (λ b by takes.
    let same : Some a ≡ Some b = sym own.0 ∙ by in
    (tt, subst (λ (o : Option Rule). values_fault (unwrap_or o a) (v ∷ vs) ≡ []) same parts.1))

default_fits : (c : List Rule) (a : Rule) (rows : List Row) → IsOwn c a → AllFit c rows → default_fault rows a ≡ [] → AllFit c (with_default rows a)
default_fits c a rows own fit e = go (has_row a.id rows) e
  where
    go : (b : Bool) → (if b || is_empty a.defaults then [] else given_default_fault a a.defaults) ≡ []
        → AllFit c (if b then rows else default_rows a.id (reading_by a) a.defaults rows)
    go true f = fit
    go false f = default_rows_fit c a a.defaults rows own fit f

defaults_fit : (c d : List Rule) (rows : List Row) → Owns c d → AllFit c rows → defaults_fault rows d ≡ [] → AllFit c (fold with_default rows d)
unfolding defaults_fault
defaults_fit c [] rows owns fit e = fit
defaults_fit c (a ∷ rest) rows owns fit e =
    let parts = both_empty (default_fault rows a) (defaults_fault (with_default rows a) rest) e in
    defaults_fit c rest (with_default rows a) owns.1 (default_fits c a rows owns.0 fit parts.0) parts.1

pub finished_fits : (c : List Rule) (again : Bool) (h : Held) → Owns c c → AllFit c h.rows → settle_fault c again h ≡ []
    → defaults_fault (settled c h).rows c ≡ [] → AllFit c (finished c h)
finished_fits c again h owns fit ends defaults = defaults_fit c c (settled c h).rows owns (settled_fits c again h owns fit ends) defaults

-- ---- what is there

abbrev pub IsIn : Rule → List Rule → Type 0
IsIn a [] = ⊥
IsIn a (x ∷ xs) = (x ≡ a) ⊎ IsIn a xs

with_values_keeps : (other id : Text) (how : Reading) (s : ValueSource) (values : List Text) (rows : List Row) → has_row other rows ≡ true
    → has_row other (with_values id how s values rows) ≡ true
with_values_keeps other id how s values [] h = absurd cc
with_values_keeps other id how s values (r ∷ rs) h =
    go (bytes_eq r.id id) refl (bytes_eq r.id other) refl (λ later. with_values_keeps other id how s values rs later)
  where
    go : (b : Bool) → bytes_eq r.id id ≡ b → (t : Bool) → bytes_eq r.id other ≡ t
        → (has_row other rs ≡ true → has_row other (with_values id how s values rs) ≡ true)
        → has_row other (with_values id how s values (r ∷ rs)) ≡ true
    go true is t there later = rw is h
    go false is true there later = rw (is, there) refl
    go false is false there later = rw (is, there) (later (rw there at h))

with_values_has : (id : Text) (how : Reading) (s : ValueSource) (values : List Text) (rows : List Row) → has_row id (with_values id how s values rows) ≡ true
with_values_has id how s values [] = rw ((bytes_eq-Decides id id).1 refl) refl
with_values_has id how s values (r ∷ rs) = go (bytes_eq r.id id) refl (with_values_has id how s values rs)
  where
    go : (b : Bool) → bytes_eq r.id id ≡ b → has_row id (with_values id how s values rs) ≡ true
        → has_row id (with_values id how s values (r ∷ rs)) ≡ true
    go true is later = rw (is, is) refl
    go false is later = rw (is, is) later

default_keeps : (other : Text) (a : Rule) (rows : List Row) → has_row other rows ≡ true → has_row other (with_default rows a) ≡ true
default_keeps other a rows h = go (has_row a.id rows) a.defaults
  where
    go : (b : Bool) (values : List Text) → has_row other (if b then rows else default_rows a.id (reading_by a) values rows) ≡ true
    go true values = h
    go false [] = h
    go false (v ∷ vs) = with_values_keeps other a.id (reading_by a) DefaultValue (v ∷ vs) rows h

default_has : (a : Rule) (rows : List Row) → HasSome a.defaults → has_row a.id (with_default rows a) ≡ true
default_has a rows some = go (has_row a.id rows) refl a.defaults some
  where
    go : (b : Bool) → has_row a.id rows ≡ b → (values : List Text) → HasSome values
        → has_row a.id (if b then rows else default_rows a.id (reading_by a) values rows) ≡ true
    go true is values has = is
    go false is [] has = absurd has
    go false is (v ∷ vs) has = with_values_has a.id (reading_by a) DefaultValue (v ∷ vs) rows

defaults_keep : (other : Text) (d : List Rule) (rows : List Row) → has_row other rows ≡ true → has_row other (fold with_default rows d) ≡ true
defaults_keep other [] rows h = h
defaults_keep other (a ∷ rest) rows h = defaults_keep other rest (with_default rows a) (default_keeps other a rows h)

-- an argument with a default has a row
pub defaults_have : (a : Rule) (d : List Rule) (rows : List Row) → IsIn a d → HasSome a.defaults → has_row a.id (fold with_default rows d) ≡ true
defaults_have a [] rows among some = absurd among
defaults_have a (x ∷ rest) rows (inl is) some =
    defaults_keep a.id rest (with_default rows x) (subst (λ (y : Rule). has_row a.id (with_default rows y) ≡ true) (sym is) (default_has a rows some))
defaults_have a (x ∷ rest) rows (inr among) some = defaults_have a rest (with_default rows x) among some

pub row_found : (id : Text) (rows : List Row) → has_row id rows ≡ true → (r : Row) × (find (λ x. bytes_eq x.id id) rows ≡ Some r)
row_found id [] h = absurd cc
row_found id (x ∷ xs) h = go (bytes_eq x.id id) refl (λ later. row_found id xs later)
  where
    go : (b : Bool) → bytes_eq x.id id ≡ b → (has_row id xs ≡ true → (r : Row) × (find (λ y. bytes_eq y.id id) xs ≡ Some r))
        → (r : Row) × (find (λ y. bytes_eq y.id id) (x ∷ xs) ≡ Some r)
    go true is later = (x, rw is refl)
    go false is later =
        let got = later (rw is at h) in
        (got.0, rw is got.1)

found_passes : (c : List Rule) (rows : List Row) (id : Text) (r : Row) → AllFit c rows → find (λ x. bytes_eq x.id id) rows ≡ Some r → PassFor c id r.values
found_passes c [] id r fit e = absurd cc
found_passes c (x ∷ xs) id r fit e = go (bytes_eq x.id id) refl (λ later. found_passes c xs id r fit.1 later)
  where
    go : (b : Bool) → bytes_eq x.id id ≡ b → (find (λ y. bytes_eq y.id id) xs ≡ Some r → PassFor c id r.values) → PassFor c id r.values
    go true is later =
        let same : Some x ≡ Some r = rw is at e in
        let pass : PassFor c id x.values = subst (λ (t : Text). PassFor c t x.values) ((bytes_eq-Decides x.id id).0 is) fit.0 in
        subst (λ (o : Option Row). PassFor c id (unwrap_or o r).values) same pass
    go false is later = later (rw is at e)

accepted : (i : Bool) (p : ValueParser) (v : Text) → value_kinds i p v ≡ [] → accepts i p v ≡ true
accepted i p v e = go (accepts i p v) refl
  where
    go : (b : Bool) → accepts i p v ≡ b → accepts i p v ≡ true
    go true is = is
    go false is = absurd (let bad = rw is at e in cc)

first_accepted : (a : Rule) (vs : List Text) → HasSome vs → values_fault a vs ≡ []
    → (v : Text) × (slice_get vs 0 ≡ Some v) × (accepts a.ignore_case (parser_of_value a.parser) v ≡ true)
first_accepted a [] some e = absurd some
first_accepted a (v ∷ vs) some e =
    let parts = both_empty (value_kinds a.ignore_case (parser_of_value a.parser) v) (values_kinds a.ignore_case (parser_of_value a.parser) vs) e in
    (v, refl, accepted a.ignore_case (parser_of_value a.parser) v parts.0)

-- the first value of an argument that has a row passes its parser
pub first_passes : (c : List Rule) (a : Rule) (rows : List Row) (r : Row) → AllFit c rows → find (λ x. bytes_eq x.id a.id) rows ≡ Some r
    → arg_by_id c a.id ≡ Some a → takes_values a ≡ true
    → (v : Text) × (first_of a.id rows ≡ Some v) × (accepts a.ignore_case (parser_of_value a.parser) v ≡ true)
first_passes c a rows r fit found own takes =
    let pass = found_passes c rows a.id r fit found a own takes in
    let first = first_accepted a r.values pass.0 pass.1 in
    (first.0, rw found first.1, first.2)
