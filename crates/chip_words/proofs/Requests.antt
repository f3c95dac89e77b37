-- What follows from a request.
use Rattle.std.proofs.Common.{◌≡◌, ◌∙◌, ap, subst, Bool, List, [], Option, Some, None, Result, Ok, Err, true, false, refl, sym, inl, inr, is_some, if◌then◌else◌}
use Rattle.std.specs.Prelude.{◌↔◌, codes, IsTrue}
use Rattle.std.specs.Str.{bytes_eq}
use Rattle.std.proofs.lemmas.Slice.Eq.{bytes_eq-Decides}
use Rattle.clap.specs.Values.{kind_of}
use Rattle.clap.specs.Kinds.{FailsBy, HasKind, Kinds, check_kinds, or_else}
use Rattle.clap.specs.Walk.{Held, Names, Row, Text, finished, is_empty, nothing_held, rows_after, settled, stop_after, walk, walk_from}
use Rattle.clap.specs.Simple.{App, HasMatchesOf, Shape, argument_words, built, entered, is_simple, names_of, subcommand_of, subcommand_rows_of}
use Rattle.clap.specs.Faults.{check_fault, defaults_fault, entered_fault, fault_of, is_simple_and_free, level_fault, settle_fault, walk_fault}
use Rattle.clap.specs.declared.error.Error.{Error}
use Rattle.clap.specs.declared.error.kind.ErrorKind.TheVariants.{OutOfMemory}
use Rattle.clap.specs.declared.parser.matches.ArgMatches.{ArgMatches}
use Rattle.clap.proofs.OnLiterals.{clap_on_literals}
use Rattle.clap.proofs.SimpleLemmas.{is_nil}
use Rattle.chip_words.specs.App.{chip_app}
use Rattle.chip_words.specs.Request.{Asked, WordsFault, asked_in, asked_to_assemble, asked_to_disassemble, asked_to_judge, asked_to_measure, asked_to_pair, asked_to_run, asked_to_run_plain, asked_to_trace, asked_to_verify, by_values, is_taken, not_taken, request_of}
use Rattle.chip_words.specs.Words.{Explains, IfUsage}
use Rattle.chip_words.specs.declared.fault.ValueFault.{ValueFault}
use Rattle.chip_words.specs.declared.fault.WordsError.{WordsError}
use Rattle.chip_words.specs.declared.fault.WordsError.TheVariants.{Usage, WrongValue, NoMemory}
use Rattle.chip_words.specs.Commands.{IfCommand}
use Rattle.chip_words.proofs.Commands.{asm_built, command_has, inspection_built, judge_built, pair_built, plain_built, protected_built, verify_built}
use Rattle.chip_words.proofs.Walks.{IsNoHelp, both_empty, walk_keeps}

-- ---- a level without a fault

no_kinds : (wants_help wants_subcommand wants_argument : Bool) → wants_subcommand ≡ true
    → check_kinds wants_help wants_subcommand wants_argument ≡ [] → ⊥
no_kinds true needs argument is e = cc
no_kinds false true argument is e = cc
no_kinds false false argument is e = cc

-- it has the subcommand that it can't do without
check_has : (s : Shape) (rows : List Row) (has : Bool) → s.subcommand_required ≡ true → check_fault s rows has ≡ [] → has ≡ true
check_has s rows true needs e = refl
check_has s rows false needs e = absurd (no_kinds _ _ _ needs e)

level_parts : (s : Shape) (names : Names) (h : Held) (words : List Text) (has : Bool) (below : Kinds)
    → s.subcommand_required ≡ true → level_fault s names h words has below ≡ []
    → (walk_fault s names (walk_from h) words ≡ []) × (below ≡ []) × (has ≡ true)
level_parts s names h words has below needs e =
    let end = (walk s.rules names h words).held in
    let checked = check_fault s (finished s.rules end) has in
    let defaulted = or_else (defaults_fault (settled s.rules end).rows s.rules) checked in
    let ended = or_else (settle_fault s.rules s.args_override_self end) defaulted in
    let first = both_empty (walk_fault s names (walk_from h) words) (or_else below ended) e in
    let second = both_empty below ended first.1 in
    let third = both_empty (settle_fault s.rules s.args_override_self end) defaulted second.1 in
    let fourth = both_empty (defaults_fault (settled s.rules end).rows s.rules) checked third.1 in
    (first.0, second.0, check_has s (finished s.rules end) has needs fourth.1)

-- ---- the command that was met

-- a command is taken, whatever its values come to
by_values_is_taken : (answer : Result Asked ValueFault) → is_taken (by_values answer) ≡ true
by_values_is_taken (Ok asked) = refl
by_values_is_taken (Err fault) = refl

-- one of the ten
named : (stop : Option (Text × List Text)) → IsNoHelp stop → is_some (entered (built chip_app) stop) ≡ true
    → is_taken (asked_in (entered (built chip_app) stop)) ≡ true
named None free some = absurd cc
named (Some p) free some =
    go (bytes_eq (codes "run") p.0) refl (bytes_eq (codes "plain") p.0) refl (bytes_eq (codes "asm") p.0) refl (bytes_eq (codes "dis") p.0) refl
    (bytes_eq (codes "measure") p.0) refl (bytes_eq (codes "verify") p.0) refl (bytes_eq (codes "bench") p.0) refl
    (bytes_eq (codes "trace") p.0) refl (bytes_eq (codes "judge") p.0) refl (bytes_eq (codes "pair") p.0) refl
    (bytes_eq (codes "help") p.0) refl
  where
    help_is : bytes_eq (codes "help") p.0 ≡ true → bytes_eq p.0 (codes "help") ≡ true
    help_is e = (bytes_eq-Decides p.0 (codes "help")).1 (sym ((bytes_eq-Decides (codes "help") p.0).0 e))

    go : (a : Bool) → bytes_eq (codes "run") p.0 ≡ a → (b : Bool) → bytes_eq (codes "plain") p.0 ≡ b
        → (c : Bool) → bytes_eq (codes "asm") p.0 ≡ c → (d : Bool) → bytes_eq (codes "dis") p.0 ≡ d
        → (m : Bool) → bytes_eq (codes "measure") p.0 ≡ m → (k : Bool) → bytes_eq (codes "verify") p.0 ≡ k
        → (n : Bool) → bytes_eq (codes "bench") p.0 ≡ n → (i : Bool) → bytes_eq (codes "trace") p.0 ≡ i
        → (j : Bool) → bytes_eq (codes "judge") p.0 ≡ j → (l : Bool) → bytes_eq (codes "pair") p.0 ≡ l
        → (h : Bool) → bytes_eq (codes "help") p.0 ≡ h
        → is_taken (asked_in (entered (built chip_app) (Some p))) ≡ true
    go true x b y c z d u m v k q n t i r j o l g h w = rw x (by_values_is_taken (asked_to_run (rows_after (protected_built (codes "run")).rules [] p.1)))
    go false x true y c z d u m v k q n t i r j o l g h w = rw (x, y) (by_values_is_taken (asked_to_run_plain (rows_after plain_built.rules [] p.1)))
    go false x false y true z d u m v k q n t i r j o l g h w = rw (x, y, z) (by_values_is_taken (asked_to_assemble (rows_after asm_built.rules [] p.1)))
    go false x false y false z true u m v k q n t i r j o l g h w =
        rw (x, y, z, u) (by_values_is_taken (asked_to_disassemble (rows_after (inspection_built (codes "dis")).rules [] p.1)))
    go false x false y false z false u true v k q n t i r j o l g h w =
        rw (x, y, z, u, v) (by_values_is_taken (asked_to_measure (rows_after (inspection_built (codes "measure")).rules [] p.1)))
    go false x false y false z false u false v true q n t i r j o l g h w =
        rw (x, y, z, u, v, q) (by_values_is_taken (asked_to_verify (rows_after verify_built.rules [] p.1)))
    go false x false y false z false u false v false q true t i r j o l g h w = rw (x, y, z, u, v, q, t) refl
    go false x false y false z false u false v false q false t true r j o l g h w =
        rw (x, y, z, u, v, q, t, r) (by_values_is_taken (asked_to_trace (rows_after (protected_built (codes "trace")).rules [] p.1)))
    go false x false y false z false u false v false q false t false r true o l g h w =
        rw (x, y, z, u, v, q, t, r, o) (by_values_is_taken (asked_to_judge (rows_after judge_built.rules [] p.1)))
    go false x false y false z false u false v false q false t false r false o true g h w =
        rw (x, y, z, u, v, q, t, r, o, g) (by_values_is_taken (asked_to_pair (rows_after pair_built.rules [] p.1)))
    go false x false y false z false u false v false q false t false r false o false g true w = absurd (let bad = rw (help_is w) at free in cc)
    go false x false y false z false u false v false q false t false r false o false g false w =
        absurd (let bad = rw (x, y, z, u, v, q, t, r, o, g, w) at some in cc)

-- words without a fault ask for something, and their command has its values
asks : (words : List Text) → fault_of chip_app words ≡ []
    → (is_taken (asked_in (subcommand_of chip_app words)) ≡ true) × IfCommand (subcommand_of chip_app words)
asks words e =
    let a = built chip_app in
    let taken = argument_words chip_app words in
    let stop = stop_after a.top.rules (names_of a) taken in
    let parts = level_parts a.top (names_of a) nothing_held taken (is_some (entered a stop)) (entered_fault a stop) refl e in
    let free = walk_keeps a.top (names_of a) taken (walk_from nothing_held) refl tt parts.0 in
    (named stop free parts.2, command_has stop free parts.1)

-- ---- requests and parses

chip_is_free : is_simple_and_free chip_app ≡ true
unfolding clap_on_literals
chip_is_free = refl

chip_is_simple : is_simple chip_app ≡ true
unfolding clap_on_literals
chip_is_simple = refl

none_chosen : (kinds : Kinds) (request : Result Asked WordsFault) → (kinds ≡ [] → ⊥) → (if is_empty kinds then request else Err not_taken) ≡ Err not_taken
none_chosen kinds request some = go (is_empty kinds) refl
  where
    go : (b : Bool) → is_empty kinds ≡ b → (if is_empty kinds then request else Err not_taken) ≡ Err not_taken
    go true is = absurd (some (is_nil kinds is))
    go false is = rw is refl

request_of-taken : (words : List Text) → fault_of chip_app words ≡ [] → request_of words ≡ asked_in (subcommand_of chip_app words)
request_of-taken words e = ap (λ (kinds : Kinds). if is_empty kinds then asked_in (subcommand_of chip_app words) else Err not_taken) e

-- words are taken just where they have no fault
pub request_is_taken : (words : List Text) → IsTrue (is_taken (request_of words)) ↔ (fault_of chip_app words ≡ [])
request_is_taken words = (go (is_empty (fault_of chip_app words)) refl, λ e. ap is_taken (request_of-taken words e) ∙ (asks words e).0)
  where
    go : (b : Bool) → is_empty (fault_of chip_app words) ≡ b → IsTrue (is_taken (request_of words)) → fault_of chip_app words ≡ []
    go true is some = is_nil (fault_of chip_app words) is
    go false is some = absurd (let bad : false ≡ true = rw is at some in cc)

-- a parse of the words has found what they ask for
pub parse_asks : (a : App) (words : List Text) (m : ArgMatches) → a ≡ chip_app → HasMatchesOf a words m
    → (is_simple_and_free a ≡ true → FailsBy {T = ArgMatches} (fault_of a words) (Ok m))
    → (request_of words ≡ asked_in (subcommand_rows_of m)) × (is_taken (asked_in (subcommand_rows_of m)) ≡ true) × IfCommand (subcommand_rows_of m)
parse_asks a words m is matches fails =
    let none : fault_of chip_app words ≡ [] = subst (λ (x : App). is_simple_and_free x ≡ true → fault_of x words ≡ []) is fails chip_is_free in
    let rows : subcommand_rows_of m ≡ subcommand_of chip_app words = (subst (λ (x : App). HasMatchesOf x words m) is matches chip_is_simple).1 in
    let found = asks words none in
    (request_of-taken words none ∙ ap asked_in (sym rows), ap (λ o. is_taken (asked_in o)) rows ∙ found.0, subst IfCommand (sym rows) found.1)

-- words that a parse refuses, and not because it is out of memory, are not taken
pub refusal_asks : (a : App) (words : List Text) (e : Error) → a ≡ chip_app
    → (is_simple_and_free a ≡ true → HasKind (fault_of a words) e) → (kind_of e ≡ OutOfMemory → ⊥)
    → request_of words ≡ Err not_taken
refusal_asks a words e is fails kept =
    let kind : HasKind (fault_of chip_app words) e = subst (λ (x : App). is_simple_and_free x ≡ true → HasKind (fault_of x words) e) is fails chip_is_free in
    none_chosen (fault_of chip_app words) (asked_in (subcommand_of chip_app words)) (λ none.
    elim (subst (λ (kinds : Kinds). HasKind kinds e) none kind) [ inl memory ↦ kept memory | inr among ↦ among ])

-- ---- errors

pub usage_explains : (e : WordsError) (P : Type 0) (request : Result Asked WordsFault) → IfUsage e P → (P → request ≡ Err not_taken) → Explains e request
usage_explains (Usage text) P request h untakes = untakes h
usage_explains (WrongValue fault) P request h untakes = absurd h
usage_explains NoMemory P request h untakes = tt
