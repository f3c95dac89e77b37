-- Words without a fault name no `help`.
use Rattle.std.proofs.Common.{◌≡◌, Bool, List, [], ◌∷◌, Option, Some, None, true, false, refl, is_some}
use Rattle.std.specs.Prelude.{codes, fold}
use Rattle.std.specs.Str.{bytes_eq}
use Rattle.clap.specs.Kinds.{Kinds, or_else}
use Rattle.clap.specs.Lexer.{long_of, short_of}
use Rattle.clap.specs.Walk.{Held, Names, Outcome, Rule, Step, Text, Waiting, Walk, after_flag, after_step, arg_by_index, bundle, done, idle, long_met, arg_by_long, long_or_other, next, option, plain, plain_word, positional, refused, short_or_plain, subcommand, subcommand_met, subcommand_or_other, to_positional, trailing, value, waits, walked, walked_from, word_met}
use Rattle.clap.specs.Simple.{Shape}
use Rattle.clap.specs.Faults.{other_fault, step_fault, turn_fault, walk_fault, word_fault}
use Rattle.clap.specs.declared.error.kind.ErrorKind.TheVariants.{DisplayHelp, InvalidSubcommand}

pub both_empty : (a b : Kinds) → or_else a b ≡ [] → (a ≡ []) × (b ≡ [])
both_empty [] b e = (refl, e)
both_empty (k ∷ ks) b e = absurd cc

-- where a walk stopped, it was not at `help`
abbrev pub IsNoHelp : Option (Text × List Text) → Type 0
IsNoHelp None = Unit {0}
IsNoHelp (Some p) = bytes_eq p.0 (codes "help") ≡ false

-- the step is no subcommand
abbrev Stays : Step → Type 0
Stays (subcommand name) = ⊥
Stays _ = Unit {0}

plain_stays : (c : List Rule) (waiting : Waiting) (word : Text) (h : Held) → Stays (plain_word c waiting word h).1
plain_stays c idle word h = tt
plain_stays c (option id) word h = tt
plain_stays c positional word h = tt

flag_stays : (c : List Rule) (waiting : Waiting) (word : Text) (h : Held) (o : Outcome) → Stays (after_flag c waiting word h o).1
flag_stays c waiting word h done = tt
flag_stays c waiting word h (waits id) = tt
flag_stays c waiting word h plain = plain_stays c waiting word h
flag_stays c waiting word h refused = plain_stays c waiting word h

short_stays : (c : List Rule) (waiting : Waiting) (word : Text) (flags : Option Text) (h : Held) → Stays (short_or_plain c waiting word flags h).1
short_stays c waiting word None h = plain_stays c waiting word h
short_stays c waiting word (Some flags) h = flag_stays c waiting word (bundle c flags h).0 (bundle c flags h).1

long_stays : (c : List Rule) (waiting : Waiting) (word : Text) (p : Option (Text × Option Text)) (h : Held) → Stays (long_or_other c waiting word p h).1
long_stays c waiting word None h = short_stays c waiting word (short_of word) h
long_stays c waiting word (Some p) h =
    flag_stays c waiting word (long_met c (arg_by_long c p.0) p.1 h).0 (long_met c (arg_by_long c p.0) p.1 h).1

positional_keeps : (c : List Rule) (a : Option Rule) (word : Text) (w : Walk) (h : Held) → w.stopped ≡ None → IsNoHelp (to_positional c a word w h).stopped
positional_keeps c None word w h none = rw none tt
positional_keeps c (Some a) word w h none = tt

step_keeps : (c : List Rule) (word : Text) (w : Walk) (h : Held) (step : Step) → w.stopped ≡ None → Stays step → IsNoHelp (after_step c word w h step).stopped
step_keeps c word w h (next waiting) none stays = rw none tt
step_keeps c word w h (trailing position) none stays = rw none tt
step_keeps c word w h (subcommand name) none stays = absurd stays
step_keeps c word w h value none stays = positional_keeps c (arg_by_index c w.position) word w h none

other_keeps : (s : Shape) (word : Text) (w : Walk) (names : Names) (o : Option Text) → w.stopped ≡ None → s.disable_help_subcommand ≡ false
    → other_fault s o word w.held ≡ []
    → IsNoHelp (after_step s.rules word w (subcommand_or_other s.rules o w.waiting w.position word w.held).0
    (subcommand_or_other s.rules o w.waiting w.position word w.held).1).stopped
other_keeps s word w names (Some name) none asks e = go (bytes_eq name (codes "help")) refl
  where
    go : (b : Bool) → bytes_eq name (codes "help") ≡ b → bytes_eq name (codes "help") ≡ false
    go false is = is
    go true is = absurd (let bad : other_fault s (Some name) word w.held ≡ DisplayHelp ∷ InvalidSubcommand ∷ [] = rw (is, asks) refl in cc)
other_keeps s word w names None none asks e = go (bytes_eq word (45 ∷ 45 ∷ [])) refl
  where
    go : (b : Bool) → bytes_eq word (45 ∷ 45 ∷ []) ≡ b
        → IsNoHelp (after_step s.rules word w (subcommand_or_other s.rules None w.waiting w.position word w.held).0
        (subcommand_or_other s.rules None w.waiting w.position word w.held).1).stopped
    go true is = rw (is, none) tt
    go false is = rw is (step_keeps s.rules word w (long_or_other s.rules w.waiting word (long_of word) w.held).0
        (long_or_other s.rules w.waiting word (long_of word) w.held).1 none (long_stays s.rules w.waiting word (long_of word) w.held))

word_keeps : (trailing : Bool) (s : Shape) (word : Text) (w : Walk) (names : Names) → w.stopped ≡ None → s.disable_help_subcommand ≡ false
    → word_fault s names trailing w.waiting word w.held ≡ []
    → IsNoHelp (after_step s.rules word w (word_met s.rules names trailing w.waiting w.position word w.held).0
    (word_met s.rules names trailing w.waiting w.position word w.held).1).stopped
word_keeps true s word w names none asks e = step_keeps s.rules word w w.held value none tt
word_keeps false s word w names none asks e = other_keeps s word w names (subcommand_met names w.waiting word) none asks e

from_keeps : (stopped : Option (Text × List Text)) (s : Shape) (names : Names) (w : Walk) (word : Text) → s.disable_help_subcommand ≡ false
    → w.stopped ≡ stopped → IsNoHelp stopped
    → (is_some stopped ≡ false → word_fault s names w.is_trailing w.waiting word w.held ≡ [])
    → IsNoHelp (walked_from s.rules names stopped w word).stopped
from_keeps (Some p) s names w word asks is h e = h
from_keeps None s names w word asks is h e = word_keeps w.is_trailing s word w names is asks (e refl)

turn_keeps : (s : Shape) (names : Names) (w : Walk) (word : Text) → s.disable_help_subcommand ≡ false → IsNoHelp w.stopped
    → turn_fault s names w word ≡ [] → IsNoHelp (walked s.rules names w word).stopped
unfolding walked
turn_keeps s names w word asks h e =
    let met = word_met s.rules names w.is_trailing w.waiting w.position word w.held in
    from_keeps w.stopped s names w word asks refl h (λ none.
    (both_empty (word_fault s names w.is_trailing w.waiting word w.held) (step_fault s w.position met.0 met.1) (rw none at e)).0)

pub walk_keeps : (s : Shape) (names : Names) (words : List Text) (w : Walk) → s.disable_help_subcommand ≡ false → IsNoHelp w.stopped
    → walk_fault s names w words ≡ [] → IsNoHelp (fold (walked s.rules names) w words).stopped
unfolding walk_fault
walk_keeps s names [] w asks h e = h
walk_keeps s names (word ∷ rest) w asks h e =
    let parts = both_empty _ _ e in
    walk_keeps s names rest (walked s.rules names w word) asks (turn_keeps s names w word asks h parts.0) parts.1
