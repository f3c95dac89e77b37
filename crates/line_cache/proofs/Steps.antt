-- What calls make of a cache of lines.
use Rattle.std.proofs.Common.{◌≡◌, ◌≢◌, ◌⊎◌, inl, inr, ℕ, ◌*◌, ◌≤◌, List, length, Bool, true, false, Option, Some, None, IsSome, Contains, Result, Err, IfOk, refl, sym, ◌∙◌, ap, subst, arith}
use Rattle.std.specs.Option.{option_map, option_or}
use Rattle.std.specs.Result.{result_err}
use Rattle.std.proofs.lemmas.Option.{none-some, same_Some}
use Rattle.sec_base.specs.Lines.{line_at, with_line}
use Rattle.sec_base.specs.declared.stop.MemStop.{MemStop}
use Rattle.cache_set.specs.declared.way.Way.{Way}
use Rattle.cache_set.specs.Bringing.{leaving, with_room}
use Rattle.cache_set.specs.Cache.{IsCache, copy_at, places, way_at}
use Rattle.cache_set.proofs.Bringing.{none_leaves, not_listed}
use Rattle.cache_set.proofs.Listed.{found_at, listed_at}
use Rattle.cache_set.proofs.Sets.{few_in}
use Rattle.line_cache.specs.LineCache.{AreClean, AreCopies, IsMiss, IsMissed, IsStep, IsStoppedMiss, LineCacheView, contents_over, line_sets, most_held}
use Rattle.line_cache.specs.WriteBack.{IsGone, IsWritten, written, written_if}
use Rattle.line_cache.proofs.Lines.{clean_part, clean_written, line_written, over_gone, over_written, part_gone, same_or_not}

-- neither stopped
pub none_of_both : (first later : Option MemStop) → option_or first later ≡ None → (first ≡ None) × (later ≡ None)
none_of_both None later h = (refl, h)
none_of_both (Some stop) later h = grind arith

-- a held line may be one of those before
pub held_before : (lines : List (List Way)) → IsCache line_sets lines → (line : ℕ) (before : List (List Way)) →
    (way_at lines line ≡ way_at before line) ⊎ (way_at lines line ≡ None) → Contains (places lines) line → Contains (places before) line
held_before lines is line before (inl same) c = listed_at before line (subst IsSome same (found_at line_sets lines line is c))
held_before lines is line before (inr none) c = absurd (not_listed line_sets lines line is none c)

-- the way that goes out, and what the store has then
module _ (count : ℕ) (stored stored' : List ℕ) (lines lines' : List (List Way)) (way : Way) (long : length stored ≡ 64 * count) (copies : AreCopies count lines) (is : way_at lines way.place ≡ Some way) (put : stored' ≡ written way stored) where
  -- where its write stops, it stays
  pub contents_written : contents_over stored' count lines ≡ contents_over stored count lines
  contents_written = ap (λ (bytes : List ℕ). contents_over bytes count lines) put
      ∙ over_written stored count lines way long (copies.inside way.place way is) (copies.whole way.place way is) is

  module _ (clean : AreClean stored lines) (none : way_at lines' way.place ≡ None) (others : (other : ℕ) → other ≢ way.place → way_at lines' other ≡ way_at lines other) where
    pub contents_gone : contents_over stored' count lines' ≡ contents_over stored count lines
    contents_gone =
        over_gone stored' count lines lines' way.place way is none
        (ap (λ (bytes : List ℕ). line_at bytes way.place) put
        ∙ line_written stored count way long (copies.inside way.place way is) (copies.whole way.place way is) (λ unmarked. clean way.place way is unmarked)) others
        ∙ contents_written

    pub clean_gone : AreClean stored' lines'
    clean_gone = clean_part stored' lines lines' (part_gone lines lines' way.place none others)
        (subst (λ (bytes : List ℕ). AreClean bytes lines) (sym put) (clean_written stored count lines way long copies is clean))

-- a miss, from its two parts
module _ {S : Type 0} (read_moved : S → ℕ → Result (List ℕ) MemStop → S → Type 0) (write_moved : S → ℕ → List ℕ → Result (Unit {0}) MemStop → S → Type 0) where
  gone_then_read : (found : Option Way) (before middle after : S) (line : ℕ) (answer : Result (List ℕ) MemStop) →
      IsGone write_moved found before middle → read_moved middle line answer after → IsMiss read_moved write_moved found before line answer after
  gone_then_read None before middle after line answer gone read = subst (λ (s : S). read_moved s line answer after) gone read
  gone_then_read (Some way) before middle after line answer gone read = inr (middle, gone, read)

  gone_in_part : (found : Option Way) (before after : S) (line : ℕ) (stop : MemStop) →
      IsWritten write_moved found stop before after → IsMiss read_moved write_moved found before line (Err stop) after
  gone_in_part None before after line stop gone = absurd gone
  gone_in_part (Some way) before after line stop gone = inl (stop, refl, gone)

  pub stopped_in_write : (found : Option Way) (lines lines' : List (List Way)) (before after : S) (line : ℕ) (stop : MemStop) →
      IsWritten write_moved found stop before after → lines' ≡ lines → IsStoppedMiss read_moved write_moved found lines before line stop lines' after
  stopped_in_write None lines lines' before after line stop gone same = absurd gone
  stopped_in_write (Some way) lines lines' before after line stop gone same = inl (gone, same)

  pub stopped_in_read : (found : Option Way) (lines lines' : List (List Way)) (before middle after : S) (line : ℕ) (stop : MemStop) →
      IsGone write_moved found before middle → read_moved middle line (Err stop) after → lines' ≡ with_room lines line →
      IsStoppedMiss read_moved write_moved found lines before line stop lines' after
  stopped_in_read None lines lines' before middle after line stop gone read same = (subst (λ (s : S). read_moved s line (Err stop) after) gone read, same)
  stopped_in_read (Some way) lines lines' before middle after line stop gone read same = inr (middle, gone, read, same)

  module _ (lines lines' : List (List Way)) (before after : S) (line : ℕ) where
    pub missed : (middle : S) (answer : Result (List ℕ) MemStop) → IsGone write_moved (leaving lines line) before middle →
        read_moved middle line answer after → IfOk answer (λ bytes. copy_at lines' line ≡ Some bytes) →
        IsMissed read_moved write_moved lines before line (λ bytes. bytes) (result_err answer) lines' after
    missed middle answer gone read there = record {
      answer = answer;
      miss = gone_then_read (leaving lines line) before middle after line answer gone read;
      stops = refl;
      copy = there;
    }

    pub missed_in_part : (stop : MemStop) → IsWritten write_moved (leaving lines line) stop before after →
        IsMissed read_moved write_moved lines before line (λ bytes. bytes) (Some stop) lines' after
    missed_in_part stop gone = record {
      answer = Err stop;
      miss = gone_in_part (leaving lines line) before after line stop gone;
      stops = refl;
      copy = tt;
    }

pub over_equal : (stored stored' : List ℕ) (count count' : ℕ) (lines lines' : List (List Way)) → stored' ≡ stored → count' ≡ count → lines' ≡ lines →
    contents_over stored' count' lines' ≡ contents_over stored count lines
over_equal stored stored' count count' lines lines' e f h =
    ap (λ (bytes : List ℕ). contents_over bytes count' lines') e
    ∙ (ap (λ (n : ℕ). contents_over stored n lines') f ∙ ap (contents_over stored count) h)

-- whether a write that stops was done or not, the contents stay
pub kept_in_part : (count : ℕ) (stored stored' : List ℕ) (lines : List (List Way)) (way : Way) → length stored ≡ 64 * count → AreCopies count lines → way_at lines way.place ≡ Some way →
    (stored' ≡ stored) ⊎ (stored' ≡ written way stored) → contents_over stored' count lines ≡ contents_over stored count lines
kept_in_part count stored stored' lines way long copies is (inl same) = ap (λ (bytes : List ℕ). contents_over bytes count lines) same
kept_in_part count stored stored' lines way long copies is (inr put) = contents_written count stored stored' lines lines way long copies is put

pub written_not : (way : Way) (stored : List ℕ) → way.changed ≡ false → written way stored ≡ stored
written_not way stored unmarked = ap (λ (b : Bool). written_if b way stored) unmarked

pub written_so : (way : Way) (stored : List ℕ) → way.changed ≡ true → written way stored ≡ with_line stored way.place way.copy
written_so way stored marked = ap (λ (b : Bool). written_if b way stored) marked

-- each way is as before or gone
pub less_gone : (lines lines' : List (List Way)) (place : ℕ) → way_at lines' place ≡ None → ((other : ℕ) → other ≢ place → way_at lines' other ≡ way_at lines other) →
    (other : ℕ) → (way_at lines' other ≡ way_at lines other) ⊎ (way_at lines' other ≡ None)
less_gone lines lines' place none others other = elim (same_or_not other place) [
  | inl here ↦ inr (ap (way_at lines') here ∙ none)
  | inr apart ↦ inl (others other apart)
]

pub both_none : (first later : Option MemStop) → first ≡ None → later ≡ None → option_or first later ≡ None
both_none first later e f = ap (λ (s : Option MemStop). option_or s later) e ∙ f

-- a stop is kept
kept_stop : (first later : Option MemStop) (stop : MemStop) → option_or (option_or first (Some stop)) later ≡ None → ⊥
kept_stop None later stop h = none-some stop (sym h)
kept_stop (Some early) later stop h = none-some early (sym h)

pub stop_kept : (first kept later : Option MemStop) (stop : MemStop) → kept ≡ option_or first (Some stop) → option_or kept later ≡ None → ⊥
stop_kept first kept later stop e h = kept_stop first later stop (ap (λ (s : Option MemStop). option_or s later) (sym e) ∙ h)

pub stop_first : (first kept later : Option MemStop) (stop : MemStop) → kept ≡ option_or first (Some stop) → first ≡ None → option_or kept later ≡ Some stop
stop_first first kept later stop e none = ap (λ (s : Option MemStop). option_or s later) (e ∙ ap (λ (s : Option MemStop). option_or s (Some stop)) none)

pub few_held : (lines : List (List Way)) → IsCache line_sets lines → length (places lines) ≤ most_held
few_held lines is = omega (arith, few_in line_sets 0 lines is.sets_are, is.counted)

module _ {S : Type 0} (read_moved : S → ℕ → Result (List ℕ) MemStop → S → Type 0) (write_moved : S → ℕ → List ℕ → Result (Unit {0}) MemStop → S → Type 0) (before after : LineCacheView S) (line : ℕ) (was : IsCache line_sets before.lines) (is : IsCache line_sets after.lines) where
  -- a line that is held
  pub step_hit : IsSome (way_at before.lines line) → after.store ≡ before.store → ((other : ℕ) → way_at after.lines other ≡ way_at before.lines other) →
      IsStep read_moved write_moved before line after
  step_hit there stays same = record {
    hit = λ c. (stays, none_leaves before.lines line there);
    miss = λ out. absurd (out (listed_at before.lines line there));
    held = λ other c. inl (held_before after.lines is other before.lines (inl (same other)) c);
    few = few_held after.lines is;
  }

  -- a line that is not
  pub step_miss : way_at before.lines line ≡ None → (copied : List ℕ → List ℕ) (stop : Option MemStop) →
      IsMissed read_moved write_moved before.lines before.store line copied stop after.lines after.store →
      ((other : ℕ) → other ≢ line → (way_at after.lines other ≡ way_at before.lines other) ⊎ (way_at after.lines other ≡ None)) →
      IsStep read_moved write_moved before line after
  step_miss none copied stop missed_it less = record {
    hit = λ c. absurd (not_listed line_sets before.lines line was none c);
    miss = λ out. (missed_it.answer, missed_it.miss);
    held = λ other c. elim (same_or_not other line) [
      | inl same ↦ inr same
      | inr apart ↦ inl (held_before after.lines is other before.lines (less other apart) c)
    ];
    few = few_held after.lines is;
  }

-- the way of a copy
pub way_of_copy : (found : Option Way) (copy : List ℕ) → option_map (λ (way : Way). way.copy) found ≡ Some copy → (way : Way) × (found ≡ Some way) × (way.copy ≡ copy)
way_of_copy None copy h = absurd (none-some copy h)
way_of_copy (Some way) copy h = (way, refl, same_Some way.copy copy h)

-- a copy stays where its way does
pub copy_touched : (lines lines' : List (List Way)) (line : ℕ) (copy : List ℕ) → way_at lines' line ≡ way_at lines line → copy_at lines line ≡ Some copy → copy_at lines' line ≡ Some copy
copy_touched lines lines' line copy same is = ap (option_map (λ (way : Way). way.copy)) same ∙ is

-- a call that then changes the line's copy
module _ {S : Type 0} (read_moved : S → ℕ → Result (List ℕ) MemStop → S → Type 0) (write_moved : S → ℕ → List ℕ → Result (Unit {0}) MemStop → S → Type 0) (before after after' : LineCacheView S) (line : ℕ) (stays : after'.store ≡ after.store) where
  pub step_changed : IsCache line_sets after'.lines → IsStep read_moved write_moved before line after →
      ((other : ℕ) → other ≢ line → way_at after'.lines other ≡ way_at after.lines other) → IsStep read_moved write_moved before line after'
  step_changed is step others = record {
    hit = λ c. (stays ∙ (step.hit c).0, (step.hit c).1);
    miss = λ out. (
      (step.miss out).0,
      subst (λ (s : S). IsMiss read_moved write_moved (leaving before.lines line) before.store line (step.miss out).0 s) (sym stays) (step.miss out).1,
    );
    held = λ other c. elim (same_or_not other line) [
      | inl same ↦ inr same
      | inr apart ↦ step.held other (held_before after'.lines is other after.lines (inl (others other apart)) c)
    ];
    few = few_held after'.lines is;
  }
