-- Lines and counters that rise, and the messages that they are of.
use Rattle.std.proofs.Common.{◌≡◌, ◌⊎◌, inl, inr, ℕ, zero, suc, ◌+◌, ◌<◌, ◌≤◌, Bool, true, false, cond, nat_eq, nat_lt, List, [], ◌∷◌, length, fold, Option, Some, None, Contains, unwrap_or, refl, ap, sym, ◌∙◌, subst, arith}
use Rattle.std.specs.Option.{option_map, option_or}
use Rattle.std.specs.List.{filter, slice_get}
use Rattle.std.proofs.lemmas.Bool.Decides.{Decides-eqb}
use Rattle.std.proofs.lemmas.Bool.{lt-ltb}
use Rattle.std.proofs.lemmas.Option.{same_Some}
use Rattle.sec_base.specs.declared.counter.Counter.{Counter}
use Rattle.sec_base.specs.declared.message.Message.{Message}
use Rattle.sec_base.specs.declared.message.Message.TheVariants.{Line, Node}
use Rattle.sec_base.specs.declared.place.Place.{Place}
use Rattle.sec_base.specs.LastMessage.{after_item, counter_part, data_pairs, last_at, last_data, last_pair, IsFresh}
use Rattle.sec_base.proofs.LastMessages.{last_pair-data_pairs, no_part}
use Rattle.sec_base.proofs.SamePlaces.{false_from}
use Rattle.checked_bus.proofs.LineMessages.{last_made}
use Rattle.pad_stream.specs.Pads.{AreRising, IsBefore, of_lines}
use Rattle.pad_stream.proofs.RisingCounters.{not_before}
use Rattle.page_reencrypt.specs.Contents.{AreWithin, HoldsLast, counter_in, never_written}
use Rattle.page_reencrypt.specs.Outside.{HasCounter}
use Rattle.checked_bus.specs.Steps.{IsCurrent}

-- What a list holds

pub Contains-skip : {A : Type 0} (first : A) (rest : List A) (item : A) → Contains rest item → Contains (first ∷ rest) item
Contains-skip first rest item listed = (suc listed.0, omega (arith, listed.1), listed.2)

listed_get : {A : Type 0} (items : List A) (item : A) (at : ℕ) (below : at < length items) (is : Contains items item) → is.0 ≡ at → slice_get items at ≡ Some item
listed_get [] item at below is same = absurd (omega arith)
listed_get (x ∷ items) item zero below (zero, within, there) same = ap Some there
listed_get (x ∷ items) item zero below (suc k, within, there) same = absurd (omega arith)
listed_get (x ∷ items) item (suc at) below (zero, within, there) same = absurd (omega arith)
listed_get (x ∷ items) item (suc at) below (suc k, within, there) same = listed_get items item at (omega arith) (k, omega arith, there) (omega arith)

get_of : {A : Type 0} (items : List A) (item : A) (is : Contains items item) → slice_get items is.0 ≡ Some item
get_of items item is = listed_get items item is.0 is.1 is refl

-- The counters of each line rise, by recursion on the list

abbrev Rise : List (ℕ × Counter) → Type 0
Rise [] = Unit
Rise (entry ∷ entries) = ((later : Counter) → Contains entries (entry.0, later) → IsBefore entry.1 later) × Rise entries

rise_by : (used : List (ℕ × Counter)) → AreRising used → Rise used
rise_by [] rising = tt
rise_by (entry ∷ used) rising = (
  λ later is. rising.rise 0 (suc is.0) entry.0 entry.1 later (omega arith) refl (get_of used (entry.0, later) is),
  rise_by used (record {
    rise = λ first second line counter later order here there.
        rising.rise (suc first) (suc second) line counter later (omega (arith, order)) here there;
  }),
)

filter_listed : {A : Type 0} (test : A → Bool) (items : List A) (item : A) (b : Bool) (first : A) →
    Contains (cond b (first ∷ filter test items) (filter test items)) item →
    (Contains (filter test items) item → Contains items item) → Contains (first ∷ items) item
filter_listed test items item true first (zero, within, there) more = (zero, omega arith, there)
filter_listed test items item true first (suc k, within, there) more = Contains-skip first items item (more (k, omega (arith, within), there))
filter_listed test items item false first is more = Contains-skip first items item (more is)

-- what passes a test is of the list
from_filter : {A : Type 0} (test : A → Bool) (items : List A) (item : A) → Contains (filter test items) item → Contains items item
from_filter test [] item is = is
from_filter test (first ∷ items) item is = filter_listed test items item (test first) first is (from_filter test items item)

rise_if : (b : Bool) (entry : ℕ × Counter) (kept entries : List (ℕ × Counter)) → Rise kept →
    ((later : Counter) → Contains kept (entry.0, later) → IsBefore entry.1 later) → Rise (cond b (entry ∷ kept) kept)
rise_if true entry kept entries rest first = (first, rest)
rise_if false entry kept entries rest first = rest

rise_filter : (test : ℕ × Counter → Bool) (used : List (ℕ × Counter)) → Rise used → Rise (filter test used)
rise_filter test [] rise = tt
rise_filter test (entry ∷ used) rise =
    rise_if (test entry) entry (filter test used) used (rise_filter test used rise.1)
    (λ later is. rise.0 later (from_filter test used (entry.0, later) is))

-- a counter that comes behind another comes behind all that come before that one
before_on : (first second third : Counter) → IsBefore first second → IsBefore second third → IsBefore first third
before_on first second third (inl low) (inl high) = inl (omega (arith, low, high))
before_on first second third (inl low) (inr high) = inl (omega (arith, low, high.0))
before_on first second third (inr low) (inl high) = inl (omega (arith, low.0, high))
before_on first second third (inr low) (inr high) = inr (omega (arith, low.0, high.0), omega (arith, low.1, high.1))

-- The messages of a line

-- a message's line and counter are among those of all
pub pair_listed : (made : List Message) (line : ℕ) (counter : Counter) (cipher : List ℕ) → Contains made (Line line counter cipher) → Contains (data_pairs made) (line, counter)
unfolding data_pairs
pair_listed [] line counter cipher is = absurd (omega (arith, is.1))
pair_listed (Node level index block ∷ made) line counter cipher (zero, within, there) = absurd (cc)
pair_listed (Node level index block ∷ made) line counter cipher (suc k, within, there) = pair_listed made line counter cipher (k, omega (arith, within), there)
pair_listed (Line other later bytes ∷ made) line counter cipher (zero, within, there) =
    let lines : other ≡ line = cc in
    let counters : later ≡ counter = cc in
    (zero, omega arith, ap (λ (l : ℕ). (l, later)) lines ∙ ap (λ (c : Counter). (line, c)) counters)
pair_listed (Line other later bytes ∷ made) line counter cipher (suc k, within, there) =
    Contains-skip (other, later) (data_pairs made) (line, counter) (pair_listed made line counter cipher (k, omega (arith, within), there))

-- under a counter there is one
unique_there : (made : List Message) (line : ℕ) (counter : Counter) (cipher cipher' : List ℕ) → Rise (data_pairs made) →
    Contains made (Line line counter cipher) → Contains made (Line line counter cipher') → cipher ≡ cipher'
unfolding data_pairs
unique_there [] line counter cipher cipher' rise here there = absurd (omega (arith, here.1))
unique_there (Node level index block ∷ made) line counter cipher cipher' rise (zero, within, at) there = absurd (cc)
unique_there (Node level index block ∷ made) line counter cipher cipher' rise (suc k, within, at) (zero, within', at') = absurd (cc)
unique_there (Node level index block ∷ made) line counter cipher cipher' rise (suc k, within, at) (suc k', within', at') =
    unique_there made line counter cipher cipher' rise (k, omega (arith, within), at) (k', omega (arith, within'), at')
unique_there (Line other later bytes ∷ made) line counter cipher cipher' rise (zero, within, at) (zero, within', at') =
    let first : bytes ≡ cipher = cc in
    let second : bytes ≡ cipher' = cc in
    sym first ∙ second
unique_there (Line other later bytes ∷ made) line counter cipher cipher' rise (zero, within, at) (suc k, within', at') =
    let lines : other ≡ line = cc in
    let counters : later ≡ counter = cc in
    let listed : Contains (data_pairs made) (line, counter) = pair_listed made line counter cipher' (k, omega (arith, within'), at') in
    let behind : IsBefore later counter = rise.0 counter (subst (λ (l : ℕ). Contains (data_pairs made) (l, counter)) (sym lines) listed) in
    absurd (not_before counter (subst (λ (c : Counter). IsBefore c counter) counters behind))
unique_there (Line other later bytes ∷ made) line counter cipher cipher' rise (suc k, within, at) (zero, within', at') =
    let lines : other ≡ line = cc in
    let counters : later ≡ counter = cc in
    let listed : Contains (data_pairs made) (line, counter) = pair_listed made line counter cipher (k, omega (arith, within), at) in
    let behind : IsBefore later counter = rise.0 counter (subst (λ (l : ℕ). Contains (data_pairs made) (l, counter)) (sym lines) listed) in
    absurd (not_before counter (subst (λ (c : Counter). IsBefore c counter) counters behind))
unique_there (Line other later bytes ∷ made) line counter cipher cipher' rise (suc k, within, at) (suc k', within', at') =
    unique_there made line counter cipher cipher' rise.1 (k, omega (arith, within), at) (k', omega (arith, within'), at')

-- The last entry of a line

module _ (line : ℕ) where
  abbrev value_of : ℕ × Option (ℕ × Counter) → Option Counter
  value_of seen = option_map (λ found. found.1) seen.1

  part_if : (b : Bool) (counter : Counter) (entries seen : ℕ × Option (ℕ × Counter)) → value_of entries ≡ value_of seen →
      value_of (entries.0 + 1, option_or (option_map (λ (x : Counter). (entries.0, x)) (cond b (Some counter) None)) entries.1)
      ≡ value_of (seen.0 + 1, option_or (option_map (λ (x : Counter). (seen.0, x)) (cond b (Some counter) None)) seen.1)
  part_if true counter entries seen same = refl
  part_if false counter entries seen same = same

  last_if : (lines : ℕ) (passes : Bool) (entry : ℕ × Counter) (used : List (ℕ × Counter)) (entries seen : ℕ × Option (ℕ × Counter)) →
      nat_lt entry.0 lines ≡ passes → line < lines →
      ((entries seen : ℕ × Option (ℕ × Counter)) → value_of entries ≡ value_of seen →
      value_of (fold (after_item (counter_part line)) entries (of_lines lines used)) ≡ value_of (fold (after_item (counter_part line)) seen used)) →
      value_of entries ≡ value_of seen →
      value_of (fold (after_item (counter_part line)) entries (cond passes (entry ∷ of_lines lines used) (of_lines lines used)))
      ≡ value_of (fold (after_item (counter_part line)) (after_item (counter_part line) seen entry) used)
  last_if lines true entry used entries seen is inside rest same =
      rest (after_item (counter_part line) entries entry) (after_item (counter_part line) seen entry) (part_if (nat_eq entry.0 line) entry.1 entries seen same)
  last_if lines false entry used entries seen is inside rest same =
      let apart : nat_eq entry.0 line ≡ false = false_from (nat_eq entry.0 line) (Decides-eqb entry.0 line)
      (λ (e : entry.0 ≡ line). let passes : nat_lt entry.0 lines ≡ true = lt-ltb entry.0 lines (omega (arith, e)) in absurd (cc)) in
      let stays : value_of (after_item (counter_part line) seen entry) ≡ value_of seen =
      ap (λ (b : Bool). value_of (seen.0 + 1, option_or (option_map (λ (x : Counter). (seen.0, x)) (cond b (Some entry.1) None)) seen.1)) apart in
      rest entries (after_item (counter_part line) seen entry) (same ∙ sym stays)

  last_on : (lines : ℕ) (used : List (ℕ × Counter)) → line < lines → (entries seen : ℕ × Option (ℕ × Counter)) → value_of entries ≡ value_of seen →
      value_of (fold (after_item (counter_part line)) entries (of_lines lines used)) ≡ value_of (fold (after_item (counter_part line)) seen used)
  last_on lines [] inside entries seen same = same
  last_on lines (entry ∷ used) inside entries seen same =
      last_if lines (nat_lt entry.0 lines) entry used entries seen refl inside (last_on lines used inside) same

  -- a line of the memory has the same last entry among those of the memory
  pub last_pair-of_lines : (lines : ℕ) (used : List (ℕ × Counter)) → line < lines → last_pair line (of_lines lines used) ≡ last_pair line used
  unfolding last_at
  last_pair-of_lines lines used inside = last_on lines used inside (0, None) (0, None) refl

  last_here : (b : Bool) (counter last : Counter) (seen : ℕ × Option (ℕ × Counter)) →
      value_of (seen.0 + 1, option_or (option_map (λ (x : Counter). (seen.0, x)) (cond b (Some counter) None)) seen.1) ≡ Some last →
      ((b ≡ true) × (counter ≡ last)) ⊎ (value_of seen ≡ Some last)
  last_here true counter last seen is = inl (refl, same_Some counter last is)
  last_here false counter last seen is = inr is

  last_among : (used : List (ℕ × Counter)) (seen : ℕ × Option (ℕ × Counter)) (last : Counter) →
      value_of (fold (after_item (counter_part line)) seen used) ≡ Some last → Contains used (line, last) ⊎ (value_of seen ≡ Some last)
  last_among [] seen last is = inr is
  last_among (entry ∷ used) seen last is =
      elim (last_among used (after_item (counter_part line) seen entry) last is) [
        | inl listed ↦ inl (Contains-skip entry used (line, last) listed)
        | inr now ↦
            elim (last_here (nat_eq entry.0 line) entry.1 last seen now) [
              | inl here ↦
                  let same : entry.0 ≡ line = (Decides-eqb entry.0 line).0 here.0 in
                  inl (zero, omega arith, ap (λ (l : ℕ). (l, entry.1)) same ∙ ap (λ (c : Counter). (line, c)) here.1)
              | inr before ↦ inr before
            ]
      ]

  -- the last entry is one of them
  pub last_listed : (used : List (ℕ × Counter)) (last : Counter) → last_pair line used ≡ Some last → Contains used (line, last)
  unfolding last_at
  last_listed used last is =
      elim (last_among used (0, None) last is) [
        | inl listed ↦ listed
        | inr none ↦ absurd (cc)
      ]

  all_before : (used : List (ℕ × Counter)) (seen : ℕ × Option (ℕ × Counter)) (last next before : Counter) → Rise used → IsBefore last next →
      value_of (fold (after_item (counter_part line)) seen used) ≡ Some last → Contains used (line, before) → IsBefore before next
  all_before [] seen last next before rise later is listed = absurd (omega (arith, listed.1))
  all_before (entry ∷ used) seen last next before rise later is (suc k, within, at) =
      all_before used (after_item (counter_part line) seen entry) last next before rise.1 later is (k, omega (arith, within), at)
  all_before (entry ∷ used) seen last next before rise later is (zero, within, at) =
      let lines : entry.0 ≡ line = ap (λ (e : ℕ × Counter). e.0) at in
      let counters : entry.1 ≡ before = ap (λ (e : ℕ × Counter). e.1) at in
      elim (last_among used (after_item (counter_part line) seen entry) last is) [
        | inl listed ↦
            let behind : IsBefore entry.1 last = rise.0 last (subst (λ (l : ℕ). Contains used (l, last)) (sym lines) listed) in
            before_on before last next (subst (λ (c : Counter). IsBefore c last) counters behind) later
        | inr now ↦
            let same : nat_eq entry.0 line ≡ true = (Decides-eqb entry.0 line).1 lines in
            let here : value_of (after_item (counter_part line) seen entry) ≡ Some entry.1 =
            ap (λ (b : Bool). value_of (seen.0 + 1, option_or (option_map (λ (x : Counter). (seen.0, x)) (cond b (Some entry.1) None)) seen.1)) same in
            let both : entry.1 ≡ last = same_Some entry.1 last (sym here ∙ now) in
            subst (λ (c : Counter). IsBefore c next) (sym both ∙ counters) later
      ]

  -- what comes behind a line's last counter comes behind all of the line's
  pub last_greatest : (used : List (ℕ × Counter)) (last next before : Counter) → AreRising used → last_pair line used ≡ Some last → IsBefore last next →
      Contains used (line, before) → IsBefore before next
  unfolding last_at
  last_greatest used last next before rising is later listed = all_before used (0, None) last next before (rise_by used rising) later is listed

-- A line's next counter

-- a fresh line has no entry
pub none_listed : (used : List (ℕ × Counter)) (line : ℕ) (counter : Counter) → IsFresh line used → Contains used (line, counter) → ⊥
none_listed used line counter fresh listed =
    let none : counter_part line (line, counter) ≡ None = no_part (counter_part line) used fresh listed.0 (line, counter) (get_of used (line, counter) listed) in
    let same : nat_eq line line ≡ true = (Decides-eqb line line).1 refl in
    let some : counter_part line (line, counter) ≡ Some counter = ap (λ (b : Bool). cond b (Some counter) None) same in
    absurd (cc)

-- what comes behind a line's counter comes behind each counter that the line was encrypted under
pub before_next : (used : List (ℕ × Counter)) (line : ℕ) (counter next before : Counter) → AreRising used → HasCounter used line counter →
    IsBefore counter next → Contains used (line, before) → IsBefore before next
before_next used line counter next before rising (inl fresh) later listed = absurd (none_listed used line before fresh.0 listed)
before_next used line counter next before rising (inr had) later listed = last_greatest line used counter next before rising had.0 later listed

limit_by : (lines limit : ℕ) (used : List (ℕ × Counter)) (line : ℕ) (last : Option Counter) → line < lines → AreWithin lines limit used →
    last_pair line used ≡ last → (unwrap_or last never_written).page ≤ limit
limit_by lines limit used line None inside within is = omega arith
limit_by lines limit used line (Some last) inside within is = within.limited line last inside (last_listed line used last is)

-- no line of the memory has a counter past the limit
pub counter_limited : (lines limit : ℕ) (used : List (ℕ × Counter)) (line : ℕ) → line < lines → AreWithin lines limit used →
    (counter_in used line).page ≤ limit
counter_limited lines limit used line inside within = limit_by lines limit used line (last_pair line used) inside within refl

-- A line's last message

mapped_none : (last : Option (Counter × List ℕ)) → option_map (λ found. found.0) last ≡ None → last ≡ None
mapped_none None e = refl
mapped_none (Some last) e = absurd (cc)

-- Under a line's counter one message was tagged, and it is the line's last.
pub record HasLast (made : List Message) (line : ℕ) (counter : Counter) : Type 0 where
  pub cipher : List ℕ
  pub last : last_data line made ≡ Some (counter, cipher)
  pub only : (other : List ℕ) → Contains made (Line line counter other) → other ≡ cipher

has_last_by : (made : List Message) (line : ℕ) (counter : Counter) (last : Option (Counter × List ℕ)) → Rise (data_pairs made) → last_data line made ≡ last →
    option_map (λ found. found.0) last ≡ Some counter → HasLast made line counter
has_last_by made line counter None rise is e = absurd (cc)
has_last_by made line counter (Some last) rise is e =
    let counters : last.0 ≡ counter = same_Some last.0 counter e in
    let here : last_data line made ≡ Some (counter, last.1) = is ∙ ap (λ (c : Counter). Some (c, last.1)) counters in
    record {
      cipher = last.1;
      last = here;
      only = λ other listed. unique_there made line counter other last.1 rise listed (last_made made line counter last.1 here);
    }

pub has_last : (lines : ℕ) (made : List Message) (used : List (ℕ × Counter)) (line : ℕ) (counter : Counter) → data_pairs made ≡ of_lines lines used → AreRising used →
    line < lines → last_pair line used ≡ Some counter → HasLast made line counter
has_last lines made used line counter paired rising inside last =
    let rise : Rise (data_pairs made) = subst Rise (sym paired) (rise_filter (λ (entry : ℕ × Counter). nat_lt entry.0 lines) used (rise_by used rising)) in
    has_last_by made line counter (last_data line made) rise refl
    (sym (last_pair-data_pairs line made) ∙ ap (last_pair line) paired ∙ last_pair-of_lines line lines used inside ∙ last)

-- a message under the line's last counter is the line's last
pub last_under_last : (lines : ℕ) (made : List Message) (used : List (ℕ × Counter)) (line : ℕ) (counter : Counter) (cipher : List ℕ) →
    data_pairs made ≡ of_lines lines used → AreRising used → line < lines → last_pair line used ≡ Some counter → Contains made (Line line counter cipher) →
    last_data line made ≡ Some (counter, cipher)
last_under_last lines made used line counter cipher paired rising inside last listed =
    let has = has_last lines made used line counter paired rising inside last in
    has.last ∙ ap (λ (xs : List ℕ). Some (counter, xs)) (sym (has.only cipher listed))

-- a line of the memory has a last message exactly where it has a counter
pub last_none : (lines : ℕ) (made : List Message) (used : List (ℕ × Counter)) (line : ℕ) → data_pairs made ≡ of_lines lines used → line < lines →
    IsFresh line used → last_data line made ≡ None
last_none lines made used line paired inside fresh =
    mapped_none (last_data line made) (sym (last_pair-data_pairs line made) ∙ ap (last_pair line) paired ∙ last_pair-of_lines line lines used inside ∙ fresh)

-- the line's counter is current, where its place holds its last message
pub is_current : (tag_of : Message → List ℕ) (lines : ℕ) (made : List Message) (used : List (ℕ × Counter)) (written : Place → List ℕ) (line : ℕ) (counter : Counter) →
    data_pairs made ≡ of_lines lines used → AreRising used → HoldsLast tag_of lines made written → line < lines → last_pair line used ≡ Some counter →
    IsCurrent tag_of used made written line counter
is_current tag_of lines made used written line counter paired rising held inside last =
    let has = has_last lines made used line counter paired rising inside last in
    record {
      last = last;
      cipher = has.cipher;
      made_last = has.last;
      only = has.only;
      stored = held.holds line counter has.cipher inside has.last;
    }
