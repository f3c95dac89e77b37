-- What the accesses of a bus say of a trace that has them as its entries: where no answer was false, or the one that was ended the
-- run as tampering at that access, the trace of a run that follows the plain machine follows.
use Rattle.std.proofs.Common.{◌≡◌, ◌≢◌, ◌<◌, ◌≤◌, ◌⊎◌, ℕ, ◌+◌, Bool, true, false, cond, nat_eq, List, [], ◌∷◌, length, Option, Some, None, refl, sym, ap, subst, ◌∙◌, arith, inl, inr}
use Rattle.std.specs.Prelude.{IsTrue}
use Rattle.std.specs.Str.{bytes_eq}
use Rattle.std.proofs.lemmas.List.{length-map}
use Rattle.std.proofs.lemmas.Bool.Decides.{Decides-eqb}
use Rattle.std.proofs.lemmas.Slice.Eq.{bytes_eq-Decides}
use Rattle.sec_base.specs.Count.{more_by, top}
use Rattle.sec_base.specs.Geometry.{GeometryView}
use Rattle.sec_base.specs.Place.{zeros_of}
use Rattle.sec_base.specs.declared.ending.Ending.{Ending}
use Rattle.sec_base.specs.declared.ending.Ending.TheVariants.{Halted, Trapped, OutOfSteps, Tampered, Spent, WriteFault, NoMemory}
use Rattle.sec_base.specs.declared.place.Place.{Place}
use Rattle.sec_base.specs.declared.message.Message.{Message}
use Rattle.sec_base.specs.declared.counter.Counter.{Counter}
use Rattle.sec_base.proofs.SamePlaces.{false_from}
use Rattle.attest_report.specs.ToldEnding.{ending_and_code}
use Rattle.bus_model.specs.Access.{Access, Read, Write, CameBy, after_all, after_one}
use Rattle.bus_model.specs.BusHistory.{BusHistory, Lie, new_history, after_answer, after_lie, after_read, after_write, first_lie}
use Rattle.bus_model.specs.FirstLie.{HonestOrCaught, IsCaught, IsHonest}
use Rattle.bus_model.proofs.Accesses.{all_accesses}
use Rattle.bus_model.proofs.Steps.{read_written, true_or_false}
use Rattle.rv32_core.specs.Follows.{EndsAs, Follows}
use Rattle.rv32_core.specs.Machine.{Machine, plain}
use Rattle.bus_trace.specs.declared.trace.Trace.{Trace}
use Rattle.bus_trace.specs.declared.verdict.Verdict.TheVariants.{Follows as follows_verdict}
use Rattle.bus_trace.specs.declared.entry.Entry.{Entry}
use Rattle.bus_trace.specs.Format.{is_ending}
use Rattle.bus_trace.specs.Entry.{access_of, accesses_of}
use Rattle.bus_trace.specs.FirstFalse.{after_access, first_false, first_false_behind, is_true}
use Rattle.bus_trace.specs.Judge.{CanEnd, CanPrint, CanRetire, IsLie, IsVerdict, IsWithoutLie, is_stopped}

-- ---- the first false access

-- the first lie
not_first : (lies : ℕ) (before : Option Lie) (now : Lie) → 0 < lies → first_lie lies before now ≡ before
not_first lies before now some =
    let none : nat_eq lies 0 ≡ false = false_from (nat_eq lies 0) (Decides-eqb lies 0) (λ (e : lies ≡ 0). omega arith) in
    ap (λ (b : Bool). cond b (Some now) before) none

is_first : (lies : ℕ) (before : Option Lie) (now : Lie) → lies ≡ 0 → first_lie lies before now ≡ Some now
is_first lies before now none =
    let zero : nat_eq lies 0 ≡ true = (Decides-eqb lies 0).1 none in
    ap (λ (b : Bool). cond b (Some now) before) zero

-- stays, and is not forgotten
lie_stays : (accesses : List Access) (history : BusHistory) → 0 < history.lies →
    ((after_all accesses history).lie ≡ history.lie) × (0 < (after_all accesses history).lies)
unfolding after_write
lie_stays [] history some = (refl, some)
lie_stays (Write place bytes ∷ more) history some = lie_stays more (after_write place bytes history) some
lie_stays (Read place bytes ∷ more) history some =
    elim (true_or_false place bytes history) [
      | inl truly ↦
          let lies : (after_read place bytes history).lies ≡ history.lies = ap (λ (t : BusHistory). t.lies) truly.1 in
          let rest = lie_stays more (after_read place bytes history) (omega (arith, lies, some)) in
          (rest.0 ∙ ap (λ (t : BusHistory). t.lie) truly.1, rest.1)
      | inr falsely ↦
          let lies : (after_read place bytes history).lies ≡ more_by 1 history.lies = ap (λ (t : BusHistory). t.lies) falsely.1 in
          let rest = lie_stays more (after_read place bytes history) (omega (arith, lies, some)) in
          let now : Lie = record { access = (after_answer place history).accesses; place = place; bytes = bytes } in
          (rest.0 ∙ ap (λ (t : BusHistory). t.lie) falsely.1 ∙ not_first history.lies history.lie now some, rest.1)
    ]

module _ (count : ℕ) (accesses : List Access) (history : BusHistory) where
  -- the first false access is the first lie
  record FoundFirst : Type 0 where
    pub number : ℕ
    pub found : first_false_behind count history.written accesses ≡ Some number
    pub lie : Lie
    pub first : (after_all accesses history).lie ≡ Some lie
    pub at : lie.access ≡ number
    pub lies : 0 < (after_all accesses history).lies

  -- no access is false, and no answer was; or the first is found
  abbrev Found : Type 0
  Found = ((first_false_behind count history.written accesses ≡ None) × ((after_all accesses history).lies ≡ 0)) ⊎ FoundFirst

-- the same of one access more, which is true
found_behind : (count : ℕ) (access : Access) (more : List Access) (history : BusHistory) → is_true history.written access ≡ true →
    (after_one access history).written ≡ after_access access history.written → Found (count + 1) more (after_one access history) →
    Found count (access ∷ more) history
found_behind count access more history holds wrote rest =
    let here : first_false_behind count history.written (access ∷ more) ≡ first_false_behind (count + 1) (after_one access history).written more =
    ap (λ (b : Bool). cond b (first_false_behind (count + 1) (after_access access history.written) more) (Some (count + 1))) holds
    ∙ ap (λ (w : Place → List ℕ). first_false_behind (count + 1) w more) (sym wrote) in
    elim rest [
      | inl none ↦ inl (here ∙ none.0, none.1)
      | inr some ↦ inr (record { number = some.number; found = here ∙ some.found; lie = some.lie; first = some.first; at = some.at; lies = some.lies })
    ]

-- or which is false
found_here : (count : ℕ) (place : Place) (bytes : List ℕ) (more : List Access) (history : BusHistory) → history.lies ≡ 0 →
    history.accesses ≡ count → count + 1 ≤ top → bytes ≢ history.written place →
    after_read place bytes history ≡ after_lie place bytes (after_answer place history) → Found count (Read place bytes ∷ more) history
found_here count place bytes more history none at few differs is =
    let unlike : bytes_eq bytes (history.written place) ≡ false = false_from (bytes_eq bytes (history.written place)) (bytes_eq-Decides bytes (history.written place)) differs in
    let lies : (after_read place bytes history).lies ≡ more_by 1 history.lies = ap (λ (t : BusHistory). t.lies) is in
    let now : Lie = record { access = (after_answer place history).accesses; place = place; bytes = bytes } in
    let stays = lie_stays more (after_read place bytes history) (omega (arith, lies)) in
    inr (record {
      number = count + 1;
      found = ap (λ (b : Bool). cond b (first_false_behind (count + 1) history.written more) (Some (count + 1))) unlike;
      lie = now;
      first = stays.0 ∙ ap (λ (t : BusHistory). t.lie) is ∙ is_first history.lies history.lie now none;
      at = omega (arith, at, few);
      lies = stays.1;
    })

found : (count : ℕ) (accesses : List Access) (history : BusHistory) → history.lies ≡ 0 → history.accesses ≡ count →
    count + length accesses ≤ top → Found count accesses history
unfolding after_write
found count [] history none at few = inl (refl, none)
found count (Write place bytes ∷ more) history none at few =
    found_behind count (Write place bytes) more history refl refl
    (found (count + 1) more (after_write place bytes history) none (omega (arith, at, few)) (omega (arith, few)))
found count (Read place bytes ∷ more) history none at few =
    elim (true_or_false place bytes history) [
      | inl truly ↦
          let lies : (after_read place bytes history).lies ≡ history.lies = ap (λ (t : BusHistory). t.lies) truly.1 in
          let counts : (after_read place bytes history).accesses ≡ more_by 1 history.accesses = ap (λ (t : BusHistory). t.accesses) truly.1 in
          found_behind count (Read place bytes) more history ((bytes_eq-Decides bytes (history.written place)).1 truly.0) (read_written place bytes history)
          (found (count + 1) more (after_read place bytes history) (lies ∙ none) (omega (arith, counts, at, few)) (omega (arith, few)))
      | inr falsely ↦ found_here count place bytes more history none at (omega (arith, few)) falsely.0 falsely.1
    ]

-- ---- what an account of the bus's answers says of the entries

-- no entry is false, and the run did not end as tampering; or the last one is the first false one, and it did
abbrev pub Answered : List Entry → Ending → Type 0
Answered entries ending = ((first_false entries ≡ None) × ((place : Place) → ending ≢ Tampered place))
    ⊎ ((first_false entries ≡ Some (length entries)) × ((place : Place) × (ending ≡ Tampered place)))

some_is : (a b : ℕ) → Some a ≡ Some b → a ≡ b
some_is a b same = cc (same)

same_lie : (a b : Lie) → Some a ≡ Some b → a ≡ b
same_lie a b same = cc (same)

module _ (geometry : GeometryView) (entries : List Entry) (history : BusHistory) (ending : Ending)
    (came : CameBy (new_history geometry) (accesses_of entries) history) (few : length entries ≤ top) where
  begin : BusHistory
  begin = new_history geometry

  long : length (accesses_of entries) ≡ length entries
  long = length-map entries access_of

  looked : Found 0 (accesses_of entries) (new_history geometry)
  looked = found 0 (accesses_of entries) (new_history geometry) refl refl (omega (arith, few, long))

  lies_are : history.lies ≡ (after_all (accesses_of entries) (new_history geometry)).lies
  lies_are = ap (λ (t : BusHistory). t.lies) came

  counted : history.accesses ≡ length entries
  counted =
      let all = all_accesses (accesses_of entries) (new_history geometry) in
      let is : history.accesses ≡ (after_all (accesses_of entries) (new_history geometry)).accesses = ap (λ (t : BusHistory). t.accesses) came in
      omega (arith, all.0, all.1, is, long, few)

  honest : IsHonest history (λ place. ending ≡ Tampered place) → Answered entries ending
  honest is = elim looked [
    | inl none ↦ inl (none.0, is.untampered)
    | inr some ↦ let lies = is.lies in let more = some.lies in absurd (omega (arith, lies, more, lies_are))
  ]

  caught : (tag_of : Message → List ℕ) (used : List (ℕ × Counter)) (made : List Message) → IsCaught tag_of used made history (λ place. ending ≡ Tampered place) →
      Answered entries ending
  caught tag_of used made is = elim looked [
    | inl none ↦ let lies = is.lies in let no = none.1 in absurd (omega (arith, lies, no, lies_are))
    | inr some ↦
        let first : history.lie ≡ (after_all (accesses_of entries) (new_history geometry)).lie = ap (λ (t : BusHistory). t.lie) came in
        let same : is.lie ≡ some.lie = same_lie is.lie some.lie (sym is.first ∙ first ∙ some.first) in
        let at : some.number ≡ length entries = sym some.at ∙ sym (ap (λ (lie : Lie). lie.access) same) ∙ is.last ∙ counted in
        inr (some.found ∙ ap Some at, (is.lie.place, is.ended))
  ]

  pub answered : (tag_of : Message → List ℕ) (used : List (ℕ × Counter)) (made : List Message) →
      HonestOrCaught tag_of used made history (λ place. ending ≡ Tampered place) → Answered entries ending
  answered tag_of used made (inl is) = honest is
  answered tag_of used made (inr is) = caught tag_of used made is

-- ---- the verdict

abbrev number_told : Option (ℕ × ℕ) → ℕ
number_told None = 9
number_told (Some told) = told.0

module _ (start : Machine) (budget : ℕ) (trace : Trace) (ending : Ending) (told : ending_and_code ending ≡ Some (trace.ending, trace.code)) where
  number_is : number_told (ending_and_code ending) ≡ trace.ending
  number_is = ap number_told told

  -- a run that ended as tampering is told so, and no other one is
  five : (place : Place) → ending ≡ Tampered place → trace.ending ≡ 5
  five place is = sym number_is ∙ ap (λ (e : Ending). number_told (ending_and_code e)) is

  tampered : (e : Ending) → number_told (ending_and_code e) ≡ 5 → (place : Place) × (e ≡ Tampered place)
  tampered (Halted code) is = let no : 0 ≡ 5 = is in absurd (omega (arith, no))
  tampered (Trapped cause pc) is = let no : 1 ≡ 5 = is in absurd (omega (arith, no))
  tampered OutOfSteps is = let no : 4 ≡ 5 = is in absurd (omega (arith, no))
  tampered (Tampered place) is = (place, refl)
  tampered (Spent page) is = let no : 6 ≡ 5 = is in absurd (omega (arith, no))
  tampered WriteFault is = let no : 9 ≡ 5 = is in absurd (omega (arith, no))
  tampered NoMemory is = let no : 9 ≡ 5 = is in absurd (omega (arith, no))

  without_lie : Answered trace.entries ending → IsWithoutLie trace
  without_lie (inl none) number lie = let first = lie.first in let no = none.0 in absurd (cc (first, no))
  without_lie (inr last) number lie =
      let at : number ≡ length trace.entries = some_is number (length trace.entries) (sym lie.first ∙ last.0) in
      lie.passed at (five last.1.0 last.1.1)

  caught_five : Answered trace.entries ending → trace.ending ≡ 5 → first_false trace.entries ≢ None
  caught_five (inl none) is = let found = tampered ending (number_is ∙ is) in absurd (none.1 found.0 found.1)
  caught_five (inr last) is = λ no. let some = last.0 in cc (some, no)

  -- what a run of this ending printed
  printed_by : (e : Ending) → EndsAs e (plain start trace.retired) trace.retired budget trace.output →
      ¬ IsTrue (is_stopped (number_told (ending_and_code e))) → (ending_and_code e ≡ Some (trace.ending, trace.code)) →
      trace.output ≡ (plain start trace.retired).output
  printed_by (Halted code) ends going is = ends.1
  printed_by (Trapped cause pc) ends going is = ends.2
  printed_by OutOfSteps ends going is = ends.2
  printed_by (Tampered place) ends going is = absurd (going refl)
  printed_by (Spent page) ends going is = absurd (going refl)
  printed_by WriteFault ends going is = absurd (cc (is))
  printed_by NoMemory ends going is = absurd (cc (is))

  ends_with : (e : Ending) → EndsAs e (plain start trace.retired) trace.retired budget trace.output →
      EndsAs e (plain start trace.retired) trace.retired budget (plain start trace.retired).output
  ends_with (Halted code) ends = (ends.0, refl)
  ends_with (Trapped cause pc) ends = (ends.0, ends.1, refl)
  ends_with OutOfSteps ends = (ends.0, ends.1, refl)
  ends_with (Tampered place) ends = ends
  ends_with (Spent page) ends = ends
  ends_with WriteFault ends = ends
  ends_with NoMemory ends = ends

  -- The trace of a run that follows the plain machine follows.
  pub verdict_is : Follows start budget trace.retired ending trace.output → Answered trace.entries ending →
      IsVerdict start budget trace follows_verdict
  verdict_is follows answers = (
    without_lie answers,
    record { within = follows.within; count = follows.count },
    record {
      began = follows.began;
      ahead = follows.ahead;
      whole = λ going. printed_by ending follows.ends (subst (λ (n : ℕ). ¬ IsTrue (is_stopped n)) (sym number_is) going) told;
    },
    record { ending = ending; told = told; ends = ends_with ending follows.ends; caught = caught_five answers },
  )

-- an ending that reports tell makes a trace
pub makes_trace : (ending : Ending) (told : ℕ × ℕ) → ending_and_code ending ≡ Some told → IsTrue (is_ending told.0)
makes_trace (Halted code) told is = subst (λ (n : ℕ). IsTrue (is_ending n)) (ap number_told is) refl
makes_trace (Trapped cause pc) told is = subst (λ (n : ℕ). IsTrue (is_ending n)) (ap number_told is) refl
makes_trace OutOfSteps told is = subst (λ (n : ℕ). IsTrue (is_ending n)) (ap number_told is) refl
makes_trace (Tampered place) told is = subst (λ (n : ℕ). IsTrue (is_ending n)) (ap number_told is) refl
makes_trace (Spent page) told is = subst (λ (n : ℕ). IsTrue (is_ending n)) (ap number_told is) refl
makes_trace WriteFault told is = absurd (cc (is))
makes_trace NoMemory told is = absurd (cc (is))
