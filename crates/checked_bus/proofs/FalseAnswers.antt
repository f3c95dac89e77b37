-- False answers of a bus, as they come and when more answers come.
use Rattle.std.proofs.Common.{◌≡◌, ◌≢◌, ℕ, ◌<◌, inl, inr, Bool, true, false, cond, nat_eq, List, ◌++◌, take, Option, Some, ap, sym, ◌∙◌, subst, arith}
use Rattle.std.proofs.lemmas.Bool.Decides.{Decides-eqb}
use Rattle.std.proofs.lemmas.List.{take-append-le}
use Rattle.sec_base.specs.Count.{more_by, Rose}
use Rattle.sec_base.specs.declared.message.Message.{Message}
use Rattle.sec_base.specs.declared.place.Place.{Place}
use Rattle.sec_base.specs.declared.evidence.Evidence.{Evidence}
use Rattle.sec_base.specs.declared.evidence.Evidence.TheVariants.{Forgery, Collision}
use Rattle.sec_base.specs.Evidence.{IsEvidence, HasLastCounter}
use Rattle.sec_base.specs.LastMessage.{last_pair, data_pairs}
use Rattle.sec_base.proofs.SamePlaces.{false_from}
use Rattle.bus_model.specs.BusHistory.{BusHistory, Lie, after_read, after_answer, after_lie, first_lie}
use Rattle.bus_model.specs.FirstLie.{IsOfFirstLie}
use Rattle.bus_model.proofs.Steps.{true_or_false, lied}

-- a lie that is not the first
not_first : (lies : ℕ) (before : Option Lie) (now lie : Lie) → 0 < lies → before ≡ Some lie → first_lie lies before now ≡ Some lie
not_first lies before now lie some first =
    let none : nat_eq lies 0 ≡ false = false_from (nat_eq lies 0) (Decides-eqb lies 0) (λ (e : lies ≡ 0). omega arith) in
    ap (λ (b : Bool). cond b (Some now) before) none ∙ first

-- the first
is_first : (lies : ℕ) (before : Option Lie) (now : Lie) → lies ≡ 0 → first_lie lies before now ≡ Some now
is_first lies before now none =
    let zero : nat_eq lies 0 ≡ true = (Decides-eqb lies 0).1 none in
    ap (λ (b : Bool). cond b (Some now) before) zero

-- the first false answer stays, whatever comes
pub lie_stays : (history : BusHistory) (place : Place) (bytes : List ℕ) (lie : Lie) → 0 < history.lies → history.lie ≡ Some lie →
    (0 < (after_read place bytes history).lies) × ((after_read place bytes history).lie ≡ Some lie)
lie_stays history place bytes lie some first =
    elim (true_or_false place bytes history) [
      | inl truly ↦ (subst (λ (t : BusHistory). 0 < t.lies) (sym truly.1) some, ap (λ (t : BusHistory). t.lie) truly.1 ∙ first)
      | inr falsely ↦
          let more : 0 < more_by 1 history.lies = omega arith in (
            subst (λ (t : BusHistory). 0 < t.lies) (sym falsely.1) more,
            ap (λ (t : BusHistory). t.lie) falsely.1
                ∙ not_first history.lies history.lie (record { access = (after_answer place history).accesses; place = place; bytes = bytes }) lie some first,
          )
    ]

-- the first false answer, as it comes
pub record FirstLie (history : BusHistory) (place : Place) (bytes : List ℕ) : Type 0 where
  pub lies : history.lies ≡ 1
  pub first : history.lie ≡ Some (record { access = history.accesses; place = place; bytes = bytes })

pub lie_comes : (history : BusHistory) (place : Place) (bytes : List ℕ) → history.lies ≡ 0 → bytes ≢ history.written place →
    FirstLie (after_read place bytes history) place bytes
lie_comes history place bytes none differs =
    let is : after_read place bytes history ≡ after_lie place bytes (after_answer place history) = lied place bytes history differs in
    let one : more_by 1 history.lies ≡ 1 = ap (more_by 1) none in
    subst (λ (t : BusHistory). FirstLie t place bytes) (sym is) (record {
      lies = one;
      first = is_first history.lies history.lie (record { access = (after_answer place history).accesses; place = place; bytes = bytes }) none;
    })

-- a false answer is counted
pub lie_rises : (history : BusHistory) (place : Place) (bytes : List ℕ) → bytes ≢ history.written place →
    Rose history.lies (after_read place bytes history).lies
lie_rises history place bytes differs =
    let more : (after_read place bytes history).lies ≡ more_by 1 history.lies = ap (λ (t : BusHistory). t.lies) (lied place bytes history differs) in
    omega (arith, more)

-- Evidence

-- of a first false answer, when more answers came
pub first_lie_stays : (history : BusHistory) (made : List Message) (place : Place) (bytes : List ℕ) (evidence : Evidence) → IsOfFirstLie made history evidence →
    IsOfFirstLie made (after_read place bytes history) evidence
first_lie_stays history made place bytes evidence was =
    let stays = lie_stays history place bytes was.lie was.lies was.first in
    record {
      lies = stays.0;
      lie = was.lie;
      first = stays.1;
      place = was.place;
      bytes = was.bytes;
      counter = was.counter;
    }

pub same_counter : (tag_of : Message → List ℕ) (made more : List Message) (evidence : Evidence) → IsEvidence tag_of made evidence → HasLastCounter made evidence →
    HasLastCounter (made ++ more) evidence
same_counter tag_of made more (Forgery line counter sealed made_count) is was =
    let front : take made_count (made ++ more) ≡ take made_count made = take-append-le made_count made more is.few in
    ap (λ (xs : List Message). last_pair line (data_pairs xs)) front ∙ was
same_counter tag_of made more (Collision level index made_at accepted tag) is was = tt

-- and when more was made
pub made_more : (tag_of : Message → List ℕ) (history history' : BusHistory) (made more : List Message) (evidence : Evidence) → history'.lies ≡ history.lies → history'.lie ≡ history.lie →
    IsEvidence tag_of made evidence → IsOfFirstLie made history evidence → IsOfFirstLie (made ++ more) history' evidence
made_more tag_of history history' made more evidence lies lie is was = record {
  lies = omega (arith, was.lies, lies);
  lie = was.lie;
  first = lie ∙ was.first;
  place = was.place;
  bytes = was.bytes;
  counter = same_counter tag_of made more evidence is was.counter;
}
