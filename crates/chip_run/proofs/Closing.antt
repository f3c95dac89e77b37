-- How a run ends, by the stop that its memory keeps.
use Rattle.std.proofs.Common.{◌≡◌, ◌≢◌, ◌≤◌, inl, inr, ℕ, List, Option, Some, None, ap, refl, sym, subst, arith}
use Rattle.sec_base.specs.declared.counter.Counter.{Counter}
use Rattle.sec_base.specs.declared.ending.Ending.{Ending}
use Rattle.sec_base.specs.declared.ending.Ending.TheVariants.{Tampered, Spent, WriteFault, NoMemory}
use Rattle.sec_base.specs.declared.evidence.Evidence.{Evidence}
use Rattle.sec_base.specs.declared.message.Message.{Message}
use Rattle.sec_base.specs.declared.place.Place.{Place}
use Rattle.sec_base.specs.declared.stop.MemStop.{MemStop}
use Rattle.sec_base.specs.declared.stop.MemStop.TheVariants.{Tampered as tampered, Spent as spent, NoMemory as no_memory}
use Rattle.bus_model.specs.BusHistory.{BusHistory}
use Rattle.bus_model.specs.FirstLie.{AccountsForLies, HonestOrCaught}
use Rattle.rv32_run.specs.Execution.{CarriesEnding, stop_ending}
use Rattle.checked_bus.specs.Steps.{unwritten_in}
use Rattle.page_reencrypt.specs.Stops.{lasting_stop}
use Rattle.chip_run.specs.Run.{EndsAnywhere, unwritten_at}

-- what ends as the stop of its memory
pub ends_as_stop : (stopped : Option MemStop) (stop : MemStop) (ending : Ending) → stopped ≡ Some stop → ending ≡ stop_ending stop → CarriesEnding stopped (Some ending)
ends_as_stop stopped stop ending is same = subst (λ (s : Option MemStop). CarriesEnding s (Some ending)) (sym is) (ap Some same)

-- It ends as tampering where the memory stopped so

ended_tampered : (stopped : Option MemStop) (ending : Ending) (place : Place) → CarriesEnding stopped (Some ending) → stopped ≡ Some (tampered place) → ending ≡ Tampered place
ended_tampered None ending place carries is = cc
ended_tampered (Some stop) ending place carries is = cc

pub stopped_tampered : (stopped : Option MemStop) (ending : Ending) (place : Place) → CarriesEnding stopped (Some ending) → ending ≡ Tampered place → stopped ≡ Some (tampered place)
stopped_tampered None ending place carries is = let stop = carries (tampered place) (ap Some is) in cc
stopped_tampered (Some (tampered other)) ending place carries is = cc
stopped_tampered (Some (spent page)) ending place carries is = cc
stopped_tampered (Some no_memory) ending place carries is = cc

-- as a page that is spent

pub stopped_spent : (stopped : Option MemStop) (ending : Ending) (page : ℕ) → CarriesEnding stopped (Some ending) → ending ≡ Spent page → stopped ≡ Some (spent page)
stopped_spent None ending page carries is = let stop = carries (spent page) (ap Some is) in cc
stopped_spent (Some (tampered place)) ending page carries is = cc
stopped_spent (Some (spent other)) ending page carries is = cc
stopped_spent (Some no_memory) ending page carries is = cc

-- and out of memory, which may also be the sink's

pub never_wanting : (stopped : Option MemStop) (ending : Ending) → CarriesEnding stopped (Some ending) → ending ≢ NoMemory → stopped ≢ Some no_memory
never_wanting None ending carries some is = cc
never_wanting (Some stop) ending carries some is = some (cc)

pub unwritten_most : (stopped : Option MemStop) (ending : Ending) → CarriesEnding stopped (Some ending) → unwritten_in stopped ≤ unwritten_at ending
unwritten_most None ending carries = omega arith
unwritten_most (Some (tampered place)) ending carries = omega arith
unwritten_most (Some (spent page)) ending carries = omega arith
unwritten_most (Some no_memory) ending carries =
    let is : ending ≡ NoMemory = cc in
    subst (λ (e : Ending). 1 ≤ unwritten_at e) (sym is) (omega arith)

-- Where no page may be half encrypted anew, the memory goes on

pub not_lasting : (stopped : Option MemStop) (ending : Ending) → CarriesEnding stopped (Some ending) → ¬ EndsAnywhere ending → lasting_stop stopped ≡ None
not_lasting None ending carries whole = refl
not_lasting (Some (tampered place)) ending carries whole = absurd (whole (inl (place, cc)))
not_lasting (Some (spent page)) ending carries whole = refl
not_lasting (Some no_memory) ending carries whole = absurd (whole (inr (cc)))

-- A write fault comes where it did not stop

pub going_on_fault : (stopped : Option MemStop) (ending : Ending) → CarriesEnding stopped (Some ending) → ending ≡ WriteFault → stopped ≡ None
going_on_fault None ending carries is = refl
going_on_fault (Some (tampered place)) ending carries is = absurd (cc)
going_on_fault (Some (spent page)) ending carries is = absurd (cc)
going_on_fault (Some no_memory) ending carries is = absurd (cc)

-- What was taken for tampering may be said by another word

answers_map : (tag_of : Message → List ℕ) (used : List (ℕ × Counter)) (made : List Message) (history : BusHistory) (P Q : Place → Type 0) → ((place : Place) → P place → Q place) → ((place : Place) → Q place → P place) → HonestOrCaught tag_of used made history P → HonestOrCaught tag_of used made history Q
answers_map tag_of used made history P Q there back (inl honest) = inl (record { lies = honest.lies; untampered = λ place q. honest.untampered place (back place q) })
answers_map tag_of used made history P Q there back (inr caught) =
    inr (record { lies = caught.lies; lie = caught.lie; first = caught.first; last = caught.last; fails = caught.fails; ended = there caught.lie.place caught.ended })

pub ended_account : (tag_of : Message → List ℕ) (used : List (ℕ × Counter)) (made : List Message) (history : BusHistory) (stopped : Option MemStop) (ending : Ending) (evidence : Option Evidence) →
    CarriesEnding stopped (Some ending) → AccountsForLies tag_of used made history (λ place. stopped ≡ Some (tampered place)) evidence →
    AccountsForLies tag_of used made history (λ place. ending ≡ Tampered place) evidence
ended_account tag_of used made history stopped ending evidence carries account = record {
  answers = λ quiet.
      answers_map tag_of used made history (λ place. stopped ≡ Some (tampered place)) (λ place. ending ≡ Tampered place)
      (λ place is. ended_tampered stopped ending place carries is) (λ place is. stopped_tampered stopped ending place carries is)
      (account.answers quiet);
  shown = account.shown;
}
