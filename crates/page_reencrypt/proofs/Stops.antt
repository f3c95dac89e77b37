-- Stops that do not last, and stops that are no tampering.
use Rattle.std.proofs.Common.{◌≡◌, ◌≢◌, inl, inr, ℕ, List, Option, Some, None, refl, ap}
use Rattle.sec_base.specs.declared.counter.Counter.{Counter}
use Rattle.sec_base.specs.declared.evidence.Evidence.{Evidence}
use Rattle.sec_base.specs.declared.message.Message.{Message}
use Rattle.sec_base.specs.declared.place.Place.{Place}
use Rattle.sec_base.specs.declared.stop.MemStop.{MemStop}
use Rattle.sec_base.specs.declared.stop.MemStop.TheVariants.{Tampered, Spent, NoMemory}
use Rattle.bus_model.specs.BusHistory.{BusHistory}
use Rattle.bus_model.specs.FirstLie.{HonestOrCaught}
use Rattle.checked_bus.specs.Steps.{IsAccounted}
use Rattle.checked_bus.proofs.CheckedReads.{still_honest}
use Rattle.page_reencrypt.specs.Stops.{lasting_stop}

-- a stop that does not last is none of these
pub going_not_memory : (stopped : Option MemStop) → lasting_stop stopped ≡ None → stopped ≢ Some NoMemory
going_not_memory stopped going is = let lasts : lasting_stop stopped ≡ Some NoMemory = ap lasting_stop is in cc

pub going_not_tampered : (stopped : Option MemStop) (place : Place) → lasting_stop stopped ≡ None → stopped ≢ Some (Tampered place)
going_not_tampered stopped place going is = let lasts : lasting_stop stopped ≡ Some (Tampered place) = ap lasting_stop is in cc

-- a stop that does not last and is of no spent page is none
pub unspent_going : (stop : Option MemStop) → ((page : ℕ) → stop ≢ Some (Spent page)) → lasting_stop stop ≡ None → stop ≡ None
unspent_going None unspent going = refl
unspent_going (Some (Tampered place)) unspent going = absurd (cc)
unspent_going (Some (Spent page)) unspent going = absurd (unspent page refl)
unspent_going (Some NoMemory) unspent going = absurd (cc)

no_lies : (tag_of : Message → List ℕ) (used : List (ℕ × Counter)) (made : List Message) (history : BusHistory) (stop : Option MemStop) →
    ((place : Place) → stop ≢ Some (Tampered place)) → HonestOrCaught tag_of used made history (λ place. stop ≡ Some (Tampered place)) → history.lies ≡ 0
no_lies tag_of used made history stop untampered (inl honest) = honest.lies
no_lies tag_of used made history stop untampered (inr caught) = absurd (untampered caught.lie.place caught.ended)

-- False answers are accounted for by any stop that is no tampering.
pub other_stop : (tag_of : Message → List ℕ) (used : List (ℕ × Counter)) (made : List Message) (history : BusHistory) (stop stop' : Option MemStop) (evidence : Option Evidence) →
    ((place : Place) → stop ≢ Some (Tampered place)) → ((place : Place) → stop' ≢ Some (Tampered place)) →
    IsAccounted tag_of used made history stop evidence → IsAccounted tag_of used made history stop' evidence
other_stop tag_of used made history stop stop' evidence untampered untampered' was = record {
  account = record {
    answers = λ quiet. still_honest tag_of used made history stop' (no_lies tag_of used made history stop untampered (was.account.answers quiet)) untampered';
    shown = was.account.shown;
  };
  genuine = was.genuine;
}
