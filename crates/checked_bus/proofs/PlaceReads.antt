-- What an answer for a place makes of a bus, and what stays where there was none.
use Rattle.std.proofs.Common.{◌≡◌, ◌≢◌, ◌⊎◌, ℕ, inl, inr, List, [], ◌∷◌, Option, None, Some, refl, ap, sym, ◌∙◌, subst, arith, length}
use Rattle.std.proofs.lemmas.List.{append-nil}
use Rattle.sec_base.specs.Count.{more_by, Rose}
use Rattle.sec_base.specs.LastMessage.{data_pairs}
use Rattle.sec_base.specs.Place.{IsPlace}
use Rattle.sec_base.specs.declared.counter.Counter.{Counter}
use Rattle.sec_base.specs.declared.evidence.Evidence.{Evidence}
use Rattle.sec_base.specs.declared.message.Message.{Message}
use Rattle.sec_base.specs.declared.place.Place.{Place}
use Rattle.sec_base.specs.declared.place.Place.TheVariants.{Line as line_place}
use Rattle.sec_base.specs.declared.stop.MemStop.{MemStop}
use Rattle.sec_base.specs.declared.stop.MemStop.TheVariants.{Tampered, NoMemory}
use Rattle.sec_base.proofs.SamePlaces.{at_place-there}
use Rattle.bus_model.specs.Access.{Access, Read, CameBy, EndsWithRead, after_all}
use Rattle.bus_model.specs.BusHistory.{BusHistory, after_read}
use Rattle.bus_model.proofs.Steps.{read_geometry, read_written, read_reads, read_accesses, read_rose}
use Rattle.tag_engine.specs.TagEngine.{TagEngineView}
use Rattle.checked_bus.specs.Makes.{HasAccesses, IsChecked, IsShownIn, Makes}
use Rattle.checked_bus.specs.Steps.{IsAccounted, SameLines}
use Rattle.checked_bus.proofs.Makes.{has_not}
use Rattle.checked_bus.proofs.FalseAnswers.{first_lie_stays}
use Rattle.checked_bus.proofs.Steps.{SamePlace, same_last, same_place_not}

-- the history after one read, and after none
pub told : (history history' : BusHistory) (accesses : List Access) (place : Place) (bytes : List ℕ) → CameBy history accesses history' →
    accesses ≡ Read place bytes ∷ [] → history' ≡ after_read place bytes history
told history history' accesses place bytes came is = came ∙ ap (λ (xs : List Access). after_all xs history) is

pub untold : (history history' : BusHistory) (accesses : List Access) → CameBy history accesses history' → accesses ≡ [] → history' ≡ history
untold history history' accesses came is = came ∙ ap (λ (xs : List Access). after_all xs history) is

-- A checked read changes neither the messages nor what was written. It is one read of the place, or none where there was
-- no memory for it.
pub record ReadsOnce {T : Type 0} (place : Place) (old : BusHistory) (engine : TagEngineView T) (new : BusHistory)
    (engine' : TagEngineView T) (stop : Option MemStop) : Type 0 where
  pub made : engine'.made ≡ engine.made
  pub room : engine'.room ≡ engine.room
  pub written : new.written ≡ old.written
  pub once : new.accesses ≡ more_by 1 old.accesses ⊎ (stop ≡ Some NoMemory)
  pub rose : stop ≢ Some NoMemory → Rose (old.reads place) (new.reads place)
  pub refused : stop ≡ Some NoMemory → (new ≡ old) × (engine' ≡ engine)

-- A read of a place was answered so, and of the tag engine only what it shows may have changed.
pub record WasAnswered {T : Type 0} (place : Place) (history history' : BusHistory) (engine engine' : TagEngineView T) : Type 0 where
  pub bytes : List ℕ
  pub shown : Option Evidence
  pub answered : history' ≡ after_read place bytes history
  pub engine_is : engine' ≡ record engine { evidence = shown }
  pub first : (evidence : Evidence) → engine.evidence ≡ Some evidence → shown ≡ Some evidence

-- it was, or there was no memory for it
abbrev pub IsRead : {T : Type 0} → Place → BusHistory → BusHistory → TagEngineView T → TagEngineView T → Option MemStop → Type 0
IsRead place history history' engine engine' stop =
    (WasAnswered place history history' engine engine' × (stop ≢ Some NoMemory)) ⊎ ((history' ≡ history) × (engine' ≡ engine) × (stop ≡ Some NoMemory))

module _ {T : Type 0} (place : Place) (history history' : BusHistory) (engine engine' : TagEngineView T) (stop : Option MemStop) where
  -- the first evidence stays
  pub place_first : IsRead place history history' engine engine' stop → (evidence : Evidence) → engine.evidence ≡ Some evidence → engine'.evidence ≡ Some evidence
  place_first (inl (read, remembered)) evidence is = ap (λ (e : TagEngineView T). e.evidence) read.engine_is ∙ read.first evidence is
  place_first (inr (same, unchanged, refused)) evidence is = ap (λ (e : TagEngineView T). e.evidence) unchanged ∙ is

  -- it is one read
  pub place_once : IsRead place history history' engine engine' stop → ReadsOnce place history engine history' engine' stop
  place_once (inl (read, remembered)) = record {
    made = ap (λ (e : TagEngineView T). e.made) read.engine_is;
    room = ap (λ (e : TagEngineView T). e.room) read.engine_is;
    written = ap (λ (t : BusHistory). t.written) read.answered ∙ read_written place read.bytes history;
    once = inl (ap (λ (t : BusHistory). t.accesses) read.answered ∙ read_accesses place read.bytes history);
    rose = λ _. subst (λ (t : BusHistory). Rose (history.reads place) (t.reads place)) (sym read.answered) (read_rose place read.bytes history);
    refused = λ none. absurd (remembered none);
  }
  place_once (inr (same, unchanged, refused)) = record {
    made = ap (λ (e : TagEngineView T). e.made) unchanged;
    room = ap (λ (e : TagEngineView T). e.room) unchanged;
    written = ap (λ (t : BusHistory). t.written) same;
    once = inr refused;
    rose = λ remembered. absurd (remembered refused);
    refused = λ none. (same, unchanged);
  }

  -- no other place is touched
  pub place_others : (other : Place) → other ≢ place → IsRead place history history' engine engine' stop → SamePlace other history engine.made history' engine'.made
  place_others other apart (inl (read, remembered)) = record {
    written = ap (λ (f : Place → List ℕ). f other) (ap (λ (t : BusHistory). t.written) read.answered ∙ read_written place read.bytes history);
    reads = ap (λ (f : Place → ℕ). f other) (ap (λ (t : BusHistory). t.reads) read.answered ∙ read_reads place read.bytes history)
        ∙ at_place-there place other (more_by 1 (history.reads place)) history.reads apart;
    last = same_last other engine.made engine'.made (ap (λ (e : TagEngineView T). e.made) read.engine_is);
  }
  place_others other apart (inr (same, unchanged, refused)) =
      subst (λ (t : BusHistory). SamePlace other history engine.made t engine'.made) (sym same)
      (subst (λ (e : TagEngineView T). SamePlace other history engine.made history e.made) (sym unchanged) (same_place_not other history engine.made))

  -- nor a line, where the place is none of a line
  pub place_lines : ((line : ℕ) → line_place line ≢ place) → IsRead place history history' engine engine' stop →
      SameLines history engine.made history' engine'.made
  unfolding data_pairs
  place_lines apart read = record {
    written = λ line. (place_others (line_place line) (apart line) read).written;
    reads = λ line. (place_others (line_place line) (apart line) read).reads;
    more = [];
    made_more = (place_once read).made ∙ sym (append-nil engine.made);
    no_lines = refl;
  }

  -- with evidence from before it is told by what that shows
  pub answer_accounted : (tag_of : Message → List ℕ) (used : List (ℕ × Counter)) (first : Evidence) → engine.evidence ≡ Some first →
      WasAnswered place history history' engine engine' →
      IsAccounted tag_of used engine.made history None engine.evidence → IsAccounted tag_of used engine'.made history' stop engine'.evidence
  answer_accounted tag_of used first before read was =
      let after : engine'.evidence ≡ Some first = ap (λ (e : TagEngineView T). e.evidence) read.engine_is ∙ read.first first before in
      subst (λ (t : BusHistory). IsAccounted tag_of used engine'.made t stop engine'.evidence) (sym read.answered)
      (subst (λ (xs : List Message). IsAccounted tag_of used xs (after_read place read.bytes history) stop engine'.evidence)
      (sym (ap (λ (e : TagEngineView T). e.made) read.engine_is))
      (subst (λ (o : Option Evidence). IsAccounted tag_of used engine.made (after_read place read.bytes history) stop o) (before ∙ sym after) (record {
        account = record {
          answers = λ quiet. absurd (let none : engine.evidence ≡ None = quiet in cc);
          shown = λ evidence is. first_lie_stays history engine.made place read.bytes evidence (was.account.shown evidence is);
        };
        genuine = was.genuine;
      })))

-- tampering was told of the last access
pub told_last : (place other : Place) (stop : MemStop) (bytes : List ℕ) → stop ≡ Tampered place → Some stop ≡ Some (Tampered other) →
    EndsWithRead other (Read place bytes ∷ [])
told_last place other stop bytes here is = record {
  before = [];
  bytes = bytes;
  is = let same : place ≡ other = cc in ap (λ (p : Place). Read p bytes ∷ []) same;
}

-- The accesses of a read

module _ {T : Type 0} (tag_of : Message → List ℕ) (expected : List (ℕ × Counter) → Type 0) (history history' : BusHistory)
    (engine engine' : TagEngineView T) (stop : Option MemStop) where
  pub answer_makes : (place : Place) (bytes : List ℕ) (shown : Option Evidence) → history' ≡ after_read place bytes history →
      engine' ≡ record engine { evidence = shown } → IsPlace engine.geometry place →
      ((evidence : Evidence) → engine.evidence ≡ None → engine'.evidence ≡ Some evidence → IsShownIn (length engine.made) (Read place bytes ∷ []) evidence) →
      ((other : Place) → stop ≡ Some (Tampered other) → EndsWithRead other (Read place bytes ∷ [])) →
      IsChecked tag_of expected history engine history' engine' stop → Makes tag_of expected history engine history' engine' (Read place bytes ∷ []) stop
  answer_makes place bytes shown answered engine_is inside shows tells checked = record {
    came = answered;
    bus_geometry = ap (λ (t : BusHistory). t.geometry) answered ∙ read_geometry place bytes history;
    has = record {
      written = [];
      unwritten = [];
      made = ap (λ (e : TagEngineView T). e.made) engine_is ∙ sym (append-nil engine.made);
      writes = refl;
      few = omega arith;
      inside = (inside, tt);
      shown = shows;
      tampered = tells;
    };
    geometry = ap (λ (e : TagEngineView T). e.geometry) engine_is;
    tagger = ap (λ (e : TagEngineView T). e.tagger) engine_is;
    room =
        let is : engine'.room ≡ engine.room = ap (λ (e : TagEngineView T). e.room) engine_is in
        let made : length engine'.made ≡ length engine.made = ap (λ (e : TagEngineView T). length e.made) engine_is in omega (arith, is, made);
    checked = checked;
  }

  pub nothing_makes : history' ≡ history → engine' ≡ engine → ((place : Place) → stop ≢ Some (Tampered place)) →
      IsChecked tag_of expected history engine history' engine' stop → Makes tag_of expected history engine history' engine' [] stop
  nothing_makes same engine_is untampered checked = record {
    came = same;
    bus_geometry = ap (λ (t : BusHistory). t.geometry) same;
    has = subst (λ (e : TagEngineView T). HasAccesses tag_of engine e [] stop) (sym engine_is) (has_not tag_of engine stop untampered);
    geometry = ap (λ (e : TagEngineView T). e.geometry) engine_is;
    tagger = ap (λ (e : TagEngineView T). e.tagger) engine_is;
    room =
        let is : engine'.room ≡ engine.room = ap (λ (e : TagEngineView T). e.room) engine_is in
        let made : length engine'.made ≡ length engine.made = ap (λ (e : TagEngineView T). length e.made) engine_is in omega (arith, is, made);
    checked = checked;
  }
