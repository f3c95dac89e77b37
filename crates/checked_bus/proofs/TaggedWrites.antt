-- What a tagged write makes of a bus and a tag engine.
use Rattle.std.proofs.Common.{◌≡◌, ◌≢◌, ℕ, true, false, inl, List, [], ◌∷◌, ◌++◌, Option, None, Some, OnOk, OnErr, Result, Ok, Err, refl, ap, sym, ◌∙◌, subst, arith, length, ◌+◌, ◌-◌, length-append}
use Rattle.std.specs.Prelude.{IsErr}
use Rattle.sec_base.specs.Count.{more_by}
use Rattle.sec_base.specs.Evidence.{IsEvidence}
use Rattle.sec_base.specs.LastMessage.{data_pairs, data_part, node_part}
use Rattle.sec_base.specs.Place.{IsPlace, at_place}
use Rattle.sec_base.specs.declared.counter.Counter.{Counter}
use Rattle.sec_base.specs.declared.evidence.Evidence.{Evidence}
use Rattle.sec_base.specs.declared.message.Message.{Message}
use Rattle.sec_base.specs.declared.message.Message.TheVariants.{Line, Node}
use Rattle.sec_base.specs.declared.place.Place.{Place}
use Rattle.sec_base.specs.declared.place.Place.TheVariants.{Line as line_place, Node as node_place}
use Rattle.sec_base.proofs.LastMessages.{last_of_other}
use Rattle.sec_base.specs.declared.stop.NoMemory.{NoMemory as refusal}
use Rattle.sec_base.specs.declared.stop.MemStop.{MemStop}
use Rattle.sec_base.specs.declared.stop.MemStop.TheVariants.{Tampered, NoMemory}
use Rattle.bus_model.specs.Access.{Access, Write, AreOf, CameBy, after_all, after_one, one_write, writes_in}
use Rattle.bus_model.proofs.Accesses.{all_geometry, untouched}
use Rattle.bus_model.specs.BusHistory.{BusHistory, after_write}
use Rattle.tag_engine.specs.TagEngine.{TagEngineView, after_make}
use Rattle.tag_engine.proofs.Forgeries.{still_genuine}
use Rattle.tag_engine.proofs.LastPlaces.{node_part-other}
use Rattle.checked_bus.specs.Makes.{access_of, if_done, IsChecked, IsShownIn, WritesMessage}
use Rattle.checked_bus.specs.Steps.{IsAccounted, SameLines}
use Rattle.checked_bus.proofs.FalseAnswers.{made_more}
use Rattle.checked_bus.proofs.Evidences.{some_holds}
use Rattle.checked_bus.proofs.CheckedReads.{none_lied, still_honest}
use Rattle.checked_bus.proofs.Steps.{SameLast, SamePlace}

-- the history after a write, whether it was refused or not
pub wrote_as : {A E : Type 0} (result : Result A E) (access : Access) (history history' : BusHistory) → CameBy history (if_done result access) history' →
    OnOk result (history' ≡ after_one access history) × OnErr result (history' ≡ history)
wrote_as (Ok value) access history history' came = (came, tt)
wrote_as (Err error) access history history' came = (tt, came)

-- it is the one write of a message
pub one_done : (place : Place) (bytes bytes' : List ℕ) (result : Result (Unit {0}) refusal) → bytes ≡ bytes' →
    one_write place bytes result ≡ if_done result (Write place bytes')
one_done place bytes bytes' (Ok done) same = ap (λ (xs : List ℕ). Write place xs ∷ []) same
one_done place bytes bytes' (Err refused) same = refl

pub none_done : {A E : Type 0} (result : Result A E) (access : Access) → IsErr result → [] ≡ if_done result access
none_done (Ok value) access wrong = let no : false ≡ true = wrong in absurd (cc)
none_done (Err error) access refused = refl

-- A write changes what the place holds and nothing else of the bus, but that an access is counted.
pub record WritesOnce (place : Place) (bytes : List ℕ) (old new : BusHistory) : Type 0 where
  pub written : new.written ≡ at_place place bytes old.written
  pub reads : new.reads ≡ old.reads
  pub lies : new.lies ≡ old.lies
  pub lie : new.lie ≡ old.lie
  pub once : new.accesses ≡ more_by 1 old.accesses

pub wrote_once : (place : Place) (bytes : List ℕ) (history history' : BusHistory) → history' ≡ after_write place bytes history →
    WritesOnce place bytes history history'
unfolding after_write
wrote_once place bytes history history' wrote = record {
  written = ap (λ (t : BusHistory). t.written) wrote;
  reads = ap (λ (t : BusHistory). t.reads) wrote;
  lies = ap (λ (t : BusHistory). t.lies) wrote;
  lie = ap (λ (t : BusHistory). t.lie) wrote;
  once = ap (λ (t : BusHistory). t.accesses) wrote;
}

-- a message of a node is the last of no other place
pub node_last : (made : List Message) (level index : ℕ) (block : List ℕ) (other : Place) → other ≢ node_place level index →
    SameLast other made (made ++ Node level index block ∷ [])
node_last made level index block (line_place line) apart = last_of_other (data_part line) made (Node level index block) refl
node_last made level index block (node_place at_level at) apart =
    last_of_other (node_part at_level at) made (Node level index block)
    (node_part-other at_level at level index block (λ (same : level ≡ at_level) (both : index ≡ at). apart (cc (same, both))))

-- where no answer is false
message_accounted : {T : Type 0} (tag_of : Message → List ℕ) (message : Message) (history history' : BusHistory)
    (engine engine' : TagEngineView T) → engine' ≡ after_make message engine → (used more : List (ℕ × Counter)) (stop : Option MemStop) →
    ((place : Place) → stop ≢ Some (Tampered place)) → history'.lies ≡ history.lies → history'.lie ≡ history.lie →
    IsAccounted tag_of used engine.made history None engine.evidence → IsAccounted tag_of more engine'.made history' stop engine'.evidence
message_accounted {T} tag_of message history history' engine engine' made used more stop untampered lies lie was =
    subst (λ (e : TagEngineView T). IsAccounted tag_of more e.made history' stop e.evidence) (sym made) (record {
      account = record {
        answers = λ quiet. still_honest tag_of more (engine.made ++ message ∷ []) history' stop
            (lies ∙ none_lied tag_of used engine.made history (was.account.answers quiet)) untampered;
        shown = λ evidence is. made_more tag_of history history' engine.made (message ∷ []) evidence lies lie
            (some_holds engine.evidence evidence (IsEvidence tag_of engine.made) is was.genuine) (was.account.shown evidence is);
      };
      genuine = still_genuine tag_of engine.made (message ∷ []) engine.evidence was.genuine;
    })

-- a node's message is none of a line
no_line_made : (level index : ℕ) (block : List ℕ) → data_pairs (Node level index block ∷ []) ≡ []
unfolding data_pairs
no_line_made level index block = refl

-- a write is no answer
message_lies : (tag_of : Message → List ℕ) (message : Message) (history : BusHistory) →
    ((after_all (access_of tag_of message ∷ []) history).lies ≡ history.lies) × ((after_all (access_of tag_of message ∷ []) history).lie ≡ history.lie)
unfolding after_write
message_lies tag_of (Line line counter cipher) history = (refl, refl)
message_lies tag_of (Node level index block) history = (refl, refl)

came_lies : {A E : Type 0} (tag_of : Message → List ℕ) (message : Message) (history history' : BusHistory) (result : Result A E) →
    CameBy history (if_done result (access_of tag_of message)) history' → (history'.lies ≡ history.lies) × (history'.lie ≡ history.lie)
came_lies tag_of message history history' (Ok value) came = (
  ap (λ (t : BusHistory). t.lies) came ∙ (message_lies tag_of message history).0,
  ap (λ (t : BusHistory). t.lie) came ∙ (message_lies tag_of message history).1,
)
came_lies tag_of message history history' (Err error) came = (ap (λ (t : BusHistory). t.lies) came, ap (λ (t : BusHistory). t.lie) came)

message_writes : (tag_of : Message → List ℕ) (message : Message) → writes_in (access_of tag_of message ∷ []) ≡ access_of tag_of message ∷ []
message_writes tag_of (Line line counter cipher) = refl
message_writes tag_of (Node level index block) = refl

-- The accesses of a write

module _ {T : Type 0} (tag_of : Message → List ℕ) (message : Message) (history history' : BusHistory)
    (engine engine' : TagEngineView T) (made : engine' ≡ after_make message engine) where
  write_checked : (stop : Option MemStop) → ((place : Place) → stop ≢ Some (Tampered place)) →
      history'.lies ≡ history.lies → history'.lie ≡ history.lie →
      IsChecked tag_of (λ used. Unit {0}) history engine history' engine' stop
  write_checked stop untampered lies lie = record {
    honest = λ used expects was. message_accounted tag_of message history history' engine engine' made used used stop untampered lies lie was;
    found = λ used expects quiet. inl (ap (λ (e : TagEngineView T). e.evidence) made ∙ quiet, untampered);
    first = λ evidence is. ap (λ (e : TagEngineView T). e.evidence) made ∙ is;
  }

  message_room : engine'.room ≡ engine.room - (length engine'.made - length engine.made)
  message_room =
      let taken : engine'.room ≡ engine.room - 1 = ap (λ (e : TagEngineView T). e.room) made in
      let one : length engine'.made ≡ length engine.made + 1 = ap (λ (e : TagEngineView T). length e.made) made ∙ length-append engine.made (message ∷ []) in
      omega (arith, taken, one)

  none_shown : (accesses : List Access) (evidence : Evidence) → engine.evidence ≡ None → engine'.evidence ≡ Some evidence →
      IsShownIn (length engine.made) accesses evidence
  none_shown accesses evidence quiet is =
      let same : engine'.evidence ≡ engine.evidence = ap (λ (e : TagEngineView T). e.evidence) made in absurd (cc)

  pub write_makes : AreOf (IsPlace engine.geometry) (access_of tag_of message ∷ []) → {A E : Type 0} (result : Result A E) → CameBy history (if_done result (access_of tag_of message)) history' →
      WritesMessage tag_of message history engine history' engine' result
  write_makes inside {A} {E} (Ok value) came = record {
    came = came;
    bus_geometry = ap (λ (t : BusHistory). t.geometry) came ∙ all_geometry (access_of tag_of message ∷ []) history;
    has = record {
      written = message ∷ [];
      unwritten = [];
      made = ap (λ (e : TagEngineView T). e.made) made;
      writes = message_writes tag_of message;
      few = omega arith;
      inside = inside;
      shown = none_shown (access_of tag_of message ∷ []);
      tampered = λ place is. absurd (cc);
    };
    geometry = ap (λ (e : TagEngineView T). e.geometry) made;
    tagger = ap (λ (e : TagEngineView T). e.tagger) made;
    room = message_room;
    checked =
        let same = came_lies {A = A} {E = E} tag_of message history history' (Ok value) came in
        write_checked None (λ place is. cc) same.0 same.1;
  }
  write_makes inside {A} {E} (Err error) came = record {
    came = came;
    bus_geometry = ap (λ (t : BusHistory). t.geometry) came;
    has = record {
      written = [];
      unwritten = message ∷ [];
      made = ap (λ (e : TagEngineView T). e.made) made;
      writes = refl;
      few = omega arith;
      inside = tt;
      shown = none_shown [];
      tampered = λ place is. absurd (cc);
    };
    geometry = ap (λ (e : TagEngineView T). e.geometry) made;
    tagger = ap (λ (e : TagEngineView T). e.tagger) made;
    room = message_room;
    checked =
        let same = came_lies {A = A} {E = E} tag_of message history history' (Err error) came in
        write_checked (Some NoMemory) (λ place is. cc) same.0 same.1;
  }

-- What follows of a tagged write

module _ {T A E : Type 0} {tag_of : Message → List ℕ} (message : Message) (result : Result A E) {history history' : BusHistory} {engine engine' : TagEngineView T}
    (made : engine' ≡ after_make message engine) (writes : WritesMessage tag_of message history engine history' engine' result) where
  -- no answer was false, whatever was encrypted besides
  pub write_honest : (used more : List (ℕ × Counter)) → IsAccounted tag_of used engine.made history None engine.evidence →
      IsAccounted tag_of more engine'.made history' None engine'.evidence
  write_honest used more was =
      let same = came_lies tag_of message history history' result writes.came in
      message_accounted tag_of message history history' engine engine' made used more None (λ place is. cc) same.0 same.1 was

is_apart : {A E : Type 0} (result : Result A E) (place other : Place) (bytes : List ℕ) → other ≢ place →
    AreOf (λ (at : Place). other ≢ at) (if_done result (Write place bytes))
is_apart (Ok value) place other bytes apart = (apart, tt)
is_apart (Err error) place other bytes apart = tt

module _ {T A E : Type 0} {tag_of : Message → List ℕ} (level index : ℕ) (block : List ℕ) (result : Result A E) {history history' : BusHistory}
    {engine engine' : TagEngineView T} (made : engine' ≡ after_make (Node level index block) engine)
    (writes : WritesMessage tag_of (Node level index block) history engine history' engine' result) where
  untouched_by : (other : Place) → other ≢ node_place level index →
      (history'.written other ≡ history.written other) × (history'.reads other ≡ history.reads other)
  untouched_by other apart =
      let same = untouched (if_done result (Write (node_place level index) block)) history other (is_apart result (node_place level index) other block apart) in
      (ap (λ (t : BusHistory). t.written other) writes.came ∙ same.0, ap (λ (t : BusHistory). t.reads other) writes.came ∙ same.1)

  -- no other place than the node's is touched
  pub write_others : (other : Place) → other ≢ node_place level index → SamePlace other history engine.made history' engine'.made
  write_others other apart = record {
    written = (untouched_by other apart).0;
    reads = (untouched_by other apart).1;
    last = subst (λ (xs : List Message). SameLast other engine.made xs) (sym (ap (λ (e : TagEngineView T). e.made) made))
        (node_last engine.made level index block other apart);
  }

  -- nor any line
  pub write_lines : SameLines history engine.made history' engine'.made
  write_lines = record {
    written = λ line. (untouched_by (line_place line) (λ same. absurd (cc))).0;
    reads = λ line. (untouched_by (line_place line) (λ same. absurd (cc))).1;
    more = Node level index block ∷ [];
    made_more = ap (λ (e : TagEngineView T). e.made) made;
    no_lines = no_line_made level index block;
  }
