-- What a call makes of a bus and a tag engine, told by its accesses. `Makes` holds of no call, which is no access, and of two
-- calls one after the other, by the accesses of both, where it holds of each, the first did not stop, and it leaves what the
-- second expects; `HasAccesses` and `MakesAccesses` too, where the first keeps the geometry and the second the first's evidence.
use Rattle.std.specs.Prelude.{◌≡◌, ◌≢◌, ◌⊎◌, ℕ, ◌+◌, ◌-◌, ◌<◌, ◌≤◌, List, [], ◌∷◌, ◌++◌, length, map, Option, Some, None, Result, Ok, Err}
use Rattle.std.specs.Result.{result_err}
use Rattle.sec_base.specs.Count.{Rose}
use Rattle.sec_base.specs.Evidence.{evidence_bytes, evidence_place}
use Rattle.sec_base.specs.Place.{IsPlace}
use Rattle.sec_base.specs.declared.counter.Counter.{Counter}
use Rattle.sec_base.specs.declared.evidence.Evidence.{Evidence}
use Rattle.sec_base.specs.declared.evidence.Evidence.TheVariants.{Forgery, Collision}
use Rattle.sec_base.specs.declared.message.Message.{Message}
use Rattle.sec_base.specs.declared.message.Message.TheVariants.{Line, Node}
use Rattle.sec_base.specs.declared.place.Place.{Place}
use Rattle.sec_base.specs.declared.place.Place.TheVariants.{Line as line_place, Node as node_place}
use Rattle.sec_base.specs.declared.stop.MemStop.{MemStop}
use Rattle.sec_base.specs.declared.stop.MemStop.TheVariants.{Tampered, NoMemory}
use Rattle.bus_model.specs.Access.{Access, Read, Write, AreOf, CameBy, EndsWithRead, writes_in}
use Rattle.bus_model.specs.BusHistory.{BusHistory}
use Rattle.tag_engine.specs.TagEngine.{TagEngineView}
use Rattle.checked_bus.specs.Checks.{IsCheckedNode, IsCheckedRead}
use Rattle.checked_bus.specs.SealedLine.{sealed_line}
use Rattle.checked_bus.specs.Steps.{IsAccounted, IsCurrent, IsCurrentNode, unwritten_in}

-- the write of a message
abbrev pub access_of : (Message → List ℕ) → Message → Access
access_of tag_of (Line line counter cipher) = Write (line_place line) (sealed_line tag_of line counter cipher)
access_of tag_of (Node level index block) = Write (node_place level index) block

-- so many messages were made before the answer that is shown: a forgery counts them, and a collision is with one of them
abbrev pub HasCount : ℕ → Evidence → Type 0
HasCount count (Forgery line counter sealed made_count) = made_count ≡ count
HasCount count (Collision level index made_at accepted tag) = made_at < count

-- Evidence is of an answer among these, and of the messages that were made before it.
pub record IsShownIn (made : ℕ) (accesses : List Access) (evidence : Evidence) : Type 0 where
  pub before : List Access
  pub after : List Access
  pub is : accesses ≡ before ++ Read (evidence_place evidence) (evidence_bytes evidence) ∷ after
  pub count : HasCount (made + length (writes_in before)) evidence

-- What a call's accesses say of its messages, its evidence and its stop. Each write puts out one message, in order; where there
-- was no memory, the last message may not have been written. Evidence that came in this call is of one of its answers. Tampering
-- is of its last access, a read.
pub record HasAccesses {T : Type 0} (tag_of : Message → List ℕ) (engine engine' : TagEngineView T)
    (accesses : List Access) (stop : Option MemStop) : Type 0 where
  pub written : List Message
  pub unwritten : List Message
  pub made : engine'.made ≡ engine.made ++ (written ++ unwritten)
  pub writes : writes_in accesses ≡ map (access_of tag_of) written
  pub few : length unwritten ≤ unwritten_in stop
  pub inside : AreOf (IsPlace engine.geometry) accesses
  pub shown : (evidence : Evidence) → engine.evidence ≡ None → engine'.evidence ≡ Some evidence →
      IsShownIn (length engine.made) accesses evidence
  pub tampered : (place : Place) → stop ≡ Some (Tampered place) → EndsWithRead place accesses

-- Some accesses of the bus are all that a call made of it.
pub record MakesAccesses {B T : Type 0} (bus_moved : B → List Access → B → Type 0) (tag_of : Message → List ℕ) (bus : B)
    (engine : TagEngineView T) (bus' : B) (engine' : TagEngineView T) (stop : Option MemStop) : Type 0 where
  pub accesses : List Access
  pub moved : bus_moved bus accesses bus'
  pub has : HasAccesses tag_of engine engine' accesses stop

-- What became of false answers, where what is expected is what stands outside.
pub record IsChecked {T : Type 0} (tag_of : Message → List ℕ) (expected : List (ℕ × Counter) → Type 0)
    (history : BusHistory) (engine : TagEngineView T) (history' : BusHistory) (engine' : TagEngineView T)
    (stop : Option MemStop) : Type 0 where
  -- they are accounted for, with evidence from before whatever was expected
  pub honest : (used : List (ℕ × Counter)) → (engine.evidence ≡ None → expected used) →
      IsAccounted tag_of used engine.made history None engine.evidence →
      IsAccounted tag_of used engine'.made history' stop engine'.evidence
  -- nothing was found, or an answer was false
  pub found : (used : List (ℕ × Counter)) → expected used → engine.evidence ≡ None →
      ((engine'.evidence ≡ None) × ((place : Place) → stop ≢ Some (Tampered place))) ⊎ Rose history.lies history'.lies
  -- the first evidence stays
  pub first : (evidence : Evidence) → engine.evidence ≡ Some evidence → engine'.evidence ≡ Some evidence

-- A call made these accesses, and nothing else of a bus and a tag engine.
pub record Makes {T : Type 0} (tag_of : Message → List ℕ) (expected : List (ℕ × Counter) → Type 0)
    (history : BusHistory) (engine : TagEngineView T) (history' : BusHistory) (engine' : TagEngineView T)
    (accesses : List Access) (stop : Option MemStop) : Type 0 where
  pub came : CameBy history accesses history'
  pub bus_geometry : history'.geometry ≡ history.geometry
  pub has : HasAccesses tag_of engine engine' accesses stop
  pub geometry : engine'.geometry ≡ engine.geometry
  pub tagger : engine'.tagger ≡ engine.tagger
  pub room : engine'.room ≡ engine.room - (length engine'.made - length engine.made)
  pub checked : IsChecked tag_of expected history engine history' engine' stop

-- A checked read of a line is one read of its place, or none where there was no memory for it. What is expected is that the
-- counter is the line's last, and that the place holds what was tagged under it.
pub record ReadsLine {T : Type 0} (tag_of : Message → List ℕ) (line : ℕ) (counter : Counter) (history : BusHistory)
    (engine : TagEngineView T) (history' : BusHistory) (engine' : TagEngineView T) (accesses : List Access)
    (result : Result (List ℕ) MemStop) : Type 0 where
  pub read : IsCheckedRead tag_of line counter accesses engine engine' result
  pub makes : Makes tag_of (λ used. IsCurrent tag_of used engine.made history.written line counter)
      history engine history' engine' accesses (result_err result)

-- A checked read of a node is one read of its place, or none where there was no memory for it. What is expected is that the tag
-- is that of the node's last block, and that the place holds that block.
pub record ReadsNode {T : Type 0} (tag_of : Message → List ℕ) (level index : ℕ) (tag : List ℕ) (history : BusHistory)
    (engine : TagEngineView T) (history' : BusHistory) (engine' : TagEngineView T) (accesses : List Access)
    (result : Result (List ℕ) MemStop) : Type 0 where
  pub read : IsCheckedNode tag_of level index tag accesses engine engine' result
  pub makes : Makes tag_of (λ used. IsCurrentNode tag_of engine.made history.written level index tag)
      history engine history' engine' accesses (result_err result)

-- the accesses of a write, and why it stopped, by its answer
abbrev pub if_done : {A E : Type 0} → Result A E → Access → List Access
if_done (Ok value) access = access ∷ []
if_done (Err error) access = []

abbrev pub refusal_of : {A E : Type 0} → Result A E → Option MemStop
refusal_of (Ok value) = None
refusal_of (Err error) = Some NoMemory

-- A tagged write is one write, whatever stood outside.
abbrev pub WritesMessage : {T A E : Type 0} → (Message → List ℕ) → Message → BusHistory → TagEngineView T →
    BusHistory → TagEngineView T → Result A E → Type 0
WritesMessage tag_of message history engine history' engine' result =
    Makes tag_of (λ used. Unit {0}) history engine history' engine'
    (if_done result (access_of tag_of message)) (refusal_of result)
