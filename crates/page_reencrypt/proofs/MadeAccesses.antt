-- The accesses of calls, one after another, where the tags stay; and of what makes no access.
use Rattle.std.proofs.Common.{◌≡◌, ◌≢◌, ℕ, List, [], ◌∷◌, ◌++◌, Option, Some, None, Result, Ok, Err, refl, sym, arith}
use Rattle.std.proofs.lemmas.List.{append-nil}
use Rattle.sec_base.specs.declared.evidence.Evidence.{Evidence}
use Rattle.sec_base.specs.declared.message.Message.{Message}
use Rattle.sec_base.specs.declared.place.Place.{Place}
use Rattle.sec_base.specs.declared.stop.MemStop.{MemStop}
use Rattle.sec_base.specs.declared.stop.MemStop.TheVariants.{Tampered}
use Rattle.sec_base.specs.declared.stop.NoMemory.{NoMemory}
use Rattle.bus_model.specs.Access.{Access}
use Rattle.bus_model.specs.BusHistory.{BusHistory}
use Rattle.tag_engine.specs.TagEngine.{TagEngineView, with_room as tags_with_room}
use Rattle.checked_bus.specs.Makes.{MakesAccesses, WritesMessage, access_of, if_done}
use Rattle.checked_bus.proofs.Makes.{has_not, has_on}
use Rattle.bonsai_tree.specs.Tree.{want_of}

module _ {B T : Type 0} (bus_moved : B → List Access → B → Type 0) (tag_of : Message → List ℕ) where
  -- no call was made
  pub made_not : ((bus : B) → bus_moved bus [] bus) → (bus : B) (engine : TagEngineView T) (stop : Option MemStop) →
      ((place : Place) → stop ≢ Some (Tampered place)) → MakesAccesses bus_moved tag_of bus engine bus engine stop
  made_not unmoved bus engine stop untampered = record {
    accesses = [];
    moved = unmoved bus;
    has = has_not tag_of engine stop untampered;
  }

  -- memory was taken for messages to come
  pub made_roomy : ((bus : B) → bus_moved bus [] bus) → (bus : B) (engine : TagEngineView T) (messages : ℕ) (stop : Option MemStop) →
      ((place : Place) → stop ≢ Some (Tampered place)) → MakesAccesses bus_moved tag_of bus engine bus (tags_with_room messages engine) stop
  made_roomy unmoved bus engine messages stop untampered = record {
    accesses = [];
    moved = unmoved bus;
    has = record {
      written = [];
      unwritten = [];
      made = sym (append-nil engine.made);
      writes = refl;
      few = omega arith;
      inside = tt;
      shown = λ evidence quiet is. absurd (cc);
      tampered = λ place is. absurd (untampered place is);
    };
  }

  -- what was made since is made from before
  pub made_since : (bus bus' : B) (engine engine' : TagEngineView T) (messages : ℕ) (stop : Option MemStop) →
      MakesAccesses bus_moved tag_of bus (tags_with_room messages engine) bus' engine' stop → MakesAccesses bus_moved tag_of bus engine bus' engine' stop
  made_since bus bus' engine engine' messages stop was = record {
    accesses = was.accesses;
    moved = was.moved;
    has = record {
      written = was.has.written;
      unwritten = was.has.unwritten;
      made = was.has.made;
      writes = was.has.writes;
      few = was.has.few;
      inside = was.has.inside;
      shown = was.has.shown;
      tampered = was.has.tampered;
    };
  }

  -- a message was tagged and written, or there was no memory to write it
  pub made_written : (message : Message) (history history' : BusHistory) (bus bus' : B) (engine engine' : TagEngineView T) (result : Result (Unit {0}) NoMemory) →
      bus_moved bus (if_done result (access_of tag_of message)) bus' → WritesMessage tag_of message history engine history' engine' result →
      MakesAccesses bus_moved tag_of bus engine bus' engine' (want_of result)
  made_written message history history' bus bus' engine engine' (Ok done) moved makes = record {
    accesses = access_of tag_of message ∷ [];
    moved = moved;
    has = makes.has;
  }
  made_written message history history' bus bus' engine engine' (Err refused) moved makes = record {
    accesses = [];
    moved = moved;
    has = makes.has;
  }

  -- one call was made after another
  pub made_on : ((first second third : B) (before after : List Access) → bus_moved first before second → bus_moved second after third → bus_moved first (before ++ after) third) →
      (first second third : B) (engine engine' engine'' : TagEngineView T) (stop : Option MemStop) →
      engine'.geometry ≡ engine.geometry → ((evidence : Evidence) → engine'.evidence ≡ Some evidence → engine''.evidence ≡ Some evidence) →
      MakesAccesses bus_moved tag_of first engine second engine' None → MakesAccesses bus_moved tag_of second engine' third engine'' stop →
      MakesAccesses bus_moved tag_of first engine third engine'' stop
  made_on moved_on first second third engine engine' engine'' stop geometry stays made more = record {
    accesses = made.accesses ++ more.accesses;
    moved = moved_on first second third made.accesses more.accesses made.moved more.moved;
    has = has_on tag_of engine engine' engine'' made.accesses more.accesses stop geometry stays made.has more.has;
  }
