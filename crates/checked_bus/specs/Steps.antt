-- What a call makes of a bus and a tag engine, seen by the bus's history and by what the engine made and shows.
-- `Moves` and `SameLines` hold of no call, and of two calls one after the other where they hold of each.
use Rattle.std.specs.Prelude.{◌≡◌, ℕ, List, [], ◌++◌, Option, Some, None, Contains, IfSome}
use Rattle.sec_base.specs.declared.counter.Counter.{Counter}
use Rattle.sec_base.specs.declared.evidence.Evidence.{Evidence}
use Rattle.sec_base.specs.declared.message.Message.{Message}
use Rattle.sec_base.specs.declared.message.Message.TheVariants.{Line, Node}
use Rattle.sec_base.specs.declared.place.Place.{Place}
use Rattle.sec_base.specs.declared.place.Place.TheVariants.{Line as line_place, Node as node_place}
use Rattle.sec_base.specs.declared.stop.MemStop.{MemStop}
use Rattle.sec_base.specs.declared.stop.MemStop.TheVariants.{Tampered, Spent, NoMemory}
use Rattle.sec_base.specs.Count.{RoseBy}
use Rattle.sec_base.specs.Evidence.{IsEvidence}
use Rattle.sec_base.specs.LastMessage.{data_pairs, last_data, last_node, last_pair}
use Rattle.bus_model.specs.BusHistory.{BusHistory}
use Rattle.bus_model.specs.FirstLie.{AccountsForLies}
use Rattle.tag_engine.specs.TagEngine.{TagEngineView}
use Rattle.checked_bus.specs.SealedLine.{sealed_line}

-- What each call leaves as it was, adds to, or raises.
pub record Moves {T : Type 0} (old : BusHistory) (engine : TagEngineView T) (new : BusHistory) (engine' : TagEngineView T) : Type 0 where
  pub bus_geometry : new.geometry ≡ old.geometry
  pub geometry : engine'.geometry ≡ engine.geometry
  pub tagger : engine'.tagger ≡ engine.tagger
  pub more : List Message
  pub made : engine'.made ≡ engine.made ++ more
  pub evidence : (evidence : Evidence) → engine.evidence ≡ Some evidence → engine'.evidence ≡ Some evidence
  pub reads : (place : Place) → RoseBy 0 (old.reads place) (new.reads place)
  pub accesses : RoseBy 0 old.accesses new.accesses
  pub lies : RoseBy 0 old.lies new.lies

-- No call touched any line: the places of lines hold what they held and were not read, and only messages of nodes were made.
pub record SameLines (old : BusHistory) (made : List Message) (new : BusHistory) (made' : List Message) : Type 0 where
  pub written : (line : ℕ) → new.written (line_place line) ≡ old.written (line_place line)
  pub reads : (line : ℕ) → new.reads (line_place line) ≡ old.reads (line_place line)
  pub more : List Message
  pub made_more : made' ≡ made ++ more
  pub no_lines : data_pairs more ≡ []

-- The false answers are accounted for where a call stopped so, or did not stop, and evidence is what it says.
pub record IsAccounted (tag_of : Message → List ℕ) (used : List (ℕ × Counter)) (made : List Message) (history : BusHistory)
    (stop : Option MemStop) (evidence : Option Evidence) : Type 0 where
  pub account : AccountsForLies tag_of used made history (λ place. stop ≡ Some (Tampered place)) evidence
  pub genuine : IfSome evidence (IsEvidence tag_of made)

-- The counter is the line's last, and the place of the line holds what was tagged under it.
pub record IsCurrent (tag_of : Message → List ℕ) (used : List (ℕ × Counter)) (made : List Message) (written : Place → List ℕ)
    (line : ℕ) (counter : Counter) : Type 0 where
  pub last : last_pair line used ≡ Some counter
  pub cipher : List ℕ
  pub made_last : last_data line made ≡ Some (counter, cipher)
  pub only : (other : List ℕ) → Contains made (Line line counter other) → other ≡ cipher
  pub stored : written (line_place line) ≡ sealed_line tag_of line counter cipher

-- The tag is that of the node's last block, which stands at the node's place.
pub record IsCurrentNode (tag_of : Message → List ℕ) (made : List Message) (written : Place → List ℕ) (level index : ℕ) (tag : List ℕ) : Type 0 where
  pub block : List ℕ
  pub last : last_node level index made ≡ Some block
  pub tagged : tag ≡ tag_of (Node level index block)
  pub stored : written (node_place level index) ≡ block

-- how many messages may be made that were not written: the last one, where there was no memory to write it
abbrev pub unwritten_in : Option MemStop → ℕ
unwritten_in None = 0
unwritten_in (Some (Spent page)) = 0
unwritten_in (Some (Tampered place)) = 0
unwritten_in (Some NoMemory) = 1
