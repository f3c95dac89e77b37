-- False answers: which of them fail their check, and what shows that one passed. The tags of messages are those
-- that the chip gives.
use Rattle.std.specs.Prelude.{◌≡◌, ◌≢◌, ℕ, ◌≤◌, List, ◌++◌, length, take, drop, Some, Contains}
use Rattle.std.specs.List.{slice_get}
use Rattle.sec_base.specs.declared.geometry.TheConstants.{LINE_LEN}
use Rattle.sec_base.specs.declared.counter.Counter.{Counter}
use Rattle.sec_base.specs.declared.sealed.Sealed.{Sealed}
use Rattle.sec_base.specs.declared.place.Place.{Place}
use Rattle.sec_base.specs.declared.place.Place.TheVariants.{Line as line_place, Node as node_place}
use Rattle.sec_base.specs.declared.message.Message.{Message}
use Rattle.sec_base.specs.declared.message.Message.TheVariants.{Line, Node}
use Rattle.sec_base.specs.declared.evidence.Evidence.{Evidence}
use Rattle.sec_base.specs.declared.evidence.Evidence.TheVariants.{Forgery, Collision}
use Rattle.sec_base.specs.LastMessage.{last_pair, last_node, data_pairs}

-- the bytes of a data place: those of the line, and then their tag
abbrev pub sealed_bytes : Sealed → List ℕ
sealed_bytes sealed = sealed.cipher ++ sealed.tag

-- what such a place holds
abbrev pub sealed_of : List ℕ → Sealed
sealed_of bytes = record { cipher = take LINE_LEN bytes; tag = drop LINE_LEN bytes }

-- the tag of a sealed line isn't that of its bytes under the line's last counter
pub record LineFails (tag_of : Message → List ℕ) (pairs : List (ℕ × Counter)) (line : ℕ) (sealed : Sealed) : Type 0 where
  pub counter : Counter
  pub last : last_pair line pairs ≡ Some counter
  pub fails : sealed.tag ≢ tag_of (Line line counter sealed.cipher)

-- a block hasn't the tag of the node's last block
pub record NodeFails (tag_of : Message → List ℕ) (made : List Message) (level index : ℕ) (block : List ℕ) : Type 0 where
  pub true_block : List ℕ
  pub last : last_node level index made ≡ Some true_block
  pub fails : tag_of (Node level index block) ≢ tag_of (Node level index true_block)

-- bytes that were read at a place fail their check, with the counters that lines were written under and the
-- messages that were made
abbrev pub Fails : (Message → List ℕ) → List (ℕ × Counter) → List Message → Place → List ℕ → Type 0
Fails tag_of pairs made (line_place line) bytes = LineFails tag_of pairs line (sealed_of bytes)
Fails tag_of pairs made (node_place level index) bytes = NodeFails tag_of made level index bytes

-- a sealed line with the tag of a message that is none of the first made
pub record IsForgery (tag_of : Message → List ℕ) (made : List Message) (line : ℕ) (counter : Counter) (sealed : Sealed) (made_count : ℕ) : Type 0 where
  pub few : made_count ≤ length made
  pub tagged : sealed.tag ≡ tag_of (Line line counter sealed.cipher)
  pub never_made : ¬ Contains (take made_count made) (Line line counter sealed.cipher)

-- a block that isn't the one made at a place of the list, and has its tag
pub record IsCollision (tag_of : Message → List ℕ) (made : List Message) (level index made_at : ℕ) (accepted tag : List ℕ) : Type 0 where
  pub true_block : List ℕ
  pub made_there : slice_get made made_at ≡ Some (Node level index true_block)
  pub differs : true_block ≢ accepted
  pub true_tagged : tag_of (Node level index true_block) ≡ tag
  pub tagged : tag_of (Node level index accepted) ≡ tag

-- evidence, with the messages that were made
abbrev pub IsEvidence : (Message → List ℕ) → List Message → Evidence → Type 0
IsEvidence tag_of made (Forgery line counter sealed made_count) = IsForgery tag_of made line counter sealed made_count
IsEvidence tag_of made (Collision level index made_at accepted tag) = IsCollision tag_of made level index made_at accepted tag

-- the place that evidence speaks of
abbrev pub evidence_place : Evidence → Place
evidence_place (Forgery line counter sealed made_count) = line_place line
evidence_place (Collision level index made_at accepted tag) = node_place level index

-- the bytes that were accepted there
abbrev pub evidence_bytes : Evidence → List ℕ
evidence_bytes (Forgery line counter sealed made_count) = sealed_bytes sealed
evidence_bytes (Collision level index made_at accepted tag) = accepted

-- a forgery is of its line's last counter among the first made
abbrev pub HasLastCounter : List Message → Evidence → Type 0
HasLastCounter made (Forgery line counter sealed made_count) = last_pair line (data_pairs (take made_count made)) ≡ Some counter
HasLastCounter made (Collision level index made_at accepted tag) = Unit {0}
