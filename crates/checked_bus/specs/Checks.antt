-- A read of a line or of a node that is checked, told by its accesses: what the bus answered, and what the tag engine found.
use Rattle.std.specs.Prelude.{◌≡◌, ◌≢◌, ℕ, List, [], ◌∷◌, length, Result, Ok, Err, IfSome, true}
use Rattle.sec_base.specs.declared.counter.Counter.{Counter}
use Rattle.sec_base.specs.declared.message.Message.{Message}
use Rattle.sec_base.specs.declared.message.Message.TheVariants.{Line, Node}
use Rattle.sec_base.specs.declared.place.Place.TheVariants.{Line as line_place, Node as node_place}
use Rattle.sec_base.specs.declared.sealed.Sealed.{Sealed}
use Rattle.sec_base.specs.declared.stop.MemStop.{MemStop}
use Rattle.sec_base.specs.declared.stop.MemStop.TheVariants.{Tampered, Spent, NoMemory}
use Rattle.sec_base.specs.Evidence.{sealed_bytes, IsEvidence}
use Rattle.bus_model.specs.Access.{Access, Read}
use Rattle.tag_engine.specs.TagEngine.{TagEngineView, after_check_data, after_check_node}

-- a line that was read has the tag of its message, and its ciphertext is given
pub record Passed {T : Type 0} (tag_of : Message → List ℕ) (line : ℕ) (counter : Counter) (accesses : List Access)
    (engine engine' : TagEngineView T) (cipher : List ℕ) : Type 0 where
  pub sealed : Sealed
  pub tagged : sealed.tag ≡ tag_of (Line line counter sealed.cipher)
  pub answered : accesses ≡ Read (line_place line) (sealed_bytes sealed) ∷ []
  pub checked : engine' ≡ after_check_data line counter sealed true engine
  pub genuine : IfSome engine'.evidence (IsEvidence tag_of engine.made)
  pub long : length sealed.cipher ≡ 64
  pub given : cipher ≡ sealed.cipher

-- it has another
pub record Failed {T : Type 0} (tag_of : Message → List ℕ) (line : ℕ) (counter : Counter) (accesses : List Access)
    (engine engine' : TagEngineView T) : Type 0 where
  pub sealed : Sealed
  pub untagged : sealed.tag ≢ tag_of (Line line counter sealed.cipher)
  pub answered : accesses ≡ Read (line_place line) (sealed_bytes sealed) ∷ []
  pub unchanged : engine' ≡ engine
  pub long : length sealed.cipher ≡ 64
  pub tag_long : length sealed.tag ≡ 16

-- a line was read once from its place and checked, or there was no memory to read it
abbrev pub IsCheckedRead : {T : Type 0} → (Message → List ℕ) → ℕ → Counter → List Access → TagEngineView T → TagEngineView T →
    Result (List ℕ) MemStop → Type 0
IsCheckedRead tag_of line counter accesses engine engine' (Ok cipher) = Passed tag_of line counter accesses engine engine' cipher
IsCheckedRead tag_of line counter accesses engine engine' (Err (Tampered place)) =
    (place ≡ line_place line) × Failed tag_of line counter accesses engine engine'
IsCheckedRead tag_of line counter accesses engine engine' (Err (Spent page)) = ⊥
IsCheckedRead tag_of line counter accesses engine engine' (Err NoMemory) = (accesses ≡ []) × (engine' ≡ engine)

-- a node that was read has this tag, and its block is given
pub record PassedNode {T : Type 0} (tag_of : Message → List ℕ) (level index : ℕ) (tag : List ℕ) (accesses : List Access)
    (engine engine' : TagEngineView T) (answer : List ℕ) : Type 0 where
  pub block : List ℕ
  pub tagged : tag ≡ tag_of (Node level index block)
  pub answered : accesses ≡ Read (node_place level index) block ∷ []
  pub checked : engine' ≡ after_check_node tag_of level index block tag true engine
  pub genuine : IfSome engine'.evidence (IsEvidence tag_of engine.made)
  pub long : length block ≡ 64
  pub given : answer ≡ block

-- it has another
pub record FailedNode {T : Type 0} (tag_of : Message → List ℕ) (level index : ℕ) (tag : List ℕ) (accesses : List Access)
    (engine engine' : TagEngineView T) : Type 0 where
  pub block : List ℕ
  pub untagged : tag ≢ tag_of (Node level index block)
  pub answered : accesses ≡ Read (node_place level index) block ∷ []
  pub unchanged : engine' ≡ engine
  pub long : length block ≡ 64

-- a node was read once from its place and checked against a tag, or there was no memory to read it
abbrev pub IsCheckedNode : {T : Type 0} → (Message → List ℕ) → ℕ → ℕ → List ℕ → List Access → TagEngineView T → TagEngineView T →
    Result (List ℕ) MemStop → Type 0
IsCheckedNode tag_of level index tag accesses engine engine' (Ok answer) =
    PassedNode tag_of level index tag accesses engine engine' answer
IsCheckedNode tag_of level index tag accesses engine engine' (Err (Tampered place)) =
    (place ≡ node_place level index) × FailedNode tag_of level index tag accesses engine engine'
IsCheckedNode tag_of level index tag accesses engine engine' (Err (Spent page)) = ⊥
IsCheckedNode tag_of level index tag accesses engine engine' (Err NoMemory) = (accesses ≡ []) × (engine' ≡ engine)
