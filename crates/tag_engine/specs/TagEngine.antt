-- What contracts see of a tag engine, and what its calls make of it.
use Rattle.std.specs.Prelude.{ℕ, ◌-◌, max, List, [], ◌∷◌, ◌++◌, length, Bool, ◌&&◌, not, if◌then◌else◌, Option, Some, None}
use Rattle.std.specs.Option.{option_or}
use Rattle.std.specs.Str.{bytes_eq}
use Rattle.sec_base.specs.declared.counter.Counter.{Counter}
use Rattle.sec_base.specs.declared.sealed.Sealed.{Sealed}
use Rattle.sec_base.specs.declared.message.Message.{Message}
use Rattle.sec_base.specs.declared.message.Message.TheVariants.{Line, Node}
use Rattle.sec_base.specs.declared.evidence.Evidence.{Evidence}
use Rattle.sec_base.specs.declared.evidence.Evidence.TheVariants.{Forgery, Collision}
use Rattle.sec_base.specs.LastMessage.{last_at, node_part}
use Rattle.sec_base.specs.Message.{has_message}
use Rattle.tag_engine.specs.Tag.{engine_tag}
use Rattle.sec_base.specs.Geometry.{GeometryView}

-- the tagger, the memory's geometry, the messages that were tagged, in order, the first evidence that a check
-- showed, and how many messages more are sure to find memory
pub record TagEngineView (T : Type 0) : Type 0 where
  pub tagger : T
  pub geometry : GeometryView
  pub made : List Message
  pub evidence : Option Evidence
  pub room : ℕ

-- the tags that it gives, by those of its tagger
abbrev pub tags_of : {T : Type 0} → (T → List ℕ → List ℕ) → (T → List ℕ → List ℕ) → TagEngineView T → Message → List ℕ
tags_of data_tag_of node_tag_of engine = engine_tag (data_tag_of engine.tagger) (node_tag_of engine.tagger) engine.geometry

-- nothing was tagged
abbrev pub new_engine : {T : Type 0} → T → GeometryView → TagEngineView T
new_engine tagger geometry = record { tagger = tagger; geometry = geometry; made = []; evidence = None; room = 0 }

-- the next n messages are sure to find memory
abbrev pub with_room : {T : Type 0} → ℕ → TagEngineView T → TagEngineView T
with_room n engine = record engine { room = max engine.room n }

-- one message more was tagged
abbrev pub after_make : {T : Type 0} → Message → TagEngineView T → TagEngineView T
after_make message engine = record engine { made = engine.made ++ message ∷ []; room = engine.room - 1 }

-- what a check of a sealed line shows: that it passed, and its message is none of those made
unfoldable pub forgery_of : List Message → ℕ → Counter → Sealed → Bool → Option Evidence
forgery_of made line counter sealed passed =
    if passed && not (has_message made (Line line counter sealed.cipher))
    then Some (Forgery line counter sealed (length made)) else None

-- a sealed line was checked, and the first evidence stays
abbrev pub after_check_data : {T : Type 0} → ℕ → Counter → Sealed → Bool → TagEngineView T → TagEngineView T
after_check_data line counter sealed passed engine =
    record engine { evidence = option_or engine.evidence (forgery_of engine.made line counter sealed passed) }

-- what a node that passed its check shows, beside the last block that was made of it and where that stands: that the two
-- blocks differ and have the same tag
abbrev pub collision_with : (Message → List ℕ) → ℕ → ℕ → List ℕ → List ℕ → Option (ℕ × List ℕ) → Option Evidence
collision_with tag_of level index block tag None = None
collision_with tag_of level index block tag (Some last) =
    if not (bytes_eq last.1 block) && bytes_eq (tag_of (Node level index last.1)) tag
    then Some (Collision level index last.0 block tag) else None

-- what a check of a node shows: that it passed, and its block is not the last one that was made of the node, which has
-- the same tag
unfoldable pub collision_of : (Message → List ℕ) → List Message → ℕ → ℕ → List ℕ → List ℕ → Bool → Option Evidence
collision_of tag_of made level index block tag passed =
    if passed then collision_with tag_of level index block tag (last_at (node_part level index) made) else None

-- a node was checked against a tag, and the first evidence stays
abbrev pub after_check_node : {T : Type 0} → (Message → List ℕ) → ℕ → ℕ → List ℕ → List ℕ → Bool → TagEngineView T → TagEngineView T
after_check_node tag_of level index block tag passed engine =
    record engine { evidence = option_or engine.evidence (collision_of tag_of engine.made level index block tag passed) }
