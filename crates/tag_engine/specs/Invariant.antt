-- What holds of a tag engine between its calls.
use Rattle.std.specs.Prelude.{◌≡◌, ℕ, ◌+◌, ◌<◌, ◌≤◌, List, length, Option, None, IfSome, slice_index_or}
use Rattle.std.specs.Option.{option_map}
use Rattle.sec_base.specs.declared.message.Message.{Message}
use Rattle.sec_base.specs.Evidence.{IsEvidence}
use Rattle.sec_base.specs.Geometry.{GeometryView, IsNode, line_count, node_end, node_number}
use Rattle.sec_base.specs.LastMessage.{data_part, last_at, node_part}
use Rattle.tag_engine.specs.TagEngine.{TagEngineView}
use Rattle.tag_engine.specs.declared.tag_engine.TagEngine.TheInside.{Inside}

-- where the last message stands that has a part
abbrev pub last_place : {B : Type 0} → (Message → Option B) → List Message → Option ℕ
last_place part made = option_map (λ found. found.0) (last_at part made)

-- the engine that contracts see
abbrev pub engine_view : {T : Type 0} → Inside T → TagEngineView T
engine_view inside = record {
  tagger = inside.tagger;
  geometry = inside.geometry;
  made = inside.made.items;
  evidence = inside.evidence;
  room = inside.room;
}

-- One list has the place of each line's last message, and another that of each node's, by the node's number.
pub record HasPlaces (geometry : GeometryView) (made : List Message) (lines nodes : List (Option ℕ)) : Type 0 where
  pub all_lines : length lines ≡ line_count geometry
  pub last_data : (line : ℕ) → line < line_count geometry → slice_index_or lines line None ≡ last_place (data_part line) made
  pub all_nodes : length nodes ≡ node_end geometry
  pub last_node : (level index : ℕ) → IsNode geometry level index →
      slice_index_or nodes (node_number geometry level index) None ≡ last_place (node_part level index) made

-- The places are those of the last messages, there is memory for the messages that are sure to find it, and the
-- evidence is what it says.
pub record IsTagEngine {T : Type 0} (tag_of : Message → List ℕ) (lines nodes : List (Option ℕ)) (capacity : ℕ) (engine : TagEngineView T) : Type 0 where
  pub places : HasPlaces engine.geometry engine.made lines nodes
  pub room : length engine.made + engine.room ≤ capacity
  pub evidence : IfSome engine.evidence (IsEvidence tag_of engine.made)
