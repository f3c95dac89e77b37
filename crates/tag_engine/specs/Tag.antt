-- The tag that a tag engine gives to a message. It is defined here alone: all that speaks of an engine's tags cites this.
use Rattle.std.specs.Prelude.{ℕ, List, [], ◌∷◌, ◌++◌, take, replicate, slice_index}
use Rattle.std.specs.Int.Bits.{bit_or}
use Rattle.sec_base.specs.declared.geometry.Layout.{Layout}
use Rattle.sec_base.specs.declared.geometry.Layout.TheVariants.{One, Two}
use Rattle.sec_base.specs.declared.message.Message.{Message}
use Rattle.sec_base.specs.declared.message.Message.TheVariants.{Line, Node}
use Rattle.sec_base.specs.Geometry.{GeometryView}
use Rattle.sec_base.specs.Message.{data_bytes, node_bytes}

-- a tagger's 16 bytes as a layout keeps them, with a bit set, so that no tag is zeros: all 16 with the lowest bit of byte 15
-- set, or the first 8 with the lowest bit of byte 7 set, and then eight zeros
abbrev pub marked : Layout → List ℕ → List ℕ
marked One bytes = take 15 bytes ++ bit_or (slice_index bytes 15) 1 ∷ []
marked Two bytes = take 7 bytes ++ bit_or (slice_index bytes 7) 1 ∷ replicate 8 0

-- a message's tag, by what the tagger gives for the bytes of each kind of message, in a memory of this geometry
unfoldable pub engine_tag : (List ℕ → List ℕ) → (List ℕ → List ℕ) → GeometryView → Message → List ℕ
engine_tag data_tag_of node_tag_of geometry (Line line counter cipher) = marked geometry.layout (data_tag_of (data_bytes line counter cipher))
engine_tag data_tag_of node_tag_of geometry (Node level index block) = marked geometry.layout (node_tag_of (node_bytes level index block))
