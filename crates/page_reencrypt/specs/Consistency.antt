-- The messages that were tagged, the list of what was used, and what was written outside fit one another.
use Rattle.std.specs.Prelude.{◌≡◌, ℕ, List, length, Contains}
use Rattle.sec_base.specs.declared.counter.Counter.{Counter}
use Rattle.sec_base.specs.declared.message.Message.{Message}
use Rattle.sec_base.specs.declared.message.Message.TheVariants.{Line}
use Rattle.sec_base.specs.Geometry.{GeometryView, line_count}
use Rattle.sec_base.specs.LastMessage.{data_pairs}
use Rattle.bus_model.specs.BusHistory.{BusHistory}
use Rattle.pad_stream.specs.Pads.{of_lines}
use Rattle.bonsai_tree.specs.Tree.{NodesAreMade}
use Rattle.page_reencrypt.specs.Contents.{HoldsSealed}

-- It holds at all times, in the middle of a write too, after any stop, and where there is evidence.
pub record IsConsistent (tag_of : Message → List ℕ) (geometry : GeometryView) (history : BusHistory) (made : List Message)
    (used : List (ℕ × Counter)) : Type 0 where
  pub bus_geometry : history.geometry ≡ geometry
  -- each line's messages were tagged under the counters that it was encrypted under, in the same order
  pub paired : data_pairs made ≡ of_lines (line_count geometry) used
  pub long : (line : ℕ) (counter : Counter) (cipher : List ℕ) → Contains made (Line line counter cipher) → length cipher ≡ 64
  -- what stands outside was encrypted and tagged
  pub sealed : HoldsSealed tag_of (line_count geometry) made used history.written
  pub nodes : NodesAreMade geometry made history.written
