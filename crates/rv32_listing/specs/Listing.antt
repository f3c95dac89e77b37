-- The listing of a program: the lines of its segments.
use Rattle.rv32_listing.specs.Lines.{bytes_lines}
use Rattle.sec_base.specs.declared.segment.Segment.{Segment}
use Rattle.std.specs.Prelude.{ℕ, List, [], ◌∷◌, ◌++◌}

-- a segment: its bytes, without the zeros that its memory goes on with
abbrev pub segment_lines : Segment → List ℕ
segment_lines segment = bytes_lines segment.addr segment.bytes

-- the segments of a program, in order
unfoldable pub listing_of : List Segment → List ℕ
listing_of [] = []
listing_of (segment ∷ segments) = segment_lines segment ++ listing_of segments
