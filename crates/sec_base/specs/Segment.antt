-- The parts of a program.
use Rattle.std.specs.Prelude.{ℕ, ◌+◌, ◌≤◌, List, [], ◌∷◌, length, sum_by}
use Rattle.sec_base.specs.declared.segment.Segment.{Segment}

-- a segment's bytes are no longer than its memory, which ends inside the size
pub record IsSegment (size : ℕ) (segment : Segment) : Type 0 where
  pub bytes : length segment.bytes ≤ segment.length
  pub inside : segment.addr + segment.length ≤ size

-- one segment, which has these bytes from address 0 on
abbrev pub from_zero : List ℕ → List Segment
from_zero bytes = record { addr = 0; length = length bytes; bytes = bytes } ∷ []

-- how many bytes the segments have together
abbrev pub segment_bytes : List Segment → ℕ
segment_bytes segments = sum_by (λ segment. length segment.bytes) segments
