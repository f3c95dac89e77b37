-- The memory as a program finds it, and where its segments end.
use Rattle.std.specs.Prelude.{ℕ, ◌+◌, ◌-◌, ◌*◌, ◌/◌, List, ◌++◌, length, take, drop, replicate, fold, max}
use Rattle.sec_base.specs.declared.segment.Segment.{Segment}

-- a segment's memory: its bytes, then zeros
abbrev pub segment_memory : Segment → List ℕ
segment_memory segment = segment.bytes ++ replicate (segment.length - length segment.bytes) 0

-- the memory with a segment in its place
abbrev pub with_segment : List ℕ → Segment → List ℕ
with_segment memory segment =
    take segment.addr memory ++ segment_memory segment ++ drop (segment.addr + segment.length) memory

-- zeros, with each segment in its place, one after another
unfoldable pub opening_memory : ℕ → List Segment → List ℕ
opening_memory size segments = fold with_segment (replicate size 0) segments

-- the greatest end of a segment, 0 where there is none
abbrev pub segments_end : List Segment → ℕ
segments_end segments = fold (λ end segment. max end (segment.addr + segment.length)) 0 segments

-- that end, rounded up to a multiple of 16
unfoldable pub first_break : List Segment → ℕ
first_break segments = (segments_end segments + 15) / 16 * 16
