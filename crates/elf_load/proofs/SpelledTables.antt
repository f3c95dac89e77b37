-- The table of program headers, a segment at a time, and that its offsets fit their fields.
use Rattle.std.proofs.Common.{◌≡◌, ℕ, ◌+◌, ◌*◌, ◌^◌, ◌<◌, ◌≤◌, List, ◌∷◌, ◌++◌, length, drop, get_or, refl, sym, ◌∙◌, arith, length-append, append_assoc, drop-cons, add-one}
use Rattle.std.proofs.lemmas.List.{append-nil, drop_all}
use Rattle.std.proofs.lemmas.List.Concat.{length-flat_map}
use Rattle.std.proofs.lemmas.Bool.Decides.{nat_tests}
use Rattle.sec_base.specs.Geometry.{IsMemorySize}
use Rattle.sec_base.specs.Segment.{segment_bytes}
use Rattle.sec_base.specs.declared.segment.Segment.{Segment}
use Rattle.elf_load.specs.Spelling.{spelled_segment, spelled_table, joined_bytes}

rest_of : (segments : List Segment) (i : ℕ) (segment : Segment) → i < length segments → segment ≡ get_or segments i segment
    → drop i segments ≡ segment ∷ drop (i + 1) segments
rest_of segments i segment inside here = drop-cons segments i segment inside ∙ rw (add-one, sym here) refl

-- a segment more was put
pub table_step : (file more : List ℕ) (offset : ℕ) (segments : List Segment) (i : ℕ) (segment : Segment)
    → i < length segments → segment ≡ get_or segments i segment → more ≡ file ++ spelled_segment offset segment
    → more ++ spelled_table (offset + length segment.bytes) (drop (i + 1) segments) ≡ file ++ spelled_table offset (drop i segments)
unfolding spelled_table
table_step file more offset segments i segment inside here put =
    rw (rest_of segments i segment inside here, put) (append_assoc file (spelled_segment offset segment) (spelled_table (offset + length segment.bytes) (drop (i + 1) segments)))

-- none is left
pub table_end : (file : List ℕ) (offset : ℕ) (segments : List Segment) (i : ℕ)
    → length segments ≤ i → file ++ spelled_table offset (drop i segments) ≡ file
unfolding spelled_table
table_end file offset segments i done = rw (drop_all i segments done) (append-nil file)

-- the bytes of a segment more
pub bytes_step : (offset : ℕ) (segments : List Segment) (i : ℕ) (segment : Segment)
    → i < length segments → segment ≡ get_or segments i segment
    → offset + length segment.bytes + length (joined_bytes (drop (i + 1) segments)) ≡ offset + length (joined_bytes (drop i segments))
bytes_step offset segments i segment inside here =
    rw (rest_of segments i segment inside here) (omega (arith, length-append segment.bytes (joined_bytes (drop (i + 1) segments))))

pub memory_below : (size : ℕ) → IsMemorySize size → size ≤ 2 ^ 28
memory_below size memory = grind (arith, nat_tests)

-- the bytes of a program end below 2 ^ 32 in its file
pub bytes_fit : (segments : List Segment) → length segments ≤ 64 → segment_bytes segments < 2 ^ 31
    → 52 + 32 * length segments + length (joined_bytes segments) < 2 ^ 32
bytes_fit segments few small = omega (arith, few, small, length-flat_map (λ (segment : Segment). segment.bytes) segments)
