-- The measurement of a program: the SHA-256 of its record.
use Rattle.std.specs.Prelude.{ℕ, List, ◌++◌, length}
use Rattle.std.specs.List.{flat_map}
use Rattle.sha2.specs.Sha256.{sha256}
use Rattle.sec_base.specs.declared.segment.Segment.{Segment}
use Rattle.sec_base.specs.declared.image.Image.{Image}
use Rattle.elf_load.specs.Spelling.{u32_bytes}

-- a segment's address, the lengths of its bytes and of its memory, and its bytes
abbrev pub segment_record : Segment → List ℕ
segment_record segment =
    u32_bytes segment.addr ++ u32_bytes (length segment.bytes) ++ u32_bytes segment.length ++ segment.bytes

-- its entry, the size of the memory and the number of segments, and each segment in order
abbrev pub program_record : ℕ → ℕ → List Segment → List ℕ
program_record entry size segments =
    u32_bytes entry ++ u32_bytes size ++ u32_bytes (length segments) ++ flat_map segment_record segments

-- the SHA-256 of these
unfoldable pub measurement_by : ℕ → ℕ → List Segment → List ℕ
measurement_by entry size segments = sha256 (program_record entry size segments)

-- The measurement of a program: SHA-256 over its entry, its memory's size and its segments, in order.
abbrev pub measurement_of : Image → List ℕ
measurement_of image = measurement_by image.entry image.size image.segments
