use Rattle.std.proofs.Common.{◌++◌, take, length}
use Rattle.std.specs.List.{flat_map}
use Rattle.sha2.specs.Hashers.{Holds256}
use Rattle.elf_load.specs.Measurement.{segment_record}
use Rattle.elf_load.specs.Spelling.{u32_bytes}
use Rattle.elf_load.proofs.measurement.measure.Given as goal

abbrev pub invariant-loop-segment : goal.invariant-loop-segment
invariant-loop-segment l =
    Holds256 l.hasher
    (u32_bytes l.image.entry ++ u32_bytes l.image.size ++ u32_bytes (length l.image.segments) ++ flat_map segment_record (take l.segment-index l.segments))
