use Rattle.std.proofs.Common.{◌≡◌, ◌+◌, ◌<◌, ◌^◌, take}
use Rattle.sec_base.specs.Segment.{segment_bytes}
use Rattle.test_images.proofs.elf_files.are_small.Given as goal

abbrev pub invariant-loop-segment : goal.invariant-loop-segment
invariant-loop-segment l = record {
  counted : l.left + segment_bytes (take l.segment-index l.segments) ≡ 2 ^ 31;
  some : 0 < l.left;
}
