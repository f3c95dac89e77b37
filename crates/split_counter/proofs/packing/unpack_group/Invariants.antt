use Rattle.std.proofs.Common.{◌≡◌, length, take}
use Rattle.split_counter.specs.Digits.{digits_of}
use Rattle.split_counter.proofs.packing.unpack_group.Given as goal

abbrev pub invariant-loop-place : goal.invariant-loop-place
invariant-loop-place l = record {
  long : length l.counters ≡ 8;
  so_far : take l.place l.counters ≡ digits_of 128 l.place l.packed;
}
