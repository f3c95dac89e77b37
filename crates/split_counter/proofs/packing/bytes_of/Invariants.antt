use Rattle.std.proofs.Common.{◌≡◌, ◌+◌, ◌*◌, ◌++◌, length, take, w64}
use Rattle.std.specs.Int.{to_le_bytes}
use Rattle.split_counter.specs.Digits.{digits_of, number_of}
use Rattle.split_counter.proofs.packing.bytes_of.Given as goal

abbrev pub invariant-loop-group : goal.invariant-loop-group
invariant-loop-group l = record {
  long : length l.bytes ≡ 64;
  so_far : take (7 * l.group + 8) l.bytes ≡ to_le_bytes w64 l.page ++ digits_of 256 (7 * l.group) (number_of 128 l.lines);
}
