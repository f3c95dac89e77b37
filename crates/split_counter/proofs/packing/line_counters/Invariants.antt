use Rattle.std.proofs.Common.{◌≡◌, ◌*◌, length, take, drop}
use Rattle.split_counter.specs.Digits.{digits_of, number_of}
use Rattle.split_counter.proofs.packing.line_counters.Given as goal

abbrev pub invariant-loop-group : goal.invariant-loop-group
invariant-loop-group l = record {
  long : length l.lines ≡ 64;
  so_far : take (8 * l.group) l.lines ≡ digits_of 128 (8 * l.group) (number_of 256 (drop 8 l.bytes));
}
