use Rattle.std.proofs.Common.{◌≡◌, take}
use Rattle.split_counter.specs.Digits.{number_of}
use Rattle.split_counter.proofs.packing.pack_group.Given as goal

abbrev pub invariant-loop-place : goal.invariant-loop-place
invariant-loop-place l = l.packed ≡ number_of 128 (take l.place l.counters)
