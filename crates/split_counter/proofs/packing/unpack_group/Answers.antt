use Rattle.std.proofs.Common.{◌∙◌, refl, length-set, arith}
use Rattle.split_counter.specs.Digits.{digits_of}
use Rattle.split_counter.proofs.Groups.{seven_bits, unpacked_more}
use Rattle.split_counter.proofs.packing.unpack_group.Goals as goal

pub loop-place-init : goal.loop-place-init
unfolding digits_of
loop-place-init c = record { long = refl; so_far = refl }

pub loop-place-preserved : goal.loop-place-preserved
loop-place-preserved c = record {
  long = length-set c.loop-place.counters c.loop-place.place _ ∙ c.loop-place.invariant.long;
  so_far = unpacked_more c.loop-place.counters c.args.packed c.loop-place.place _ (omega arith)
      (seven_bits c.args.packed c.loop-place.place) c.loop-place.invariant.so_far;
}
