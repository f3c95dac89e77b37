use Rattle.std.proofs.Common.{◌≡◌, ◌+◌, get_or, refl, arith, rules}
use Rattle.split_counter.specs.Digits.{number_of}
use Rattle.split_counter.proofs.Groups.{packed_fits, packed_more}
use Rattle.split_counter.proofs.packing.pack_group.Goals as goal

pub loop-place-init : goal.loop-place-init
unfolding number_of
loop-place-init c = refl

pub overflow_add-packed : goal.overflow_add-packed
overflow_add-packed c =
    let counter : c.from.result ≡ get_or c.args.counters.now c.loop-place.place 0 = search rules in
    let more = packed_more c.args.counters.now c.loop-place.place c.loop-place.packed c.from.result c.requires.fit c.requires.eight
    (omega arith) counter c.loop-place.invariant in
    record { fits = omega (arith, more, packed_fits c.args.counters.now (c.loop-place.place + 1) c.requires.fit (omega arith)) }

pub loop-place-preserved : goal.loop-place-preserved
loop-place-preserved c =
    packed_more c.args.counters.now c.loop-place.place c.loop-place.packed c.from.result c.requires.fit c.requires.eight
    (omega arith) (search rules) c.loop-place.invariant
