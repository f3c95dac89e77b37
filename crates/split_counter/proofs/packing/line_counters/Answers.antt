use Rattle.std.proofs.Common.{ℕ, ◌<◌, refl, rules}
use Rattle.std.proofs.lemmas.List.Elements.{All-from_get_or}
use Rattle.split_counter.specs.Digits.{digits_of}
use Rattle.split_counter.proofs.Groups.{lines_more}
use Rattle.split_counter.proofs.packing.line_counters.Goals as goal

pub loop-group-init : goal.loop-group-init
unfolding digits_of
loop-group-init c = record { long = refl; so_far = refl }

pub loop-group-preserved : goal.loop-group-preserved
loop-group-preserved c = record {
  long = search rules;
  so_far = lines_more c.args.bytes.now c.loop-group.lines c.put.new.bytes c.unpack_group.result c.loop-group.group c.number_at-packed.result
      (All-from_get_or (λ (d : ℕ). d < 256) c.args.bytes.now 0 (λ i below. c.fits-bytes i)) c.number_at-packed.ensures c.unpack_group.ensures (search rules) c.loop-group.invariant.so_far c.put.ensures.front;
}
