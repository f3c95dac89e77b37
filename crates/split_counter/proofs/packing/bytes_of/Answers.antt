use Rattle.std.proofs.Common.{◌≡◌, ◌∙◌, ◌+◌, ◌-◌, ◌*◌, ℕ, List, take, drop, ap, arith, rules}
use Rattle.split_counter.specs.Digits.{number_of}
use Rattle.split_counter.proofs.Groups.{bytes_first, bytes_more}
use Rattle.split_counter.proofs.packing.bytes_of.Goals as goal

pub loop-group-init : goal.loop-group-init
loop-group-init c = record {
  long = search rules;
  so_far = bytes_first c.args.lines.now c.to_le_bytes.result c.put.new.bytes c.args.page c.to_le_bytes.ensures c.put.ensures.front;
}

pub loop-group-preserved : goal.loop-group-preserved
loop-group-preserved c = record {
  long = search rules;
  so_far =
      let eight : 8 * c.loop-group.group + 8 - 8 * c.loop-group.group ≡ 8 = omega arith in
      bytes_more c.args.lines.now c.loop-group.bytes c.put-in-loop-group.new.bytes (take 7 c.to_le_bytes-in-loop-group.result) c.args.page
      c.loop-group.group c.pack_group-packed.result c.requires
      (c.pack_group-packed.ensures ∙ ap (λ (n : ℕ). number_of 128 (take n (drop (8 * c.loop-group.group) c.args.lines.now))) eight)
      (ap (λ (bytes : List ℕ). take 7 bytes) c.to_le_bytes-in-loop-group.ensures)
      c.loop-group.invariant.so_far c.put-in-loop-group.ensures.front;
}
