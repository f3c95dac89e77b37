use Rattle.bus_adversary.proofs.place_bytes.flip_at.Given as goal
use Rattle.bus_adversary.specs.PlaceBytes.{with_mask}
use Rattle.std.proofs.Common.{drop, length, ◌+◌, ◌≡◌}

abbrev pub invariant-loop-i : goal.invariant-loop-i
invariant-loop-i l =
    (length l.bytes ≡ length l.fn.bytes) × (with_mask (l.offset + l.i) (drop l.i l.mask) l.bytes ≡ with_mask l.offset l.mask l.fn.bytes)
