use Rattle.bus_adversary.proofs.adversary.Adversary.act_due.Given as goal
use Rattle.bus_adversary.specs.ChangedPlaces.{ChangesOnly, script_may_change}
use Rattle.bus_adversary.specs.Adversary.{after_due}
use Rattle.std.proofs.Common.{take, ◌≡◌}

abbrev pub invariant-loop-line : goal.invariant-loop-line
invariant-loop-line l = record {
  done : l.self ≡ after_due l.next (take l.line-index l.line-items) l.fn.self;
  geometry : l.self.places.geometry ≡ l.fn.self.places.geometry;
  changes : ChangesOnly l.fn.self.places l.self.places (script_may_change l.line-items);
}
