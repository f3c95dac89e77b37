use Rattle.std.proofs.Common.{◌≡◌, ◌*◌, ◌≤◌, length, take}
use Rattle.cache_set.specs.Cache.{places}
use Rattle.cache_set.proofs.cache.count_ways.Given as goal

abbrev pub invariant-loop-set : goal.invariant-loop-set
invariant-loop-set l = (l.count ≡ length (places (take l.set-index l.sets))) × (l.count ≤ 2 * l.set-index)
