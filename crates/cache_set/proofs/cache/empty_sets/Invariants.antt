use Rattle.std.proofs.Common.{◌≡◌}
use Rattle.cache_set.specs.Cache.{new_cache}
use Rattle.cache_set.proofs.cache.empty_sets.Given as goal

abbrev pub invariant-loop : goal.invariant-loop
invariant-loop l = l.sets.items ≡ new_cache l.counter
