use Rattle.std.proofs.Common.{◌≡◌}
use Rattle.bonsai_tree.proofs.Copies.{new_caches}
use Rattle.bonsai_tree.proofs.node_cache.NodeCache.new.Given as goal

abbrev pub invariant-loop : goal.invariant-loop
invariant-loop l = l.caches.items ≡ new_caches l.counter
