use Rattle.cache_set.proofs.Calls.{read_ways}
use Rattle.cache_set.proofs.cache.Cache.latest.Goals as goal

pub latest-requires-clause-apart : goal.latest-requires-clause-apart
latest-requires-clause-apart g c = (read_ways g.row.SETS c.self.inside.sets.items c.args.place c.self.invariant c.index.result.now c.index.ensures).set
