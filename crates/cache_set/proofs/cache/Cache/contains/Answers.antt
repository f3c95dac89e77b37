use Rattle.std.proofs.Common.{◌↔◌, IsTrue, subst}
use Rattle.std.specs.List.{Contains}
use Rattle.cache_set.specs.Cache.{places}
use Rattle.cache_set.proofs.Calls.{listed, read_ways}
use Rattle.cache_set.proofs.cache.Cache.contains.Goals as goal

pub contains-requires : goal.contains-requires
contains-requires g c = (read_ways g.row.SETS c.self.inside.sets.items c.args.place c.self.invariant c.index.result.now c.index.ensures).set

pub returns-clause-listed : goal.returns-clause-listed
returns-clause-listed g c =
    subst (λ sets. IsTrue c.contains.result ↔ Contains (places sets) c.args.place) c.self.view_is
    (listed g.row.SETS c.self.inside.sets.items c.args.place c.self.invariant c.index.result.now c.index.ensures c.contains.result c.contains.ensures)
