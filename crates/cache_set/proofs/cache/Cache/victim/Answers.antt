use Rattle.std.proofs.Common.{◌≡◌, IfSome, Some, subst}
use Rattle.cache_set.specs.Cache.{way_at}
use Rattle.cache_set.proofs.Calls.{read_ways, victim_at, victim_beside}
use Rattle.cache_set.proofs.cache.Cache.victim.Goals as goal

pub victim-requires : goal.victim-requires
victim-requires g c = (read_ways g.row.SETS c.self.inside.sets.items c.args.place c.self.invariant c.index.result.now c.index.ensures).set

pub returns-clause-way : goal.returns-clause-way
returns-clause-way g c =
    subst (λ sets. IfSome c.victim.result (λ way. way_at sets way.place ≡ Some way)) c.self.view_is
    (victim_at g.row.SETS c.self.inside.sets.items c.args.place c.self.invariant c.index.result.now c.index.ensures c.victim.result c.victim.ensures)

pub returns-clause-beside : goal.returns-clause-beside
returns-clause-beside g c = victim_beside g.row.SETS c.self.inside.sets.items c.args.place c.self.invariant c.index.result.now c.index.ensures c.victim.result c.victim.ensures
