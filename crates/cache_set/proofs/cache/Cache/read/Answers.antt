use Rattle.std.proofs.Common.{◌∙◌, ap}
use Rattle.cache_set.specs.Cache.{way_at}
use Rattle.cache_set.proofs.Calls.{cache_touched, read_ways, same_touched}
use Rattle.cache_set.proofs.cache.Cache.read.Goals as goal

pub read-requires-clause-apart : goal.read-requires-clause-apart
read-requires-clause-apart g c = (read_ways g.row.SETS c.self.inside.sets.items c.args.place c.self.invariant c.index_mut.result.now c.index_mut.ensures.value).set

pub invariant_of-self : goal.invariant_of-self
invariant_of-self g c = cache_touched g.row.SETS c.self.inside.sets.items c.args.place c.self.invariant c.index_mut.result.now c.index_mut.ensures.value c.read.new.self c.read.ensures.after

pub returns-clause-cache : goal.returns-clause-cache
returns-clause-cache g c = cache_touched g.row.SETS c.self.inside.sets.items c.args.place c.self.invariant c.index_mut.result.now c.index_mut.ensures.value c.read.new.self c.read.ensures.after

pub returns-clause-same : goal.returns-clause-same
returns-clause-same g c = λ other. same_touched g.row.SETS c.self.inside.sets.items c.args.place c.self.invariant c.index_mut.result.now c.index_mut.ensures.value c.read.new.self c.read.ensures.after other ∙ ap (λ sets. way_at sets other) c.self.view_is
