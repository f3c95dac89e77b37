use Rattle.std.proofs.Common.{◌∙◌, ap}
use Rattle.cache_set.specs.Cache.{way_at}
use Rattle.cache_set.proofs.Calls.{absent, cache_touched, not_touched, read_ways, same_touched, touched_latest}
use Rattle.cache_set.proofs.cache.Cache.touch.Goals as goal

pub touch-requires : goal.touch-requires
touch-requires g c = (read_ways g.row.SETS c.self.inside.sets.items c.args.place c.self.invariant c.index_mut.result.now c.index_mut.ensures.value).set

pub invariant_of-self : goal.invariant_of-self
invariant_of-self g c = cache_touched g.row.SETS c.self.inside.sets.items c.args.place c.self.invariant c.index_mut.result.now c.index_mut.ensures.value c.touch.new.self c.touch.ensures.after

pub returns-clause-cache : goal.returns-clause-cache
returns-clause-cache g c = cache_touched g.row.SETS c.self.inside.sets.items c.args.place c.self.invariant c.index_mut.result.now c.index_mut.ensures.value c.touch.new.self c.touch.ensures.after

pub returns-clause-latest : goal.returns-clause-latest
returns-clause-latest g c = λ found. touched_latest g.row.SETS c.self.inside.sets.items c.args.place c.self.invariant c.index_mut.result.now c.index_mut.ensures.value c.touch.new.self c.touch.ensures.after (c.touch.ensures.held.0 found)

pub returns-clause-same : goal.returns-clause-same
returns-clause-same g c = λ other. same_touched g.row.SETS c.self.inside.sets.items c.args.place c.self.invariant c.index_mut.result.now c.index_mut.ensures.value c.touch.new.self c.touch.ensures.after other ∙ ap (λ sets. way_at sets other) c.self.view_is

pub returns-clause-absent : goal.returns-clause-absent
returns-clause-absent g c = λ out.
    same_touched g.row.SETS c.self.inside.sets.items c.args.place c.self.invariant c.index_mut.result.now c.index_mut.ensures.value c.touch.new.self c.touch.ensures.after c.args.place
    ∙ absent g.row.SETS c.self.inside.sets.items c.args.place c.self.invariant c.index_mut.result.now c.index_mut.ensures.value c.touch.result c.touch.ensures.held out

pub returns-clause-unchanged : goal.returns-clause-unchanged
returns-clause-unchanged g c = λ out.
    not_touched g.row.SETS c.self.inside.sets.items c.args.place c.self.invariant c.index_mut.result.now c.index_mut.ensures.value c.touch.new.self c.touch.ensures.after
    (absent g.row.SETS c.self.inside.sets.items c.args.place c.self.invariant c.index_mut.result.now c.index_mut.ensures.value c.touch.result c.touch.ensures.held out)
    ∙ c.self.view_is
