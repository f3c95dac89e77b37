use Rattle.std.proofs.Common.{◌∙◌, IsSome, sym, ap, subst}
use Rattle.cache_set.specs.Cache.{way_at}
use Rattle.cache_set.proofs.Calls.{cache_without, none_left, none_stays, read_ways, room_left, same_left}
use Rattle.cache_set.proofs.cache.Cache.remove.Goals as goal

pub invariant_of-self : goal.invariant_of-self
invariant_of-self g c = cache_without g.row.SETS c.self.inside.sets.items c.args.place c.self.invariant c.index_mut.result.now c.index_mut.ensures.value c.remove.new.self c.remove.ensures

pub returns-clause-cache : goal.returns-clause-cache
returns-clause-cache g c = cache_without g.row.SETS c.self.inside.sets.items c.args.place c.self.invariant c.index_mut.result.now c.index_mut.ensures.value c.remove.new.self c.remove.ensures

pub returns-clause-room : goal.returns-clause-room
returns-clause-room g c = λ other beside. room_left g.row.SETS c.self.inside.sets.items c.args.place c.self.invariant c.index_mut.result.now c.index_mut.ensures.value c.remove.new.self c.remove.ensures
    (subst (λ sets. IsSome (way_at sets c.args.place)) (sym c.self.view_is) c.requires) other (sym beside)

pub returns-clause-removed : goal.returns-clause-removed
returns-clause-removed g c = none_left g.row.SETS c.self.inside.sets.items c.args.place c.self.invariant c.index_mut.result.now c.index_mut.ensures.value c.remove.new.self c.remove.ensures

pub returns-clause-same : goal.returns-clause-same
returns-clause-same g c = λ other apart. same_left g.row.SETS c.self.inside.sets.items c.args.place c.self.invariant c.index_mut.result.now c.index_mut.ensures.value c.remove.new.self c.remove.ensures other apart ∙ ap (λ sets. way_at sets other) c.self.view_is

pub returns-clause-absent : goal.returns-clause-absent
returns-clause-absent g c = λ other none.
    none_stays g.row.SETS c.self.inside.sets.items c.args.place c.self.invariant c.index_mut.result.now c.index_mut.ensures.value c.remove.new.self c.remove.ensures other
    (ap (λ sets. way_at sets other) c.self.view_is ∙ none)

pub remove-requires : goal.remove-requires
remove-requires g c = (read_ways g.row.SETS c.self.inside.sets.items c.args.place c.self.invariant c.index_mut.result.now c.index_mut.ensures.value).set
