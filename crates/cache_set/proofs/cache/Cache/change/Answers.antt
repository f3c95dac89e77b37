use Rattle.std.proofs.Common.{◌∙◌, true, refl, sym, ap, subst}
use Rattle.cache_set.specs.Cache.{IsLatest, way_at}
use Rattle.cache_set.proofs.Calls.{cache_latest, fits_latest, read_ways, same_latest, way_latest}
use Rattle.cache_set.proofs.cache.Cache.change.Goals as goal

pub invariant_of-self : goal.invariant_of-self
invariant_of-self g c = cache_latest g.row.SETS c.self.inside.sets.items c.args.place c.self.invariant c.index_mut.result.now c.index_mut.ensures.value c.change.new.self (record { place = c.args.place; changed = true; copy = c.args.copy }) refl c.change.ensures (fits_latest g.row.SETS c.self.inside.sets.items c.args.place c.self.invariant c.index_mut.result.now c.index_mut.ensures.value (subst (λ sets. IsLatest sets c.args.place) (sym c.self.view_is) c.requires))

pub returns-clause-cache : goal.returns-clause-cache
returns-clause-cache g c = cache_latest g.row.SETS c.self.inside.sets.items c.args.place c.self.invariant c.index_mut.result.now c.index_mut.ensures.value c.change.new.self (record { place = c.args.place; changed = true; copy = c.args.copy }) refl c.change.ensures (fits_latest g.row.SETS c.self.inside.sets.items c.args.place c.self.invariant c.index_mut.result.now c.index_mut.ensures.value (subst (λ sets. IsLatest sets c.args.place) (sym c.self.view_is) c.requires))

pub returns-clause-changed : goal.returns-clause-changed
returns-clause-changed g c = way_latest g.row.SETS c.self.inside.sets.items c.args.place c.self.invariant c.index_mut.result.now c.index_mut.ensures.value c.change.new.self (record { place = c.args.place; changed = true; copy = c.args.copy }) refl c.change.ensures

pub returns-clause-same : goal.returns-clause-same
returns-clause-same g c = λ other apart. same_latest g.row.SETS c.self.inside.sets.items c.args.place c.self.invariant c.index_mut.result.now c.index_mut.ensures.value c.change.new.self (record { place = c.args.place; changed = true; copy = c.args.copy }) refl c.change.ensures other apart ∙ ap (λ sets. way_at sets other) c.self.view_is

pub change-requires-clause-apart : goal.change-requires-clause-apart
change-requires-clause-apart g c = (read_ways g.row.SETS c.self.inside.sets.items c.args.place c.self.invariant c.index_mut.result.now c.index_mut.ensures.value).set
