use Rattle.std.proofs.Common.{◌<◌, ◌∙◌, false, length, refl, sym, ap, subst}
use Rattle.cache_set.specs.Cache.{set_at, way_at}
use Rattle.cache_set.proofs.Calls.{cache_latest, fits_room, latest_latest, same_latest, way_latest}
use Rattle.cache_set.proofs.cache.Cache.put.Goals as goal

pub invariant_of-self : goal.invariant_of-self
invariant_of-self g c = cache_latest g.row.SETS c.self.inside.sets.items c.args.place c.self.invariant c.index_mut.result.now c.index_mut.ensures.value c.put.new.self (record { place = c.args.place; changed = false; copy = c.args.copy }) refl c.put.ensures (fits_room g.row.SETS c.self.inside.sets.items c.args.place c.self.invariant c.index_mut.result.now c.index_mut.ensures.value (subst (λ sets. length (set_at sets c.args.place) < 2) (sym c.self.view_is) c.requires.room))

pub returns-clause-cache : goal.returns-clause-cache
returns-clause-cache g c = cache_latest g.row.SETS c.self.inside.sets.items c.args.place c.self.invariant c.index_mut.result.now c.index_mut.ensures.value c.put.new.self (record { place = c.args.place; changed = false; copy = c.args.copy }) refl c.put.ensures (fits_room g.row.SETS c.self.inside.sets.items c.args.place c.self.invariant c.index_mut.result.now c.index_mut.ensures.value (subst (λ sets. length (set_at sets c.args.place) < 2) (sym c.self.view_is) c.requires.room))

pub returns-clause-put : goal.returns-clause-put
returns-clause-put g c = way_latest g.row.SETS c.self.inside.sets.items c.args.place c.self.invariant c.index_mut.result.now c.index_mut.ensures.value c.put.new.self (record { place = c.args.place; changed = false; copy = c.args.copy }) refl c.put.ensures

pub returns-clause-same : goal.returns-clause-same
returns-clause-same g c = λ other apart. same_latest g.row.SETS c.self.inside.sets.items c.args.place c.self.invariant c.index_mut.result.now c.index_mut.ensures.value c.put.new.self (record { place = c.args.place; changed = false; copy = c.args.copy }) refl c.put.ensures other apart ∙ ap (λ sets. way_at sets other) c.self.view_is

pub returns-clause-latest : goal.returns-clause-latest
returns-clause-latest g c = latest_latest g.row.SETS c.self.inside.sets.items c.args.place c.self.invariant c.index_mut.result.now c.index_mut.ensures.value c.put.new.self (record { place = c.args.place; changed = false; copy = c.args.copy }) refl c.put.ensures
