use Rattle.std.proofs.Common.{◌∙◌, ◌≡◌, List, ℕ, Some, true, refl, sym, ap}
use Rattle.std.proofs.lemmas.Option.{same_Some}
use Rattle.sec_base.specs.Width.{with_number}
use Rattle.cache_set.specs.CacheSet.{copy_of}
use Rattle.cache_set.specs.Cache.{copy_at, way_at}
use Rattle.cache_set.proofs.Calls.{cache_written, read_at, read_ways, same_written, way_latest}
use Rattle.cache_set.proofs.cache.Cache.write.Goals as goal

pub write-requires-clause-apart : goal.write-requires-clause-apart
write-requires-clause-apart g c = (read_ways g.row.SETS c.self.inside.sets.items c.args.place c.self.invariant c.index_mut.result.now c.index_mut.ensures.value).set

pub invariant_of-self : goal.invariant_of-self
invariant_of-self g c =
    cache_written g.row.SETS c.self.inside.sets.items c.args.place c.self.invariant c.index_mut.result.now c.index_mut.ensures.value c.write.new.self
    c.write.result (λ copy. with_number copy c.args.at c.args.width c.args.value) c.write.ensures.held.0 c.write.ensures.after c.write.ensures.unchanged

pub returns-clause-cache : goal.returns-clause-cache
returns-clause-cache g c =
    cache_written g.row.SETS c.self.inside.sets.items c.args.place c.self.invariant c.index_mut.result.now c.index_mut.ensures.value c.write.new.self
    c.write.result (λ copy. with_number copy c.args.at c.args.width c.args.value) c.write.ensures.held.0 c.write.ensures.after c.write.ensures.unchanged

pub returns-clause-changed : goal.returns-clause-changed
returns-clause-changed g c = λ found copy is.
    let w = c.write.ensures.after found in
    let held : copy_of c.args.place c.index_mut.result.now ≡ Some copy =
    ap (copy_of c.args.place) (sym (read_at g.row.SETS c.self.inside.sets.items c.args.place c.self.invariant c.index_mut.result.now c.index_mut.ensures.value))
    ∙ (ap (λ sets. copy_at sets c.args.place) c.self.view_is ∙ is) in
    let same : w.0 ≡ copy = same_Some w.0 copy (sym w.1 ∙ held) in
    way_latest g.row.SETS c.self.inside.sets.items c.args.place c.self.invariant c.index_mut.result.now c.index_mut.ensures.value c.write.new.self (record { place = c.args.place; changed = true; copy = with_number w.0 c.args.at c.args.width c.args.value }) refl w.2
    ∙ ap (λ (bytes : List ℕ). Some (record { place = c.args.place; changed = true; copy = with_number bytes c.args.at c.args.width c.args.value })) same

pub returns-clause-same : goal.returns-clause-same
returns-clause-same g c = λ other apart.
    same_written g.row.SETS c.self.inside.sets.items c.args.place c.self.invariant c.index_mut.result.now c.index_mut.ensures.value c.write.new.self
    c.write.result (λ copy. with_number copy c.args.at c.args.width c.args.value) c.write.ensures.held.0 c.write.ensures.after c.write.ensures.unchanged other apart
    ∙ ap (λ sets. way_at sets other) c.self.view_is
