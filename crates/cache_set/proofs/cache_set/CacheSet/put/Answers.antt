use Rattle.std.proofs.Common.{List, [], ◌∷◌, ◌++◌, false, ◌∙◌, sym, ap, subst}
use Rattle.cache_set.specs.declared.way.Way.{Way}
use Rattle.cache_set.proofs.Ways.{few_in_order, without_absent}
use Rattle.cache_set.specs.CacheSet.{HasRoom}
use Rattle.cache_set.proofs.cache_set.CacheSet.put.Goals as goal

pub returns : goal.returns
returns c =
    let way : Way = record { place = c.args.place; changed = false; copy = c.args.copy } in
    let order = few_in_order c.self.inside.swapped c.self.inside.ways.items (subst HasRoom (sym c.self.view_is) c.requires.room) in
    c.push.ensures.items ∙ ap (λ (ways : List Way). ways ++ way ∷ []) (sym order ∙ c.self.view_is ∙ sym (without_absent c.args.place c.args.self.now c.requires.absent))
