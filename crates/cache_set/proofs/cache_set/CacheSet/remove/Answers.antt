use Rattle.std.proofs.Common.{rules, ap, ◌∙◌, subst, sym}
use Rattle.arrayvec.proofs.ArrayVecLemmas.{filter-from_retain}
use Rattle.cache_set.specs.CacheSet.{IsSet, in_order, without}
use Rattle.cache_set.proofs.Ways.{without_in_order}
use Rattle.cache_set.proofs.cache_set.CacheSet.remove.Goals as goal

pub returns : goal.returns
returns c =
    let kept = filter-from_retain _ _ _ (λ x b f' y called. search rules) _ _ c.retain.ensures.filtered in
    ap (in_order c.self.inside.swapped) kept
    ∙ without_in_order c.self.inside.swapped c.args.place c.self.inside.ways.items (subst IsSet (sym c.self.view_is) c.requires)
    ∙ ap (without c.args.place) c.self.view_is
