use Rattle.std.proofs.Common.{List, [], ◌∷◌, ◌++◌, ◌∙◌, ap}
use Rattle.std.proofs.lemmas.List.{replicate-append-replicate}
use Rattle.cache_set.specs.declared.way.Way.{Way}
use Rattle.cache_set.specs.Cache.{new_cache}
use Rattle.cache_set.proofs.cache.empty_sets.Goals as goal

pub loop-preserved : goal.loop-preserved
loop-preserved c =
    let none : List Way = [] in
    c.in_ok-push.ensures.items
    ∙ (ap (λ (sets : List (List Way)). sets ++ c.new.result ∷ []) c.loop.invariant
    ∙ (ap (λ (ways : List Way). new_cache c.loop.counter ++ ways ∷ []) c.new.ensures
    ∙ replicate-append-replicate c.loop.counter 1 none))
