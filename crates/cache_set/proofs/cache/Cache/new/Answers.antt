use Rattle.std.proofs.Common.{List, sym, subst}
use Rattle.cache_set.specs.declared.way.Way.{Way}
use Rattle.cache_set.specs.Cache.{IsCache}
use Rattle.cache_set.proofs.Sets.{cache_new}
use Rattle.cache_set.proofs.cache.Cache.new.Goals as goal

pub invariant_of-result : goal.invariant_of-result
invariant_of-result g c =
    subst (λ (sets : List (List Way)). IsCache g.row.SETS sets) (sym c.in_ok-empty_sets.ensures) (cache_new g.row.SETS c.requires.some c.requires.few)

pub returns-clause-cache : goal.returns-clause-cache
returns-clause-cache g c =
    subst (λ (sets : List (List Way)). IsCache g.row.SETS sets) (sym c.in_ok-empty_sets.ensures) (cache_new g.row.SETS c.requires.some c.requires.few)
