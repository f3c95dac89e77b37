use Rattle.std.proofs.Common.{◌≤◌, List, length, sym, subst}
use Rattle.std.specs.List.{All}
use Rattle.cache_set.specs.declared.way.Way.{Way}
use Rattle.cache_set.specs.Cache.{AreApart, places}
use Rattle.cache_set.proofs.Listed.{apart}
use Rattle.cache_set.proofs.Sets.{two_ways}
use Rattle.cache_set.proofs.cache.Cache.count.Goals as goal

pub count_ways-requires-clause-two : goal.count_ways-requires-clause-two
count_ways-requires-clause-two g c =
    subst (λ (sets : List (List Way)). All (λ ways. length ways ≤ 2) sets) (sym c.deref.ensures.value)
    (two_ways g.row.SETS c.self.inside.sets.items c.self.invariant)

pub returns-clause-apart : goal.returns-clause-apart
returns-clause-apart g c =
    subst (λ (sets : List (List Way)). AreApart (places sets)) c.self.view_is (apart g.row.SETS c.self.inside.sets.items c.self.invariant)
