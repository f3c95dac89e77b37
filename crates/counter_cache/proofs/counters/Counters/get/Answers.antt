use Rattle.std.proofs.Common.{◌≡◌, Some, sym, subst, arith, rules}
use Rattle.std.specs.Result.{result_err}
use Rattle.cache_set.specs.Cache.{IsLatest}
use Rattle.counter_cache.specs.Counters.{CountersView}
use Rattle.counter_cache.proofs.counters.Counters.get.Goals as goal

pub returns-in_err-bring-clause-had : goal.returns-in_err-bring-clause-had
returns-in_err-bring-clause-had g c =
    let why = c.in_err-bring.field-0.0 in
    let stop : result_err c.from_residual.result ≡ Some why = search rules in
    rw stop c.in_err-bring.ensures.had

pub latest-requires : goal.latest-requires
latest-requires g c = (
  omega arith,
  subst (λ (v : CountersView). IsLatest v.blocks c.args.page) (sym c.self.view_is) c.in_ok-bring.ensures.had.blocks.latest,
)

pub returns-in_err-bring-clause-accesses : goal.returns-in_err-bring-clause-accesses
returns-in_err-bring-clause-accesses g c =
    let why = c.in_err-bring.field-0.0 in
    let stop : result_err c.from_residual.result ≡ Some why = search rules in
    rw stop c.in_err-bring.ensures.accesses
