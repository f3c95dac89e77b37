use Rattle.std.proofs.Common.{refl}
use Rattle.std.proofs.lemmas.Result.{err_from_is_err_and}
use Rattle.chip_files.proofs.Pairs.{no_order, order_formed}
use Rattle.chip_files.proofs.pair.take_order.Goals as goal

pub returns-in_err-check_order-clause-stopped : goal.returns-in_err-check_order-clause-stopped
returns-in_err-check_order-clause-stopped g c =
    let p = err_from_is_err_and c.from_residual-in_err-check_order.result c.from_residual-in_err-check_order.ensures.1 in
    rw (p.1, p.2, c.in-Some.is) (no_order c.in_err-check_order.field-0.0 c.in-Some.name.now c.in_ok-order.order _ _
    c.in_ok-order.ensures.bytes c.in_ok-order.ensures.within c.in_ok-order.ensures.asked (rw c.as_slice.ensures at c.in_err-check_order.ensures.wrong))

pub returns-clause-taken : goal.returns-clause-taken
returns-clause-taken g c =
    let order = rw c.as_slice.ensures at c.in_ok-check_order.ensures.order in
    rw c.in-Some.is (record {
      told = c.in_ok-order.ensures.bytes;
      within = c.in_ok-order.ensures.within;
      formed = order_formed c.in_ok-order.order (order.0 refl);
    })
