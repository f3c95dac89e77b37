use Rattle.std.proofs.lemmas.Result.{err_from_is_err_and}
use Rattle.chip_words.specs.Words.{pair_asked}
use Rattle.chip_files.proofs.Pairs.{first_file, order_took, program_took, reads_pair, second_file, stops_at_first, stops_at_order, stops_at_scripts, stops_at_second}
use Rattle.chip_files.proofs.pair.take_pair.Goals as goal

pub returns-in_err-first-clause-stopped : goal.returns-in_err-first-clause-stopped
returns-in_err-first-clause-stopped g c =
    let p = err_from_is_err_and c.from_residual.result c.from_residual.ensures.1 in
    let pair = pair_asked c.args.asked.now in
    rw (p.1, p.2) (stops_at_first c.in_err-first.field-0.0 pair _ _ c.in_err-first.ensures.stopped)

pub returns-in_err-second-clause-stopped : goal.returns-in_err-second-clause-stopped
returns-in_err-second-clause-stopped g c =
    let p = err_from_is_err_and c.from_residual-in_err-second.result c.from_residual-in_err-second.ensures.1 in
    let pair = pair_asked c.args.asked.now in
    let once = c.in_ok-first.ensures in
    let first = program_took (first_file pair) once.taken.0 _ _ once.taken.2 once.asked once.held once.quiet once.bytes_taken in
    rw (p.1, p.2) (stops_at_second c.in_err-second.field-0.0 pair _ _ _ first c.in_err-second.ensures.stopped)

pub returns-in_err-order-clause-stopped : goal.returns-in_err-order-clause-stopped
returns-in_err-order-clause-stopped g c =
    let p = err_from_is_err_and c.from_residual-in_err-order.result c.from_residual-in_err-order.ensures.1 in
    let pair = pair_asked c.args.asked.now in
    let once = c.in_ok-first.ensures in
    let twice = c.in_ok-second.ensures in
    let first = program_took (first_file pair) once.taken.0 _ _ once.taken.2 once.asked once.held once.quiet once.bytes_taken in
    let second = program_took (second_file pair) twice.taken.0 _ _ twice.taken.2 twice.asked twice.held twice.quiet twice.bytes_taken in
    rw (p.1, p.2) (stops_at_order c.in_err-order.field-0.0 pair _ _ _ _ first second c.in_err-order.ensures.stopped)

pub returns-in_err-first_script-clause-stopped : goal.returns-in_err-first_script-clause-stopped
returns-in_err-first_script-clause-stopped g c =
    let p = err_from_is_err_and c.from_residual-in_err-first_script.result c.from_residual-in_err-first_script.ensures.1 in
    let pair = pair_asked c.args.asked.now in
    let once = c.in_ok-first.ensures in
    let twice = c.in_ok-second.ensures in
    let thrice = c.in_ok-order.ensures in
    let first = program_took (first_file pair) once.taken.0 _ _ once.taken.2 once.asked once.held once.quiet once.bytes_taken in
    let second = program_took (second_file pair) twice.taken.0 _ _ twice.taken.2 twice.asked twice.held twice.quiet twice.bytes_taken in
    let order = order_took pair.order c.in_ok-order.order _ _ thrice.taken thrice.asked thrice.held thrice.quiet thrice.bytes_taken in
    rw (p.1, p.2) (stops_at_scripts c.in_err-first_script.field-0.0 pair _ _ _ _ _ first second order c.in_err-first_script.ensures.stopped)

pub returns-clause-taken : goal.returns-clause-taken
returns-clause-taken g c =
    let pair = pair_asked c.args.asked.now in
    let once = c.in_ok-first.ensures in
    let twice = c.in_ok-second.ensures in
    let thrice = c.in_ok-order.ensures in
    let scripts = c.in_ok-first_script.ensures in
    let first = program_took (first_file pair) once.taken.0 _ _ once.taken.2 once.asked once.held once.quiet once.bytes_taken in
    let second = program_took (second_file pair) twice.taken.0 _ _ twice.taken.2 twice.asked twice.held twice.quiet twice.bytes_taken in
    let order = order_took pair.order c.in_ok-order.order _ _ thrice.taken thrice.asked thrice.held thrice.quiet thrice.bytes_taken in (
      once.taken.0,
      twice.taken.0,
      once.taken.1,
      twice.taken.1,
      reads_pair pair once.taken.0 twice.taken.0 _ _ _ _ _ _ _ _ first second order once.taken.2 twice.taken.2 thrice.taken scripts.first scripts.second scripts.asked,
    )
