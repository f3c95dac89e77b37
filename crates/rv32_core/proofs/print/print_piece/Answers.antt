use Rattle.std.proofs.Common.{[], refl, arith}
use Rattle.std.proofs.lemmas.Result.{err_from_is_err_and}
use Rattle.rv32_core.specs.State.{memory_bytes}
use Rattle.rv32_core.proofs.Printed.{bytes_length, prints_nothing}
use Rattle.rv32_core.proofs.print.print_piece.Goals as goal

pub returns-in_err-load_piece-clause-printed : goal.returns-in_err-load_piece-clause-printed
returns-in_err-load_piece-clause-printed g c =
    let p = err_from_is_err_and c.from_residual.result c.from_residual.ensures.1 in
    let sized = g.met.M.Ram.sized c.args.ram.now in
    let contents = g.M.Ram.contents c.args.ram.now in
    let count = bytes_length contents c.args.from c.args.count (omega (arith, sized)) in (
      [],
      prints_nothing (g.S.Sink.state c.args.out.now) c.args.calls.now.taken,
      λ reliable. rw p.1 ((memory_bytes contents c.args.from c.args.count, refl), omega (arith, count, c.requires.some)),
    )
