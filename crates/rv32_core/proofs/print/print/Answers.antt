use Rattle.std.proofs.Common.{◌≡◌, ◌-◌, List, [], ◌++◌, ◌∙◌, refl, sym, ap, arith, subst, ℕ}
use Rattle.std.proofs.lemmas.Result.{err_from_is_err_and}
use Rattle.rv32_core.specs.Outcome.{IsCutShort}
use Rattle.rv32_core.specs.State.{memory_bytes}
use Rattle.rv32_core.proofs.Printed.{bytes_both, cut_both, prints_both, prints_nothing, none_from_ok}
use Rattle.rv32_core.proofs.TouchedLines.{no_lines, piece_front, piece_lines, touched_front, untouched}
use Rattle.rv32_core.proofs.print.print.Goals as goal

pub loop-at-init : goal.loop-at-init
loop-at-init g c =
    let none : c.args.from - c.args.from ≡ 0 = omega arith in
    record {
      printed = ([], prints_nothing (g.S.Sink.state c.args.out.now) c.args.calls.now.taken, λ reliable. rw none refl);
      contents = λ reliable. refl;
      services = refl;
      begun = omega arith;
      inside = omega arith;
      ended = omega arith;
      stopped = λ none. none;
      faults = omega arith;
      quiet = refl;
      moved = untouched g.M.Ram.extent g.M.Ram.sound g.M.Ram.moved _ c.args.ram.now (g.met.M.Ram.unmoved c.args.ram.now) (rw none (sym (no_lines c.args.from)));
    }

pub loop-at-preserved : goal.loop-at-preserved
loop-at-preserved g c =
    let before = c.loop-at.invariant in
    let piece = c.print_piece.ensures in
    let whole = c.in_ok-print_piece.ensures.printed in
    let more = c.in_ok-print_piece.ensures.moved in
    let n = c.piece_length-length.result in
    record {
      printed = (
        before.printed.0 ++ whole.0,
        prints_both before.printed.0 whole.0 (g.S.Sink.state c.args.out.now) (g.S.Sink.state c.loop-at.out) (g.S.Sink.state c.print_piece.new.out) c.args.calls.now.taken c.loop-at.calls.taken c.print_piece.new.calls.taken before.printed.1 whole.1,
        λ reliable.
            ap (λ (x : List ℕ). x ++ whole.0) (before.printed.2 (reliable.0, more.lost reliable.1))
            ∙ ap (λ (x : List ℕ). memory_bytes (g.M.Ram.contents c.args.ram.now) c.args.from (c.loop-at.at - c.args.from) ++ x) (whole.2 (before.stopped reliable.0, reliable.1) ∙ ap (λ (x : List ℕ). memory_bytes x c.loop-at.at n) (before.contents (reliable.0, more.lost reliable.1)))
            ∙ bytes_both (g.M.Ram.contents c.args.ram.now) c.args.from c.loop-at.at n before.begun,
      );
      contents = λ reliable. piece.contents (before.stopped reliable.0, reliable.1) ∙ before.contents (reliable.0, more.lost reliable.1);
      services = piece.services ∙ before.services;
      begun = omega arith;
      inside = omega arith;
      ended = before.ended;
      stopped = λ none. none_from_ok _ _ (c.in_ok-print_piece.ensures.mem (before.stopped none));
      faults = omega arith;
      quiet = c.in_ok-print_piece.ensures.quiet (λ is. cc) ∙ before.quiet;
      moved = record {
        extent = more.extent ∙ before.moved.extent;
        lost = λ sound. before.moved.lost (more.lost sound);
        lines = before.moved.lines ++ more.lines;
        moved = g.met.M.Ram.moved_on _ _ _ _ _ before.moved.moved more.moved;
        touched = piece_lines before.moved.lines more.lines c.args.from c.loop-at.at n before.begun before.moved.touched more.touched;
      };
    }

pub returns-in_err-print_piece-clause-printed : goal.returns-in_err-print_piece-clause-printed
returns-in_err-print_piece-clause-printed g c =
    let before = c.loop-at.invariant in
    let part = c.in_err-print_piece.ensures.printed in
    let p = err_from_is_err_and c.from_residual.result c.from_residual.ensures.1 in
    let lost = c.in_err-print_piece.ensures.moved.lost in (
      before.printed.0 ++ part.0,
      prints_both before.printed.0 part.0 (g.S.Sink.state c.args.out.now) (g.S.Sink.state c.loop-at.out) (g.S.Sink.state c.print_piece.new.out) c.args.calls.now.taken c.loop-at.calls.taken c.print_piece.new.calls.taken before.printed.1 part.1,
      λ reliable.
          rw p.1 (cut_both (g.M.Ram.contents c.args.ram.now) before.printed.0 part.0 c.args.from c.loop-at.at c.piece_length-length.result c.args.count before.begun (omega arith)
          (before.printed.2 (reliable.0, lost reliable.1))
          (subst (λ (m : List ℕ). IsCutShort part.0 (memory_bytes m c.loop-at.at c.piece_length-length.result)) (before.contents (reliable.0, lost reliable.1)) (part.2 (before.stopped reliable.0, reliable.1)))),
    )

pub returns-in_err-print_piece-clause-moved : goal.returns-in_err-print_piece-clause-moved
returns-in_err-print_piece-clause-moved g c =
    let before = c.loop-at.invariant in
    let more = c.in_err-print_piece.ensures.moved in
    let p = err_from_is_err_and c.from_residual.result c.from_residual.ensures.1 in
    record {
      extent = more.extent ∙ before.moved.extent;
      lost = λ sound. before.moved.lost (more.lost sound);
      lines = before.moved.lines ++ more.lines;
      moved = g.met.M.Ram.moved_on _ _ _ _ _ before.moved.moved more.moved;
      touched = touched_front c.from_residual.result p.0 _ _ p.1 (piece_front before.moved.lines more.lines c.args.from c.loop-at.at c.piece_length-length.result c.args.count before.begun (omega arith) before.moved.touched more.touched);
    }
