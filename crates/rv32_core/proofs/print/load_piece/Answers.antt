use Rattle.std.proofs.Common.{◌≡◌, ◌+◌, [], ◌∷◌, ◌++◌, length, ◌∙◌, arith, subst, sym, refl, ℕ, take, drop}
use Rattle.std.proofs.lemmas.Result.{err_from_is_err_and}
use Rattle.sec_base.specs.Geometry.{line_of}
use Rattle.rv32_core.proofs.Loading.{IsLoading, loading_more, loading_all}
use Rattle.rv32_core.proofs.TouchedLines.{last_line, no_lines, one_more_line, touched_front, untouched}
use Rattle.rv32_core.proofs.print.load_piece.Goals as goal

pub loop-i-init : goal.loop-i-init
loop-i-init g c = record {
  loading = λ reliable. record { same = refl; loaded = λ k below. absurd (omega arith) };
  stopped = refl;
  moved = untouched g.M.Ram.extent g.M.Ram.sound g.M.Ram.moved _ c.args.ram.now (g.met.M.Ram.unmoved c.args.ram.now) (sym (no_lines c.args.from));
}

pub loop-i-preserved : goal.loop-i-preserved
loop-i-preserved g c =
    let before = c.loop-i.invariant in
    record {
      loading = λ reliable.
          let here = before.stopped ∙ reliable.0 in
          loading_more _ _ _ _ _ _ _ (before.loading (reliable.0, c.load.ensures.lost reliable.1)) (c.in_ok-piece.ensures.contents here reliable.1) (c.in_ok-piece.ensures.value here reliable.1) (omega arith);
      stopped = c.in_ok-piece.ensures.goes_on ∙ before.stopped;
      moved = record {
        extent = c.load.ensures.extent ∙ before.moved.extent;
        lost = λ sound. before.moved.lost (c.load.ensures.lost sound);
        lines = before.moved.lines ++ line_of (c.args.from + c.loop-i.i) ∷ [];
        moved = g.met.M.Ram.moved_on _ _ _ _ _ before.moved.moved c.load.ensures.moved;
        touched = one_more_line before.moved.lines c.args.from c.loop-i.i before.moved.touched;
      };
    }

pub returns-in_err-piece-clause-moved : goal.returns-in_err-piece-clause-moved
returns-in_err-piece-clause-moved g c =
    let p = err_from_is_err_and c.from_residual.result c.from_residual.ensures.1 in
    let before = c.loop-i.invariant.moved in
    record {
      extent = c.load.ensures.extent ∙ before.extent;
      lost = λ sound. before.lost (c.load.ensures.lost sound);
      lines = before.lines ++ line_of (c.args.from + c.loop-i.i) ∷ [];
      moved = g.met.M.Ram.moved_on _ _ _ _ _ before.moved c.load.ensures.moved;
      touched = touched_front c.from_residual.result p.0 _ _ p.1 (last_line before.lines c.args.from c.loop-i.i _ (omega arith) before.touched);
    }

pub returns-clause-loaded : goal.returns-clause-loaded
returns-clause-loaded g c = λ reliable.
    let sized = g.met.M.Ram.sized c.args.ram.now in
    let e : c.loop-i.i ≡ length c.loop-i.piece = omega arith in
    let long : length c.loop-i.piece ≡ length c.args.piece.now = c.loop-i.auto.piece in
    let contents = g.M.Ram.contents c.args.ram.now in
    subst (λ (n : ℕ). c.loop-i.piece ≡ take n (drop c.args.from contents)) long
    (loading_all contents (g.M.Ram.contents c.loop-i.ram) c.args.from c.loop-i.piece (omega arith)
    (subst (λ (n : ℕ). IsLoading contents (g.M.Ram.contents c.loop-i.ram) c.args.from n c.loop-i.piece) e (c.loop-i.invariant.loading reliable)))
