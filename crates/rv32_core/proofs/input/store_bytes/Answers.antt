use Rattle.std.proofs.Common.{◌+◌, [], ◌∷◌, ◌++◌, ◌∙◌, refl, sym, arith, inl, inr}
use Rattle.std.proofs.lemmas.Result.{err_from_is_err_and}
use Rattle.sec_base.specs.Geometry.{line_of}
use Rattle.rv32_core.proofs.Storing.{nothing_stored, one_more_stored}
use Rattle.rv32_core.proofs.TouchedLines.{last_line, no_lines, one_more_line, touched_front, untouched}
use Rattle.rv32_core.proofs.input.store_bytes.Goals as goal

pub loop-i-init : goal.loop-i-init
loop-i-init g c = record {
  stored = λ reliable. sym (nothing_stored (g.M.Ram.contents c.args.ram.now) c.args.from);
  stopped = refl;
  moved = untouched g.M.Ram.extent g.M.Ram.sound g.M.Ram.moved _ c.args.ram.now (g.met.M.Ram.unmoved c.args.ram.now) (sym (no_lines c.args.from));
}

pub loop-i-preserved : goal.loop-i-preserved
loop-i-preserved g c =
    let before = c.loop-i.invariant in
    let sized = g.met.M.Ram.sized c.args.ram.now in
    record {
      stored = λ reliable.
          one_more_stored (g.M.Ram.contents c.args.ram.now) _ _ c.args.bytes.now c.args.from c.loop-i.i c.from.result (omega arith) (omega arith)
          (before.stored (reliable.0, c.store.ensures.lost reliable.1)) c.from.ensures (omega arith) (c.in_ok-store.ensures.stored (before.stopped ∙ reliable.0) reliable.1);
      stopped = c.in_ok-store.ensures.goes_on ∙ before.stopped;
      moved = record {
        extent = c.store.ensures.extent ∙ before.moved.extent;
        lost = λ sound. before.moved.lost (c.store.ensures.lost sound);
        lines = before.moved.lines ++ line_of (c.args.from + c.loop-i.i) ∷ [];
        moved = g.met.M.Ram.moved_on _ _ _ _ _ before.moved.moved c.store.ensures.moved;
        touched = one_more_line before.moved.lines c.args.from c.loop-i.i before.moved.touched;
      };
    }

pub returns-in_err-store-clause-front : goal.returns-in_err-store-clause-front
returns-in_err-store-clause-front g c = λ reliable.
    let p = err_from_is_err_and c.from_residual.result c.from_residual.ensures.1 in
    let before = c.loop-i.invariant in
    let sized = g.met.M.Ram.sized c.args.ram.now in
    let so_far = before.stored (reliable.0, c.store.ensures.lost reliable.1) in
    rw p.1 (elim (c.in_err-store.ensures.refused (before.stopped ∙ reliable.0) reliable.1) [
      | inl same ↦ (c.loop-i.i, same ∙ so_far)
      | inr stored ↦ (c.loop-i.i + 1, one_more_stored (g.M.Ram.contents c.args.ram.now) _ _ c.args.bytes.now c.args.from c.loop-i.i c.from.result (omega arith) (omega arith) so_far c.from.ensures (omega arith) stored)
    ])

pub returns-in_err-store-clause-moved : goal.returns-in_err-store-clause-moved
returns-in_err-store-clause-moved g c =
    let p = err_from_is_err_and c.from_residual.result c.from_residual.ensures.1 in
    let before = c.loop-i.invariant.moved in
    record {
      extent = c.store.ensures.extent ∙ before.extent;
      lost = λ sound. before.lost (c.store.ensures.lost sound);
      lines = before.lines ++ line_of (c.args.from + c.loop-i.i) ∷ [];
      moved = g.met.M.Ram.moved_on _ _ _ _ _ before.moved c.store.ensures.moved;
      touched = touched_front c.from_residual.result p.0 _ _ p.1 (last_line before.lines c.args.from c.loop-i.i _ (omega arith) before.touched);
    }
