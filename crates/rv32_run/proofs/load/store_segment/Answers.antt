use Rattle.std.proofs.Common.{◌+◌, ◌++◌, [], ◌∷◌, sym, arith, ◌∙◌}
use Rattle.std.proofs.lemmas.Result.{err_from_is_err_and}
use Rattle.sec_base.specs.Geometry.{line_of}
use Rattle.sec_base.specs.Opening.{segment_memory}
use Rattle.rv32_core.proofs.Storing.{nothing_stored}
use Rattle.rv32_core.proofs.TouchedLines.{prefix_behind, prefix_prefix, touched_front, untouched}
use Rattle.rv32_run.proofs.Loading.{laid_more, laid_all, length-segment_memory}
use Rattle.rv32_run.proofs.StoredLines.{last_store, no_front, starts_first, starts_next, store_more}
use Rattle.rv32_run.proofs.load.store_segment.Goals as goal

pub loop-at-init : goal.loop-at-init
loop-at-init g c = record {
  stored = λ sound. sym (nothing_stored (g.M.Ram.contents c.args.ram.now) c.args.segment.now.addr);
  within = omega arith;
  going = c.requires.going;
  start = starts_first c.args.segment.now;
  moved = untouched g.M.Ram.extent g.M.Ram.sound g.M.Ram.moved _ c.args.ram.now (g.met.M.Ram.unmoved c.args.ram.now) (sym (no_front c.args.segment.now));
}

pub loop-at-preserved : goal.loop-at-preserved
loop-at-preserved g c =
    let before = c.loop-at.invariant in
    let step = c.in_ok-at.ensures in
    record {
      stored = λ sound.
          let whole = length-segment_memory c.args.segment.now c.requires.segment.bytes in
          laid_more (g.M.Ram.contents c.args.ram.now) (g.M.Ram.contents c.loop-at.ram) _ c.args.segment.now.addr c.loop-at.at c.in_ok-at.field-0 (segment_memory c.args.segment.now)
          (omega (arith, step.most)) (omega (arith, g.met.M.Ram.sized c.args.ram.now))
          (before.stored (step.moved.lost sound)) (step.stored sound);
      within = step.most;
      going = step.goes_on;
      start = starts_next c.args.segment.now c.loop-at.at c.in_ok-at.field-0 step.count before.start;
      moved = record {
        extent = step.moved.extent ∙ before.moved.extent;
        lost = λ sound. before.moved.lost (step.moved.lost sound);
        lines = before.moved.lines ++ step.moved.lines;
        moved = g.met.M.Ram.moved_on _ _ _ _ _ before.moved.moved step.moved.moved;
        touched = rw step.moved.touched (store_more c.args.segment.now c.loop-at.at c.in_ok-at.field-0 before.moved.lines step.count before.start before.moved.touched);
      };
    }

pub returns-in_err-at-clause-moved : goal.returns-in_err-at-clause-moved
returns-in_err-at-clause-moved g c =
    let before = c.loop-at.invariant in
    let step = c.in_err-at.ensures in
    let p = err_from_is_err_and c.from_residual.result c.from_residual.ensures.1 in
    record {
      extent = step.moved.extent ∙ before.moved.extent;
      lost = λ sound. before.moved.lost (step.moved.lost sound);
      lines = before.moved.lines ++ step.moved.lines;
      moved = g.met.M.Ram.moved_on _ _ _ _ _ before.moved.moved step.moved.moved;
      touched = touched_front c.from_residual.result p.0 _ _ p.1
          (prefix_prefix _ (before.moved.lines ++ line_of (c.args.segment.now.addr + c.loop-at.at) ∷ []) _
          (prefix_behind before.moved.lines step.moved.lines (line_of (c.args.segment.now.addr + c.loop-at.at) ∷ []) step.moved.touched)
          (last_store c.args.segment.now c.loop-at.at before.moved.lines (omega arith) before.start before.moved.touched));
    }

pub returns-clause-stored : goal.returns-clause-stored
returns-clause-stored g c = λ sound.
    laid_all (g.M.Ram.contents c.args.ram.now) (g.M.Ram.contents c.loop-at.ram) c.args.segment.now c.loop-at.at
    c.requires.segment.bytes (omega arith) (c.loop-at.invariant.stored sound)
