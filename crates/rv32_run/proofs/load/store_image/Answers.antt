use Rattle.std.proofs.Common.{List, ◌++◌, ◌∙◌, refl, sym, subst}
use Rattle.std.proofs.lemmas.Result.{err_from_is_err_and}
use Rattle.sec_base.specs.Prefix.{IsPrefix}
use Rattle.sec_base.specs.declared.segment.Segment.{Segment}
use Rattle.rv32_run.specs.StoredLines.{image_lines}
use Rattle.rv32_core.proofs.TouchedLines.{touched_as, touched_front, untouched}
use Rattle.rv32_run.proofs.Loading.{segment_more, segments_all}
use Rattle.rv32_run.proofs.StoredLines.{last_segment, no_segments, segments_more, segments_whole}
use Rattle.rv32_run.proofs.load.store_image.Goals as goal

pub loop-segment-init : goal.loop-segment-init
loop-segment-init g c = record {
  stored = λ sound. refl;
  going = c.requires.going;
  moved = untouched g.M.Ram.extent g.M.Ram.sound g.M.Ram.moved _ c.args.ram.now (g.met.M.Ram.unmoved c.args.ram.now) (sym no_segments);
}

pub loop-segment-preserved : goal.loop-segment-preserved
loop-segment-preserved g c =
    let before = c.loop-segment.invariant in
    let step = c.in_ok-store_segment.ensures in
    record {
      stored = λ sound.
          segment_more (g.M.Ram.contents c.args.ram.now) _ _ c.as_slice-segment-items.result.now c.loop-segment.segment-index c.segment-item.result
          c.loop-segment-test.true c.segment-item.is (before.stored (step.moved.lost sound)) (step.stored sound);
      going = step.goes_on;
      moved = record {
        extent = step.moved.extent ∙ before.moved.extent;
        lost = λ sound. before.moved.lost (step.moved.lost sound);
        lines = before.moved.lines ++ step.moved.lines;
        moved = g.met.M.Ram.moved_on _ _ _ _ _ before.moved.moved step.moved.moved;
        touched = segments_more c.as_slice-segment-items.result.now c.loop-segment.segment-index c.segment-item.result before.moved.lines step.moved.lines c.loop-segment-test.true c.segment-item.is before.moved.touched step.moved.touched;
      };
    }

pub returns-in_err-store_segment-clause-moved : goal.returns-in_err-store_segment-clause-moved
returns-in_err-store_segment-clause-moved g c =
    let before = c.loop-segment.invariant in
    let step = c.in_err-store_segment.ensures in
    let p = err_from_is_err_and c.from_residual.result c.from_residual.ensures.1 in
    record {
      extent = step.moved.extent ∙ before.moved.extent;
      lost = λ sound. before.moved.lost (step.moved.lost sound);
      lines = before.moved.lines ++ step.moved.lines;
      moved = g.met.M.Ram.moved_on _ _ _ _ _ before.moved.moved step.moved.moved;
      touched = touched_front c.from_residual.result p.0 _ _ p.1
          (subst (λ (all : List Segment). IsPrefix (before.moved.lines ++ step.moved.lines) (image_lines all)) c.as_slice-segment-items.ensures
          (last_segment c.as_slice-segment-items.result.now c.loop-segment.segment-index c.segment-item.result before.moved.lines step.moved.lines c.loop-segment-test.true c.segment-item.is before.moved.touched step.moved.touched));
    }

pub returns-clause-moved : goal.returns-clause-moved
returns-clause-moved g c =
    touched_as g.M.Ram.extent g.M.Ram.sound g.M.Ram.moved _ _ c.args.ram.now c.loop-segment.ram
    (λ lines is. segments_whole c.as_slice-segment-items.result.now c.args.image.now.segments c.loop-segment.segment-index lines c.loop-segment-test.false c.as_slice-segment-items.ensures is)
    c.loop-segment.invariant.moved

pub returns-clause-stored : goal.returns-clause-stored
returns-clause-stored g c = λ sound.
    let done = c.loop-segment.invariant in
    segments_all (g.M.Ram.contents c.args.ram.now) (g.M.Ram.contents c.loop-segment.ram) c.as_slice-segment-items.result.now c.args.image.now.segments
    c.args.image.now.size c.loop-segment.segment-index c.loop-segment-test.false
    (done.stored sound) (c.requires.zeros (done.moved.lost sound)) c.as_slice-segment-items.ensures
