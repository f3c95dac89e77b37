use Rattle.std.proofs.Common.{◌≡◌, ◌∙◌, Err, rules}
use Rattle.sec_base.proofs.Writes.{part_done}
use Rattle.rv32_listing.proofs.Segments.{segment_first, none_after}
use Rattle.rv32_listing.proofs.Parts.{first_written, first_stopped}
use Rattle.rv32_listing.proofs.write_listing.Goals as goal

pub returns-in_err-write_bytes-clause-listed : goal.returns-in_err-write_bytes-clause-listed
returns-in_err-write_bytes-clause-listed g c =
    let first = segment_first _ _ _ c.segment-item.result _ c.as_slice-segment-items.ensures c.loop-segment-test.true c.segment-item.is c.as_slice.ensures in
    let same : c.from_residual.result ≡ Err c.in_err-write_bytes.field-0.0 = search rules in
    rw same (first_stopped _ _ _ _ _ _ _ _ first c.loop-segment.invariant.part c.in_err-write_bytes.ensures.listed)

pub loop-segment-preserved : goal.loop-segment-preserved
loop-segment-preserved g c =
    let first = segment_first _ _ _ c.segment-item.result _ c.as_slice-segment-items.ensures c.loop-segment-test.true c.segment-item.is c.as_slice.ensures in
    record {
      part = first_written _ _ _ _ _ _ _ first c.loop-segment.invariant.part c.in_ok-write_bytes.ensures.listed c.write_bytes.ensures.faults;
      quiet = c.in_ok-write_bytes.ensures.quiet ∙ c.loop-segment.invariant.quiet;
    }

pub returns-clause-listed : goal.returns-clause-listed
returns-clause-listed g c =
    part_done _ _ _ _ (none_after _ _ _ c.as_slice-segment-items.ensures c.loop-segment-test.false) c.loop-segment.invariant.part
