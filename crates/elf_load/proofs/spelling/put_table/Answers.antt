use Rattle.std.proofs.Common.{sym, ◌∙◌}
use Rattle.elf_load.proofs.SpelledTables.{table_step, table_end, bytes_step}
use Rattle.elf_load.proofs.spelling.put_table.Goals as goal

pub loop-segment-preserved : goal.loop-segment-preserved
loop-segment-preserved c = record {
  table = rw c.len.ensures
      (table_step c.loop-segment.file.items c.put_segment.new.file.items c.loop-segment.offset c.args.segments.now c.loop-segment.segment-index
      c.segment-item.result c.loop-segment-test.true c.segment-item.is c.in_ok-put_segment.ensures
      ∙ c.loop-segment.invariant.table);
  bytes = rw c.len.ensures
      (bytes_step c.loop-segment.offset c.args.segments.now c.loop-segment.segment-index c.segment-item.result c.loop-segment-test.true c.segment-item.is
      ∙ c.loop-segment.invariant.bytes);
}

pub returns : goal.returns
returns c =
    sym (table_end c.loop-segment.file.items c.loop-segment.offset c.args.segments.now c.loop-segment.segment-index c.loop-segment-test.false)
    ∙ c.loop-segment.invariant.table
