use Rattle.std.proofs.Common.{arith}
use Rattle.sec_base.specs.Opening.{segment_memory}
use Rattle.rv32_run.proofs.Loading.{made_of, part_word, length-segment_memory}
use Rattle.rv32_run.proofs.load.word_at.Goals as goal

pub returns : goal.returns
returns c =
    let whole = part_word (segment_memory c.args.segment.now) c.args.at (omega (arith, length-segment_memory c.args.segment.now c.requires.bytes)) in
    let bytes = made_of c.byte_at.result c.byte_at-2.result c.byte_at-3.result c.byte_at-4.result c.from_le_bytes.result c.byte_at.type_inv c.byte_at-2.type_inv c.byte_at-3.type_inv c.byte_at-4.type_inv c.from_le_bytes.ensures in
    cc (whole, bytes)
