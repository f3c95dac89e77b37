use Rattle.std.proofs.Common.{◌+◌, arith}
use Rattle.sec_base.specs.Opening.{segment_memory}
use Rattle.rv32_run.proofs.Loading.{word_stored, byte_stored, length-segment_memory}
use Rattle.rv32_run.proofs.load.store_next.Goals as goal

pub returns-in_ok-store-clause-stored : goal.returns-in_ok-store-clause-stored
returns-in_ok-store-clause-stored g c = λ sound.
    let memory = g.M.Ram.contents c.args.ram.now in
    word_stored memory _ (c.args.segment.now.addr + c.args.at) c.word_at.result (segment_memory c.args.segment.now) c.args.at
    c.word_at.ensures (c.in_ok-store.ensures.stored c.requires.going sound)

pub returns-in_ok-store-2-clause-stored : goal.returns-in_ok-store-2-clause-stored
returns-in_ok-store-2-clause-stored g c = λ sound.
    let memory = g.M.Ram.contents c.args.ram.now in
    byte_stored memory _ (c.args.segment.now.addr + c.args.at) c.from.result (segment_memory c.args.segment.now) c.args.at
    (omega (arith, length-segment_memory c.args.segment.now c.requires.segment.bytes))
    (omega arith) (omega arith) (c.in_ok-store-2.ensures.stored c.requires.going sound)
