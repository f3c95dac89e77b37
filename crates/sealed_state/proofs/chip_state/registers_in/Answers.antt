use Rattle.std.proofs.Common.{rules, arith}
use Rattle.sealed_state.proofs.StateBytes.{word_more, words_read}
use Rattle.sealed_state.proofs.chip_state.registers_in.Goals as goal

pub loop-place-preserved : goal.loop-place-preserved
loop-place-preserved c = record {
  long = search rules;
  read = word_more c.args.bytes.now c.loop-place.regs c.loop-place.place _ _ (omega arith) (omega arith)
      c.u32_at.ensures c.loop-place.invariant.read;
}

pub returns : goal.returns
returns c =
    words_read c.args.bytes.now c.loop-place.regs c.loop-place.invariant.long
    (λ k inside. c.loop-place.invariant.read k (omega arith))
