use Rattle.std.proofs.Common.{◌≡◌, ◌+◌, arith, ap, ◌∙◌}
use Rattle.rv32_decode.proofs.Both.{word_below, word_instruction}
use Rattle.rv32_decode.specs.Decoding.{instruction_of}
use Rattle.rv32_decode.specs.Encoding.{word_of}
use Rattle.rv32_decode.proofs.encode.Goals as goal

pub overflow_add-result : goal.overflow_add-result
unfolding word_of
overflow_add-result c =
    let same : c.pattern_of.result + c.field_bits.result ≡ word_of c.args.inst.now = cc in
    omega (arith, same, word_below c.args.inst.now c.requires)

pub returns : goal.returns
unfolding word_of
returns c =
    let same : c.pattern_of.result + c.field_bits.result ≡ word_of c.args.inst.now = cc in
    record {
      word = same;
      decoded = ap instruction_of same ∙ word_instruction c.args.inst.now c.requires;
    }
