use Rattle.std.proofs.Common.{get_or, arith, rules}
use Rattle.rv32_asm_syntax.proofs.Digits.{goes_on, missed, all_read, is_word}
use Rattle.rv32_asm_syntax.proofs.numbers.word_from.Goals as goal

pub returns : goal.returns
returns c = all_read c.args.base c.loop-digit.number c.args.digits.now c.loop-digit.digit-index (omega arith) c.loop-digit.invariant.small c.loop-digit.invariant.read (search rules)

pub returns-in-None : goal.returns-in-None
returns-in-None c = missed c.args.base c.loop-digit.number c.args.digits.now c.loop-digit.digit-index 0 (omega arith) (omega arith) (search rules) c.loop-digit.invariant.read (search rules)

pub loop-digit-preserved : goal.loop-digit-preserved
loop-digit-preserved c = record {
  small = is_word c.args.base c.loop-digit.number c.in-Some.more (get_or c.args.digits.now c.loop-digit.digit-index 0) (search rules);
  read = goes_on c.args.base c.loop-digit.number c.in-Some.more c.args.digits.now c.loop-digit.digit-index 0 (omega arith) (omega arith) (search rules) c.loop-digit.invariant.read;
}
