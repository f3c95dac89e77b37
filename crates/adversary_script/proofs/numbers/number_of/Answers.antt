use Rattle.std.proofs.Common.{get_or, arith, rules}
use Rattle.adversary_script.proofs.Digits.{goes_on, missed, all_read, is_capped}
use Rattle.adversary_script.proofs.numbers.number_of.Goals as goal

pub returns : goal.returns
returns c = all_read c.loop-digit.number c.args.digits.now c.loop-digit.digit-index (omega arith) c.loop-digit.invariant.small c.loop-digit.invariant.read (search rules)

pub returns-in-None : goal.returns-in-None
returns-in-None c = missed c.loop-digit.number c.args.digits.now c.loop-digit.digit-index 0 (omega arith) (search rules) c.loop-digit.invariant.read

pub loop-digit-preserved : goal.loop-digit-preserved
loop-digit-preserved c = record {
  small = is_capped c.loop-digit.number c.in-Some.more (get_or c.args.digits.now c.loop-digit.digit-index 0) (search rules);
  read = goes_on c.loop-digit.number c.in-Some.more c.args.digits.now c.loop-digit.digit-index 0 (omega arith) (search rules) c.loop-digit.invariant.read;
}
