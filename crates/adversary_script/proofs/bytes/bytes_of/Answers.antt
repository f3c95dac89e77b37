use Rattle.std.proofs.Common.{arith, rules}
use Rattle.adversary_script.proofs.HexDigits.{goes_on, longer_by_one, one_left}
use Rattle.adversary_script.proofs.bytes.bytes_of.Goals as goal

pub loop-at-preserved : goal.loop-at-preserved
loop-at-preserved c = record {
  counted = longer_by_one c.loop-at.at c.loop-at.bytes.items c.push.new.self.items c.in_ok-byte_of.field-0 c.loop-at.invariant.counted c.push.ensures.items;
  within = omega arith;
  read = goes_on c.loop-at.bytes.items c.push.new.self.items c.args.digits.now c.loop-at.at c.in_ok-byte_of.field-0 0 (omega arith) (search rules) c.push.ensures.items c.loop-at.invariant.read;
}

pub returns-else-at-digits : goal.returns-else-at-digits
returns-else-at-digits c = one_left c.loop-at.bytes.items c.args.digits.now c.loop-at.at (omega arith) (omega arith) c.loop-at.invariant.read
