use Rattle.std.proofs.Common.{inl, inr, arith, rules}
use Rattle.adversary_script.proofs.HexDigits.{fitting_all, fitting_none, inside}
use Rattle.adversary_script.proofs.bytes.fitting_bytes.Goals.{then-is_empty-via-then-is_empty, then-is_empty-via-else-is_empty+then-digits-room}
use Rattle.adversary_script.proofs.bytes.fitting_bytes.Goals as goal

pub returns-then-is_empty-clause-value : goal.returns-then-is_empty-clause-value
returns-then-is_empty-clause-value c = elim c.then-is_empty.branch [
  | then-is_empty-via-then-is_empty w ↦ fitting_none c.args.digits.now c.args.room (inl (search rules))
  | then-is_empty-via-else-is_empty+then-digits-room w ↦ fitting_none c.args.digits.now c.args.room (inr (omega arith))
]

pub returns-clause-value : goal.returns-clause-value
returns-clause-value c = fitting_all c.args.digits.now c.args.room c.bytes_of.result (search rules) (omega arith) c.bytes_of.ensures

pub returns-clause-inside : goal.returns-clause-inside
returns-clause-inside c = inside c.args.digits.now c.args.room c.bytes_of.result (search rules) (omega arith) c.bytes_of.ensures
