use Rattle.std.proofs.Common.{◌≡◌, ◌≤◌, ◌^◌, drop}
use Rattle.adversary_script.proofs.Digits.{capped_after}
use Rattle.adversary_script.proofs.numbers.number_of.Given as goal

abbrev pub invariant-loop-digit : goal.invariant-loop-digit
invariant-loop-digit l = record {
  small : l.number ≤ 2 ^ 64;
  read : capped_after l.number (drop l.digit-index l.digits) ≡ capped_after 0 l.digits;
}
