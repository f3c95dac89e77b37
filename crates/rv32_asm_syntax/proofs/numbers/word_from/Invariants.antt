use Rattle.std.proofs.Common.{◌≡◌, ◌<◌, ◌^◌, drop}
use Rattle.rv32_asm_syntax.proofs.Digits.{word_after}
use Rattle.rv32_asm_syntax.proofs.numbers.word_from.Given as goal

abbrev pub invariant-loop-digit : goal.invariant-loop-digit
invariant-loop-digit l = record {
  small : l.number < 2 ^ 32;
  read : word_after l.base l.number (drop l.digit-index l.digits) ≡ word_after l.base 0 l.digits;
}
