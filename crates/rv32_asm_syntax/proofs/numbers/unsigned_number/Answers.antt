use Rattle.std.proofs.Common.{◌≡◌, rules}
use Rattle.std.specs.Prelude.{Some, pos, option_map, option_and_then}
use Rattle.rv32_asm_syntax.specs.Numbers.{natural_of, in_range}
use Rattle.rv32_asm_syntax.proofs.Digits.{unsigned_some, unsigned_none}
use Rattle.rv32_asm_syntax.proofs.numbers.unsigned_number.Goals as goal

pub returns-in-Some : goal.returns-in-Some
returns-in-Some c =
    let read : Some (pos c.in-Some.number) ≡ option_and_then in_range (option_map pos (natural_of c.args.base c.args.digits.now)) = unsigned_some (natural_of c.args.base c.args.digits.now) c.in-Some.number (search rules) in
    search (rules, read)

pub returns-in-None : goal.returns-in-None
returns-in-None c = unsigned_none (natural_of c.args.base c.args.digits.now) (search rules)
