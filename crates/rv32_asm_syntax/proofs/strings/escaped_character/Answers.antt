use Rattle.std.proofs.Common.{rules}
use Rattle.std.proofs.lemmas.List.{take_rest}
use Rattle.rv32_asm_syntax.proofs.Quotes.{escaped}
use Rattle.rv32_asm_syntax.proofs.strings.escaped_character.Goals as goal

pub returns-clause-character : goal.returns-clause-character
returns-clause-character c =
    rw take_rest (escaped c.args.text.now 0 c.in_ok-meaning.meaning (search rules) (search rules))
