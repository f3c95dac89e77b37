use Rattle.std.proofs.Common.{rules}
use Rattle.std.proofs.lemmas.List.{take_rest}
use Rattle.rv32_asm_syntax.proofs.Quotes.{plain}
use Rattle.rv32_asm_syntax.proofs.strings.first_character.Goals as goal

pub returns-in-len1-up-clause-character : goal.returns-in-len1-up-clause-character
returns-in-len1-up-clause-character c =
    λ other. rw take_rest (plain c.args.text.now 0 (search rules) (search rules) (search rules))
