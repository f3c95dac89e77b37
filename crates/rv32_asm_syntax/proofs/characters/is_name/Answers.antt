use Rattle.std.proofs.Common.{rules, tests}
use Rattle.std.proofs.lemmas.Iterator.{YieldsList-from_slice}
use Rattle.std.proofs.lemmas.Iterator.Search.{all_from_yields_List}
use Rattle.rv32_asm_syntax.proofs.Fronts.{begun}
use Rattle.rv32_asm_syntax.specs.Characters.{is_in_names}
use Rattle.rv32_asm_syntax.proofs.characters.is_name.Goals as goal

pub returns-then-begins_as_name : goal.returns-then-begins_as_name
returns-then-begins_as_name c =
    begun _ _ _ (search rules)
    (all_from_yields_List is_in_names _ _ _ c.all.ensures.ran (YieldsList-from_slice c.args.text.now cc) (λ x b q k. search (rules, tests)))
