use Rattle.std.proofs.Common.{rules, tests}
use Rattle.std.proofs.lemmas.Iterator.{YieldsList-from_slice}
use Rattle.std.proofs.lemmas.Iterator.Search.{position_from_yields_List}
use Rattle.rv32_asm_syntax.proofs.Fronts.{or_length}
use Rattle.adversary_script.proofs.words.comment_start.Goals as goal

pub returns-clause-counted : goal.returns-clause-counted
returns-clause-counted c =
    or_length _ c.args.line.now c.position.result c.unwrap_or.result c.unwrap_or.ensures
    (position_from_yields_List _ _ _ _ c.position.ensures.ran (YieldsList-from_slice c.args.line.now cc) (λ x b q k. search (rules, tests)))
