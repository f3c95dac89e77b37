use Rattle.std.proofs.lemmas.Bool.Decides.{Decides-eqb}
use Rattle.std.proofs.lemmas.Slice.Eq.{strip_suffix_is}
use Rattle.rv32_asm_syntax.proofs.Cuts.{stripped}
use Rattle.rv32_asm_syntax.proofs.lines.without_return.Goals as goal

pub returns : goal.returns
returns c =
    stripped c.args.line c.unwrap_or.result c.strip_suffix.result c.unwrap_or.ensures
    (strip_suffix_is Decides-eqb c.args.line.now _ c.strip_suffix.result c.strip_suffix.ensures.cases)
