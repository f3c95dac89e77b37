use Rattle.std.proofs.lemmas.List.{take_rest}
use Rattle.rv32_asm_syntax.proofs.Cuts.{first_is, first_cut_off}
use Rattle.rv32_asm_syntax.proofs.lines.first_line.Goals as goal

pub returns-then-len-text-clause-cut : goal.returns-then-len-text-clause-cut
returns-then-len-text-clause-cut c =
    rw take_rest (first_cut_off c.args.text.now c.without_return.result.now c.len_before-len.result c.len_before-len.ensures.counted c.if-len-text.true c.without_return.ensures)

pub returns-then-len-text-clause-lines : goal.returns-then-len-text-clause-lines
returns-then-len-text-clause-lines c =
    rw take_rest (first_is c.args.text.now c.without_return.result.now c.len_before-len.result c.len_before-len.ensures.counted c.if-len-text.true c.without_return.ensures)
