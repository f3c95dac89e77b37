use Rattle.std.proofs.Common.{arith, rules}
use Rattle.std.proofs.lemmas.List.{take_rest}
use Rattle.rv32_asm_syntax.proofs.FirstLabel.{is_first, no_name, no_colon, name_cut}
use Rattle.rv32_asm_syntax.proofs.lines.first_label.Goals as goal

pub returns-then-len-text-clause-labels : goal.returns-then-len-text-clause-labels
returns-then-len-text-clause-labels c =
    no_colon c.args.text.now c.len_before-len.result c.len_before-len.ensures.counted c.if-len-text.true

pub returns-then-is_name-clause-cut : goal.returns-then-is_name-clause-cut
returns-then-is_name-clause-cut c =
    rw take_rest (name_cut c.args.text.now c.skip_blanks-name.result.now c.len_before-len.result c.len_before-len.ensures.counted (omega arith) c.skip_blanks-name.ensures)

pub returns-then-is_name-clause-labels : goal.returns-then-is_name-clause-labels
returns-then-is_name-clause-labels c =
    rw take_rest (is_first c.args.text.now c.skip_blanks-name.result.now c.len_before-len.result c.len_before-len.ensures.counted (omega arith) c.skip_blanks-name.ensures (search rules))

pub returns-else-is_name-clause-labels : goal.returns-else-is_name-clause-labels
returns-else-is_name-clause-labels c =
    no_name c.args.text.now c.skip_blanks-name.result.now c.len_before-len.result c.len_before-len.ensures.counted (omega arith) c.skip_blanks-name.ensures (search rules)
