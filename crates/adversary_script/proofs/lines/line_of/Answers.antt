use Rattle.std.proofs.Common.{◌∙◌, ◌≢◌, [], ap, rules}
use Rattle.std.proofs.lemmas.Result.{err_from_is_err_and}
use Rattle.adversary_script.specs.Grammar.{read_alone}
use Rattle.adversary_script.proofs.Joined.{nothing_said, line_said}
use Rattle.adversary_script.proofs.lines.line_of.Goals as goal

pub returns-then-is_empty-clause-value : goal.returns-then-is_empty-clause-value
returns-then-is_empty-clause-value c =
    nothing_said c.args.geometry c.args.line.now c.new-words.result c.new-words.ensures (search rules)

pub returns-in_err-script_line-clause-value : goal.returns-in_err-script_line-clause-value
returns-in_err-script_line-clause-value c =
    let some : c.new-words.result ≢ [] = search rules in
    let p = err_from_is_err_and c.from_residual.result c.from_residual.ensures.1 in
    rw (p.1, p.2)
    (ap read_alone c.in_err-script_line.ensures.value ∙ line_said c.args.geometry c.args.line.now c.new-words.result c.new-words.ensures some)

pub returns-clause-value : goal.returns-clause-value
returns-clause-value c =
    let some : c.new-words.result ≢ [] = search rules in
    ap read_alone c.in_ok-script_line.ensures.value ∙ line_said c.args.geometry c.args.line.now c.new-words.result c.new-words.ensures some
