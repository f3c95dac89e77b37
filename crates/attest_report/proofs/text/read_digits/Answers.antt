use Rattle.std.proofs.Common.{rules, ap, ◌∙◌}
use Rattle.std.specs.Prelude.{is_ok}
use Rattle.attest_report.proofs.Texts.{read_refused}
use Rattle.attest_report.proofs.text.read_digits.Goals as goal

pub returns-clause-refused : goal.returns-clause-refused
returns-clause-refused g c =
    read_refused c.args.digits.now _ c.map_err.result c.requires.report c.requires.long
    (c.map_err.ensures.variant ∙ ap is_ok c.from_hex.ensures) (search rules)
