use Rattle.std.proofs.Common.{rules}
use Rattle.attest_report.proofs.Texts.{read_back}
use Rattle.attest_report.proofs.text.digits_text.Goals as goal

pub returns-clause-read_back : goal.returns-clause-read_back
returns-clause-read_back c =
    read_back c.args.bytes.now _ c.requires (search rules) (search rules)
