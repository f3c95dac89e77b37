use Rattle.std.proofs.Common.{◌≡◌, ◌∙◌, ap₂, codes}
use Rattle.clap.specs.Simple.{app_of, with_subcommand}
use Rattle.chip_words.specs.App.{command, judgement_rules, protected_run_rules, untraced_app}
use Rattle.chip_words.proofs.app.app.Goals as goal

pub returns : goal.returns
returns c =
    let traced : app_of c.in_ok-subcommand.field-0 ≡ with_subcommand untraced_app (command (codes "trace") protected_run_rules) =
    c.in_ok-subcommand.ensures.shape c.in_ok-protected_run.ensures.local
    ∙ ap₂ with_subcommand c.in_ok-untraced.ensures c.in_ok-protected_run.ensures.shape in
    let judged : app_of c.in_ok-subcommand-2.field-0
    ≡ with_subcommand (with_subcommand untraced_app (command (codes "trace") protected_run_rules)) (command (codes "judge") judgement_rules) =
    c.in_ok-subcommand-2.ensures.shape c.in_ok-judgement.ensures.local ∙ ap₂ with_subcommand traced c.in_ok-judgement.ensures.shape in
    c.in_ok-app.ensures.shape c.in_ok-pairing.ensures.local ∙ ap₂ with_subcommand judged c.in_ok-pairing.ensures.shape
