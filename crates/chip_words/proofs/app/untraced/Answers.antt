use Rattle.std.proofs.Common.{rules, ◌≡◌, ◌∙◌, ap, ap₂, true, codes}
use Rattle.clap.specs.Simple.{app_of, app_of_fields, new_app, on_top, with_subcommand}
use Rattle.chip_words.proofs.app.untraced.Goals as goal

pub returns : goal.returns
returns c =
    let name_is : app_of c.new.result ≡ new_app (codes "chip") = c.new.ensures.app ∙ ap new_app (search rules) in
    let needs = ap app_of_fields c.subcommand_required.ensures
    ∙ ap (on_top (λ s. record s { subcommand_required = true })) name_is in
    let top = ap app_of_fields c.arg_required_else_help.ensures
    ∙ ap (on_top (λ s. record s { arg_required_else_help = true })) needs in
    let run = c.in_ok-subcommand.ensures.shape c.in_ok-protected_run.ensures.local
    ∙ ap₂ with_subcommand top c.in_ok-protected_run.ensures.shape in
    let plain = c.in_ok-subcommand-2.ensures.shape c.in_ok-execution.ensures.local
    ∙ ap₂ with_subcommand run c.in_ok-execution.ensures.shape in
    let asm = c.in_ok-subcommand-3.ensures.shape c.in_ok-assembly.ensures.local
    ∙ ap₂ with_subcommand plain c.in_ok-assembly.ensures.shape in
    let dis = c.in_ok-subcommand-4.ensures.shape c.in_ok-inspection.ensures.local
    ∙ ap₂ with_subcommand asm c.in_ok-inspection.ensures.shape in
    let measure = c.in_ok-subcommand-5.ensures.shape c.in_ok-inspection-2.ensures.local
    ∙ ap₂ with_subcommand dis c.in_ok-inspection-2.ensures.shape in
    let verify = c.in_ok-subcommand-6.ensures.shape c.in_ok-verification.ensures.local
    ∙ ap₂ with_subcommand measure c.in_ok-verification.ensures.shape in
    c.in_ok-app.ensures.shape c.in_ok-workload.ensures.local ∙ ap₂ with_subcommand verify c.in_ok-workload.ensures.shape
