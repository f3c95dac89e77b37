use Rattle.std.proofs.Common.{◌++◌, [], ◌∷◌}
use Rattle.chip_words.specs.App.{execution_rules, key_rule, nonce_rule, page_limit_rule, script_rule, tags_rule}
use Rattle.chip_words.proofs.Arguments.{adds}
use Rattle.chip_words.proofs.app.protected_run.Goals as goal

pub returns-clause-shape : goal.returns-clause-shape
returns-clause-shape c =
    let name = c.args.name.now in
    let with_script = adds _ _ _ script_rule name execution_rules
    (c.in_ok-arg.ensures.shape c.script.ensures.local) c.script.ensures.rule c.in_ok-execution.ensures.shape in
    let with_key = adds _ _ _ key_rule name (execution_rules ++ script_rule ∷ [])
    (c.in_ok-arg-2.ensures.shape c.key.ensures.local) c.key.ensures.rule with_script in
    let with_nonce = adds _ _ _ nonce_rule name (execution_rules ++ script_rule ∷ key_rule ∷ [])
    (c.in_ok-arg-3.ensures.shape c.nonce.ensures.local) c.nonce.ensures.rule with_key in
    let with_tags = adds _ _ _ tags_rule name (execution_rules ++ script_rule ∷ key_rule ∷ nonce_rule ∷ [])
    (c.in_ok-arg-4.ensures.shape c.tags.ensures.local) c.tags.ensures.rule with_nonce in
    adds _ _ _ page_limit_rule name (execution_rules ++ script_rule ∷ key_rule ∷ nonce_rule ∷ tags_rule ∷ [])
    (c.in_ok-command.ensures.shape c.page_limit.ensures.local) c.page_limit.ensures.rule with_tags
