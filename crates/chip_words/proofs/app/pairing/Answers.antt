use Rattle.std.proofs.Common.{◌++◌, [], ◌∷◌}
use Rattle.chip_words.specs.App.{key_rule, script_rule, second_key_rule, second_script_rule, turns_rules}
use Rattle.chip_words.proofs.Arguments.{adds}
use Rattle.chip_words.proofs.app.pairing.Goals as goal

pub returns-clause-shape : goal.returns-clause-shape
returns-clause-shape c =
    let name = c.args.name.now in
    let with_script = adds _ _ _ script_rule name turns_rules
    (c.in_ok-arg.ensures.shape c.script.ensures.local) c.script.ensures.rule c.in_ok-turns.ensures.shape in
    let with_scripts = adds _ _ _ second_script_rule name (turns_rules ++ script_rule ∷ [])
    (c.in_ok-arg-2.ensures.shape c.second_script.ensures.local) c.second_script.ensures.rule with_script in
    let with_key = adds _ _ _ key_rule name (turns_rules ++ script_rule ∷ second_script_rule ∷ [])
    (c.in_ok-arg-3.ensures.shape c.key.ensures.local) c.key.ensures.rule with_scripts in
    adds _ _ _ second_key_rule name (turns_rules ++ script_rule ∷ second_script_rule ∷ key_rule ∷ [])
    (c.in_ok-command.ensures.shape c.second_key.ensures.local) c.second_key.ensures.rule with_key
