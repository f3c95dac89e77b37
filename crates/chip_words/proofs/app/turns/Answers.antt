use Rattle.std.proofs.Common.{rules, ◌≡◌, [], ◌∷◌}
use Rattle.clap.specs.Simple.{shape_of}
use Rattle.chip_words.specs.App.{command, first_file_rule, order_rule, second_file_rule}
use Rattle.chip_words.proofs.Arguments.{adds}
use Rattle.chip_words.proofs.app.turns.Goals as goal

pub returns-clause-shape : goal.returns-clause-shape
returns-clause-shape c =
    let name = c.args.name.now in
    let bare : shape_of c.about.result ≡ command name [] = search rules in
    let with_first = adds _ _ _ first_file_rule name [] (c.in_ok-arg.ensures.shape c.first_file.ensures.local) c.first_file.ensures.rule bare in
    let with_second = adds _ _ _ second_file_rule name (first_file_rule ∷ [])
    (c.in_ok-arg-2.ensures.shape c.second_file.ensures.local) c.second_file.ensures.rule with_first in
    adds _ _ _ order_rule name (first_file_rule ∷ second_file_rule ∷ [])
    (c.in_ok-command.ensures.shape c.order.ensures.local) c.order.ensures.rule with_second
