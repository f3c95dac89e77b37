use Rattle.std.proofs.Common.{rules, ◌≡◌, [], ◌∷◌}
use Rattle.clap.specs.Simple.{shape_of}
use Rattle.chip_words.specs.App.{command, file_rule, flat_rule, layout_rule, levels_rule}
use Rattle.chip_words.proofs.Arguments.{adds}
use Rattle.chip_words.proofs.app.inspection.Goals as goal

pub returns-clause-shape : goal.returns-clause-shape
returns-clause-shape c =
    let name = c.args.name.now in
    let bare : shape_of c.about.result ≡ command name [] = search rules in
    let with_file = adds _ _ _ file_rule name [] (c.in_ok-arg.ensures.shape c.file.ensures.local) c.file.ensures.rule bare in
    let with_flat = adds _ _ _ flat_rule name (file_rule ∷ [])
    (c.in_ok-arg-2.ensures.shape c.flat.ensures.local) c.flat.ensures.rule with_file in
    let with_layout = adds _ _ _ layout_rule name (file_rule ∷ flat_rule ∷ [])
    (c.in_ok-arg-3.ensures.shape c.layout.ensures.local) c.layout.ensures.rule with_flat in
    adds _ _ _ levels_rule name (file_rule ∷ flat_rule ∷ layout_rule ∷ [])
    (c.in_ok-command.ensures.shape c.levels.ensures.local) c.levels.ensures.rule with_layout
