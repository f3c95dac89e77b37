-- What a command takes once an argument is added.
use Rattle.std.proofs.Common.{◌≡◌, ◌∙◌, ◌++◌, List, [], ◌∷◌, ap, ap₂}
use Rattle.clap.specs.Walk.{Rule, Text}
use Rattle.clap.specs.Simple.{App, Shape, with_rule}
use Rattle.chip_words.specs.App.{command}

-- one more argument
pub adds : (old new : App) (added rule : Rule) (name : Text) (rules : List Rule) → new ≡ with_rule old added → added ≡ rule
    → old.top ≡ command name rules → new.top ≡ command name (rules ++ rule ∷ [])
adds old new added rule name rules is same before =
    ap (λ (a : App). a.top) is ∙ ap₂ (λ (s : Shape) (r : Rule). record s { rules = s.rules ++ r ∷ [] }) before same
