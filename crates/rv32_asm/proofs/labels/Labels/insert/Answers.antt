use Rattle.std.proofs.Common.{subst, List, ◌∷◌}
use Rattle.rv32_asm.specs.Labels.{Label, Site}
use Rattle.rv32_asm.specs.SeenLabels.{AreAlike, seen_labels}
use Rattle.rv32_asm.proofs.Found.{inserted}
use Rattle.rv32_asm.proofs.labels.Labels.insert.Goals as goal

pub returns : goal.returns
returns c =
    let P : List Label → Type 0 = λ seen. AreAlike (record { name = c.args.name.now; site = c.args.site } ∷ seen) (seen_labels c.insert.new.self.entries) in
    let Q : Site → Type 0 = λ site. AreAlike (record { name = c.args.name.now; site = site } ∷ seen_labels c.self.inside.by_name.entries) (seen_labels c.insert.new.self.entries) in
    subst P c.self.view_is
    (subst Q c.site.view_is
    (inserted c.self.inside.by_name c.insert.new.self c.args.name.now (c.site.inside.address, c.site.inside.line) c.in_ok-insert.ensures.updates))
