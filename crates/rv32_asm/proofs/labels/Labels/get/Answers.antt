use Rattle.std.proofs.Common.{◌≡◌, ◌∙◌, ℕ, ap, sym, option_map, List, None, Some, Option}
use Rattle.std.specs.Borrow.{Bor}
use Rattle.std.specs.Option.{option_copied}
use Rattle.rv32_asm.specs.Labels.{Label, site_of}
use Rattle.rv32_asm.specs.SeenLabels.{seen_site}
use Rattle.rv32_asm.proofs.Found.{looked_up}
use Rattle.rv32_asm.proofs.labels.Labels.get.Goals as goal

pub returns-in_err-address : goal.returns-in_err-address
returns-in_err-address c =
    let none : c.get.result ≡ None = cc in
    let gone : c.from_residual.result ≡ None = cc in
    gone ∙ ap (λ (o : Option (Bor (ℕ × ℕ))). option_map seen_site (option_copied o)) (sym none)
    ∙ ap (option_map seen_site) c.get.ensures.value
    ∙ looked_up c.args.name.now c.self.inside.by_name.entries
    ∙ ap (λ (labels : List Label). site_of labels c.args.name.now) c.self.view_is

pub returns : goal.returns
returns c =
    let found : c.get.result ≡ Some c.in_ok-address.field-0 = cc in
    ap (λ (o : Option (Bor (ℕ × ℕ))). option_map seen_site (option_copied o)) (sym found)
    ∙ ap (option_map seen_site) c.get.ensures.value
    ∙ looked_up c.args.name.now c.self.inside.by_name.entries
    ∙ ap (λ (labels : List Label). site_of labels c.args.name.now) c.self.view_is
