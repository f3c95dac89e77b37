use Rattle.std.proofs.Common.{ℕ, ◌≡◌, ◌-◌, ◌≤◌, ◌^◌, ◌∙◌, ap, subst, arith}
use Rattle.sec_base.specs.Geometry.{GeometryView, IsGeometry, arity, width}
use Rattle.sec_base.proofs.Geometries.{few_pages}
use Rattle.sec_base.proofs.Numbers.{narrower}
use Rattle.sec_base.proofs.geometry.Geometry.width.Goals as goal

few : (c : goal.After-from) → width c.args.self.now c.args.level ≤ 65536
few c = omega (arith, narrower c.args.self.now c.args.level, few_pages c.args.self.now (subst IsGeometry c.self.view_is c.self.invariant))

here : (c : goal.After-from) → c.arity.result ^ c.from.result ≡ width c.args.self.now c.args.level
here c =
    ap (λ (n : ℕ). c.arity.result ^ n) c.from.ensures
    ∙ ap (λ (slots : ℕ). slots ^ (c.self.inside.levels - c.args.level)) c.arity.ensures.arity
    ∙ ap (λ (g : GeometryView). arity c.args.self.now ^ (g.levels - c.args.level)) c.self.view_is

pub pow-requires : goal.pow-requires
pow-requires c = omega (arith, here c, few c)

pub returns-clause-most : goal.returns-clause-most
returns-clause-most c =
    let most = few c.before in
    omega (arith, c.pow.ensures ∙ here c.before, most)
