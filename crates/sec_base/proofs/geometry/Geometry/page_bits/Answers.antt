use Rattle.std.proofs.Common.{ℕ, ◌∙◌, ap, subst, ◌*◌, ◌^◌}
use Rattle.sec_base.specs.declared.geometry.Layout.TheVariants.{One, Two}
use Rattle.sec_base.specs.Geometry.{IsGeometry}
use Rattle.sec_base.proofs.Geometries.{bits_for}
use Rattle.sec_base.proofs.geometry.Geometry.page_bits.Goals as goal

pub returns-in-One-clause-pages : goal.returns-in-One-clause-pages
returns-in-One-clause-pages c =
    ap (λ (n : ℕ). 2 ^ (2 * n)) c.from.ensures ∙ bits_for c.self.inside.layout c.self.inside.levels c.self.view_is (subst IsGeometry c.self.view_is c.self.invariant) One c.in-One.is

pub returns-in-Two-clause-pages : goal.returns-in-Two-clause-pages
returns-in-Two-clause-pages c =
    ap (λ (n : ℕ). 2 ^ (3 * n)) c.from-in-Two.ensures
    ∙ bits_for c.self.inside.layout c.self.inside.levels c.self.view_is (subst IsGeometry c.self.view_is c.self.invariant) Two c.in-Two.is
