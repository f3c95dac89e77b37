use Rattle.std.proofs.Common.{ℕ, sym, subst, ◌+◌, ◌/◌}
use Rattle.sec_base.specs.Geometry.{IsNode}
use Rattle.sec_base.proofs.Numbers.{parent_is}
use Rattle.sec_base.proofs.geometry.Geometry.parent.Goals as goal

pub returns-clause-inside : goal.returns-clause-inside
returns-clause-inside c =
    subst (λ (slots : ℕ). IsNode c.args.self.now (c.args.level + 1) (c.args.index / slots)) (sym c.arity.ensures.arity)
    (parent_is c.args.self.now c.args.level c.args.index c.requires.node c.requires.below)
