use Rattle.std.proofs.Common.{ℕ, ◌+◌, ◌-◌, ◌*◌, ◌≤◌, sym, subst, arith, mul-le-mul_right}
use Rattle.sec_base.specs.Geometry.{IsGeometry, IsNode}
use Rattle.sec_base.proofs.Numbers.{child_is, few_nodes}
use Rattle.sec_base.proofs.Slots.{eight_at_most}
use Rattle.sec_base.proofs.geometry.Geometry.child.Goals as goal

few : (c : goal.After-arity) → c.arity.result * c.args.index ≤ 8 * 65536
few c =
    let index_few = few_nodes c.args.self.now c.args.level c.args.index (subst IsGeometry c.self.view_is c.self.invariant) c.requires.node in
    let slots_few : c.arity.result ≤ 8 = omega (arith, c.arity.ensures.arity, eight_at_most c.args.self.now.layout) in
    let most : c.arity.result * c.args.index ≤ 8 * c.args.index = mul-le-mul_right c.args.index slots_few in
    omega (arith, most, index_few)

pub overflow_mul-result : goal.overflow_mul-result
overflow_mul-result c = omega (arith, few c)

pub overflow_add-result : goal.overflow_add-result
overflow_add-result c = omega (arith, few c, c.requires.slot, eight_at_most c.args.self.now.layout)

pub returns-clause-inside : goal.returns-clause-inside
returns-clause-inside c =
    subst (λ (slots : ℕ). IsNode c.args.self.now (c.args.level - 1) (slots * c.args.index + c.args.slot)) (sym c.arity.ensures.arity)
    (child_is c.args.self.now c.args.level c.args.index c.args.slot c.requires.node c.requires.above c.requires.slot)
