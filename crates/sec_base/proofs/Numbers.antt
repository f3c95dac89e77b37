-- Nodes: their parents and children, and where they stand in a list of all of them.
use Rattle.std.proofs.Common.{ℕ, ap, sym, subst, ◌∙◌, ◌≡◌, ◌+◌, ◌-◌, ◌*◌, ◌^◌, ◌<◌, ◌≤◌, arith}
use Rattle.std.proofs.Math.Nat.{pow-le-pow_right}
use Rattle.sec_base.proofs.Geometries.{few_pages}
use Rattle.sec_base.proofs.Slots.{child_less, div_less, power_step, same_power, two_at_least}
use Rattle.sec_base.specs.Geometry.{GeometryView, IsGeometry, IsNode, arity, child, node_number, node_end, page_count, parent, width}

-- no level has more nodes than there are pages
pub narrower : (geometry : GeometryView) (level : ℕ) → width geometry level ≤ page_count geometry
narrower geometry level = pow-le-pow_right {n = arity geometry} (omega (arith, two_at_least geometry.layout)) (omega arith)

-- each node has a place
pub number_inside : (geometry : GeometryView) (level index : ℕ) → IsNode geometry level index → node_number geometry level index < node_end geometry
number_inside geometry level index node = omega (arith, node.1, narrower geometry level)

-- no two nodes stand at one place
pub numbers_apart : (geometry : GeometryView) (level index other at : ℕ) → IsNode geometry level index → IsNode geometry other at →
    node_number geometry level index ≡ node_number geometry other at → (level ≡ other) × (index ≡ at)
numbers_apart geometry level index other at node node' e =
    let same : geometry.levels - level ≡ geometry.levels - other =
    same_power (arity geometry) (geometry.levels - level) (geometry.levels - other) index at (two_at_least geometry.layout) node.1 node'.1 e in
    let power : width geometry level ≡ width geometry other = ap (λ (n : ℕ). arity geometry ^ n) same in
    (omega (arith, same, node.0, node'.0), omega (arith, power, e))

-- a level has as many times more nodes than the one above it as a node has slots
pub width_step : (geometry : GeometryView) (level : ℕ) → level < geometry.levels → width geometry level ≡ width geometry (level + 1) * arity geometry
width_step geometry level below = power_step (arity geometry) geometry.levels level below

-- a parent is a node
pub parent_is : (geometry : GeometryView) (level index : ℕ) → IsNode geometry level index → level < geometry.levels →
    IsNode geometry (parent geometry level index).0 (parent geometry level index).1
parent_is geometry level index node below =
    let inside : index < width geometry (level + 1) * arity geometry = omega (arith, width_step geometry level below, node.1) in
    (omega (arith, below), div_less geometry.layout index (width geometry (level + 1)) inside)

-- and so is a child
pub child_is : (geometry : GeometryView) (level index slot : ℕ) → IsNode geometry level index → 0 < level → slot < arity geometry →
    IsNode geometry (level - 1) (child geometry index slot)
child_is geometry level index slot node above inside =
    let back : level - 1 + 1 ≡ level = omega arith in
    let step = width_step geometry (level - 1) (omega (arith, node.0, above)) in
    let here : width geometry (level - 1 + 1) ≡ width geometry level = ap (λ (n : ℕ). width geometry n) back in
    let less = child_less geometry.layout index slot (width geometry level) node.1 inside in
    (omega (arith, node.0), subst (λ (n : ℕ). child geometry index slot < n) (ap (λ (n : ℕ). n * arity geometry) (sym here) ∙ sym step) less)

-- no level has more than 65536 nodes
pub few_nodes : (geometry : GeometryView) (level index : ℕ) → IsGeometry geometry → IsNode geometry level index → index < 65536
few_nodes geometry level index is node = omega (arith, node.1, narrower geometry level, few_pages geometry is)
