-- What it takes to have a node on the chip.
use Rattle.std.proofs.Common.{◌≡◌, ℕ, ◌+◌, ◌-◌, ◌*◌, ◌^◌, ◌≤◌, ap, ◌∙◌, subst, arith}
use Rattle.std.proofs.Math.Nat.{pow-le-pow_right}
use Rattle.std.proofs.lemmas.Grind.{pow_more}
use Rattle.sec_base.specs.Geometry.{GeometryView}
use Rattle.bonsai_tree.specs.Tree.{present_accesses}

pub present_more : (levels level : ℕ) → level ≤ levels → 2 ^ (levels + 2 - level) ≡ 2 * 2 ^ (levels + 2 - (level + 1))
present_more levels level inside =
    let more : levels + 2 - level ≡ levels + 2 - (level + 1) + 1 = omega arith in
    ap (λ (n : ℕ). 2 ^ n) more ∙ pow_more 2 (levels + 2 - (level + 1)) ∙ (omega arith)

pub present_some : (levels level : ℕ) → level ≤ levels → 2 ≤ 2 ^ (levels + 2 - (level + 1))
present_some levels level inside = pow-le-pow_right {n = 2} (omega arith) {i = 1} {j = levels + 2 - (level + 1)} (omega arith)

-- by the geometry that a tree has as it goes on
pub present_first : (geometry mid : GeometryView) (level first second : ℕ) → level ≤ geometry.levels → mid ≡ geometry →
    second ≤ first + (present_accesses mid.levels (level + 1) + 1) → second ≤ first + present_accesses geometry.levels level
present_first geometry mid level first second inside same room =
    let here : second ≤ first + (present_accesses geometry.levels (level + 1) + 1) =
    subst (λ (k : GeometryView). second ≤ first + (present_accesses k.levels (level + 1) + 1)) same room in
    omega (arith, present_more geometry.levels level inside, present_some geometry.levels level inside, here)

pub present_second : (geometry mid last : GeometryView) (level first second third fourth : ℕ) → level ≤ geometry.levels → mid ≡ geometry → last ≡ geometry →
    second ≤ first + (present_accesses mid.levels (level + 1) + 1) → third ≤ second + present_accesses last.levels (level + 1) → fourth ≤ third + 1 →
    fourth ≤ first + present_accesses geometry.levels level
present_second geometry mid last level first second third fourth inside mid_same last_same room parent one =
    let here : second ≤ first + (present_accesses geometry.levels (level + 1) + 1) =
    subst (λ (k : GeometryView). second ≤ first + (present_accesses k.levels (level + 1) + 1)) mid_same room in
    let there : third ≤ second + present_accesses geometry.levels (level + 1) =
    subst (λ (k : GeometryView). third ≤ second + present_accesses k.levels (level + 1)) last_same parent in
    omega (arith, present_more geometry.levels level inside, present_some geometry.levels level inside, here, there, one)
